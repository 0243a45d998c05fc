use Rattle.std.proofs.Common.{◌≡◌, ℕ, List, Err, None, false, inl, inr, refl, ap, arith}
use Rattle.disk_core.specs.declared.fault.DiskFault.{DiskFault}
use Rattle.segment_core.specs.declared.format.Shape.{Shape}
use Rattle.segment_core.specs.Tally.{nothing}
use Rattle.pen_core.specs.PenLog.{PenLog}
use Rattle.pen_core.specs.declared.fault.PenFault.TheVariants.{Memory, Exists, Disk}
use Rattle.pen_core.proofs.NewPen.{new_frames, new_vector, new_pen}
use Rattle.pen_core.proofs.InHand.{no_fold_at, no_fold_seen, pen_unfolded}
use Rattle.pen_core.proofs.Listed.{listed_new}
use Rattle.pen_core.proofs.Whole.{sound_kept}
use Rattle.pen_core.proofs.AtRest.{sound}
use Rattle.pen_core.proofs.pen.Pen.create_as.Goals as goal

abbrev new_log : Shape → List ℕ → PenLog
new_log shape bytes = record { shape = shape; gate = 11; tally = nothing; bytes = bytes; step = None; broken = false }

not_exists : Memory ≡ Exists → ⊥
not_exists is = absurd cc

not_disk : (cause : DiskFault) → Memory ≡ Disk cause → ⊥
not_disk cause is = absurd cc

-- memory was refused
pub returns-in_default : goal.returns-in_default
returns-in_default g c = record {
  created = tt;
  file = tt;
  kept = tt;
  born = λ model none later image left. absurd (omega (arith, later));
  none_existed = tt;
  existed = λ model there. inl refl;
  exists = λ model is. absurd (not_exists is);
  refused = inl (refl, refl);
  time = omega arith;
  later = λ fault. elim fault [
    | inl is ↦ absurd (not_exists is)
    | inr is ↦ absurd (not_disk is.0 is.1)
  ];
  calls = λ model. omega arith;
  faults = omega arith;
  model = λ model. model;
}

-- a call failed, or there is a file
pub returns-in-Err : goal.returns-in-Err
returns-in-Err g c =
    let made = c.in-Err.ensures in
    record {
      created = tt;
      file = tt;
      kept = tt;
      born = made.born;
      none_existed = tt;
      existed = λ model there. inr (made.existed model there);
      exists = λ model is. made.exists model (ap (λ f. Err f) is);
      refused = inr made.refused;
      time = made.time;
      later = λ fault. made.later;
      calls = made.calls;
      faults = made.faults;
      model = made.model;
    }

pub invariant_of-result : goal.invariant_of-result
invariant_of-result g c =
    let new = c.make.new.disk in
    let keeps = g.D.Disk.keeps new in
    let states = g.D.Disk.states new in
    let log = new_log (record { format = c.args.format; width = c.args.width }) c.in-Ok.bytes.items in
    let done = c.in_default-make.ensures.done in
    sound (
      pen_unfolded c.none.result c.none.ensures
          (new_pen keeps states log refl refl refl done (c.requires, c.ranges.width.fits)),
      listed_new keeps states log c.new.result c.none.result refl refl refl c.none.ensures c.new.ensures.homes
          c.new.ensures.live (new_frames keeps states log refl refl refl done),
      no_fold_at keeps states log c.none.result c.none.ensures,
    )

pub returns : goal.returns
returns g c =
    let new = c.make.new.disk in
    let keeps = g.D.Disk.keeps new in
    let states = g.D.Disk.states new in
    let log = new_log (record { format = c.args.format; width = c.args.width }) c.in-Ok.bytes.items in
    let made = c.in_default-make.ensures in
    record {
      created = record {
        shape_is = refl;
        tally_is = refl;
        gate_is = refl;
        no_job = refl;
        no_fold = no_fold_seen c.none.result c.none.ensures;
        whole = refl;
      };
      file = λ model. record {
        frames_are = new_frames keeps states log refl refl refl made.done model;
        vector_is = new_vector keeps states log refl refl refl made.done model;
      };
      kept = sound_kept (invariant_of-result g c);
      born = made.born;
      none_existed = made.none_existed;
      existed = tt;
      exists = tt;
      refused = tt;
      time = made.time;
      later = made.later;
      calls = made.calls;
      faults = made.faults;
      model = made.model;
    }
