use Rattle.std.proofs.Common.{◌≡◌, Result, Ok, Err, OnOk, None, false, refl, sym, ap, subst, ◌∙◌, arith}
use Rattle.std.specs.Result.{is_err}
use Rattle.std.proofs.lemmas.List.{length-map}
use Rattle.segment_core.specs.Frame.{Run}
use Rattle.segment_core.specs.Runs.{runs_given, change_len}
use Rattle.pen_core.specs.Refusals.{first_refusal, change_lines}
use Rattle.pen_core.proofs.AtRest.{at_rest}
use Rattle.pen_core.proofs.Begins.{idle_seen, no_job_same, memory_refuses}
use Rattle.pen_core.proofs.Worked.{unchanged_pen}
use Rattle.pen_core.proofs.Whole.{sound_kept}
use Rattle.pen_core.proofs.FrameBegun.{unchanged_seen, unchanged_as}
use Rattle.pen_core.proofs.pen.Pen.ready_runs.Goals as goal

on_ok : {A E P : Type 0} (r : Result A E) → is_err r ≡ false → OnOk r P → P
on_ok (Ok value) is p = p
on_ok (Err error) is p = absurd cc

pub invariant_of-self : goal.invariant_of-self
invariant_of-self g c =
    let s = c.self.inside in
    at_rest c.self.invariant (record s { bytes = c.take_room.new.bytes })
    (idle_seen g.D.Disk.states s c.self.view_is c.in_ok-payload.ensures.idle) refl refl

pub invariant_of-self-then-is_err-2 : goal.invariant_of-self-then-is_err-2
invariant_of-self-then-is_err-2 g c =
    let s = c.self.inside in
    at_rest c.self.invariant (record s { bytes = c.take_room.new.bytes; homes = record { homes = s.homes.homes; live = c.reserve.new.self } })
    (idle_seen g.D.Disk.states s c.self.view_is c.in_ok-payload.ensures.idle) refl c.reserve.ensures.items

pub invariant_of-self-2 : goal.invariant_of-self-2
invariant_of-self-2 g c =
    let s = c.self.inside in
    at_rest c.self.invariant (record s { bytes = c.take_room.new.bytes; homes = record { homes = s.homes.homes; live = c.reserve.new.self } })
    (idle_seen g.D.Disk.states s c.self.view_is c.in_ok-payload.ensures.idle) refl c.reserve.ensures.items

pub returns-then-is_err-clause-kept : goal.returns-then-is_err-clause-kept
returns-then-is_err-clause-kept g c = sound_kept (invariant_of-self g c)

pub returns-then-is_err-2-clause-kept : goal.returns-then-is_err-2-clause-kept
returns-then-is_err-2-clause-kept g c = sound_kept (invariant_of-self-then-is_err-2 g c)

pub returns-clause-kept : goal.returns-clause-kept
returns-clause-kept g c = sound_kept (invariant_of-self-2 g c)

pub returns-then-is_err-clause-unchanged : goal.returns-then-is_err-clause-unchanged
returns-then-is_err-clause-unchanged g c =
    let s = c.self.inside in
    unchanged_as c.self.view_is (unchanged_seen g.D.Disk.states s (record s { bytes = c.take_room.new.bytes })
    (idle_seen g.D.Disk.states s c.self.view_is c.in_ok-payload.ensures.idle))

pub returns-then-is_err-2-clause-unchanged : goal.returns-then-is_err-2-clause-unchanged
returns-then-is_err-2-clause-unchanged g c =
    let s = c.self.inside in
    unchanged_as c.self.view_is (unchanged_seen g.D.Disk.states s (record s { bytes = c.take_room.new.bytes; homes = record { homes = s.homes.homes; live = c.reserve.new.self } })
    (idle_seen g.D.Disk.states s c.self.view_is c.in_ok-payload.ensures.idle))

pub returns-clause-unchanged : goal.returns-clause-unchanged
returns-clause-unchanged g c = rw (← c.self.view_is) (
    let s = c.self.inside in
    let idle = idle_seen g.D.Disk.states s c.self.view_is c.in_ok-payload.ensures.idle in
    record {
      disk_same = refl;
      file_same = record { frames_same = refl; vector_same = refl };
      job_same = no_job_same s.shape s.bytes.items c.take_room.new.bytes.items s.step idle;
      broken_same = refl;
      shape_same = refl;
      fold_same = refl;
      tally_same = refl;
      gate_same = refl;
    })

pub returns-clause-ready : goal.returns-clause-ready
returns-clause-ready g c =
    let runs = runs_given c.args.runs.now in
    let size : c.in_ok-payload.payload ≡ change_len c.self.inside.shape runs =
    c.in_ok-payload.ensures.size ∙ ap (λ v. change_len v.shape runs) (sym c.self.view_is) in
    let room = on_ok c.take_room.result (sym c.is_err.ensures.value ∙ c.if-is_err.false) c.take_room.ensures.room in
    let places = on_ok c.reserve.result (sym c.is_err-2.ensures.value ∙ c.if-is_err-2.false) c.reserve.ensures.ok in
    record {
      allowed =
          subst (λ v. first_refusal (change_lines v runs) ≡ None)
          (sym (unchanged_pen c.args.self.now _ (returns-clause-unchanged g c))) c.in_ok-payload.ensures.allowed;
      room = omega (arith, size, room);
      places = omega (arith, places, length-map {B = Run} c.args.runs.now (λ run. record { start = run.0; count = run.1 }));
    }

pub returns-then-is_err-clause-refused : goal.returns-then-is_err-clause-refused
returns-then-is_err-clause-refused g c =
    memory_refuses (change_lines c.args.self.now (runs_given c.args.runs.now)) c.in_ok-payload.ensures.allowed

pub returns-then-is_err-2-clause-refused : goal.returns-then-is_err-2-clause-refused
returns-then-is_err-2-clause-refused g c =
    memory_refuses (change_lines c.args.self.now (runs_given c.args.runs.now)) c.in_ok-payload.ensures.allowed
