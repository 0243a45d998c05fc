use Rattle.std.proofs.lemmas.Grind.{common_steps}
use Rattle.std.proofs.Common.{◌≡◌, ◌+◌, ◌-◌, ◌^◌, ◌<◌, ◌≤◌, ◌++◌, List, length, Result, Ok, Err, OnOk, true, false, cond, refl, sym, ap, subst, ◌∙◌, arith}
use Rattle.std.specs.Result.{is_err, is_ok}
use Rattle.std.specs.Prelude.{vec_len, vec_capacity}
use Rattle.std.proofs.lemmas.List.{length-map}
use Rattle.segment_core.specs.Frame.{Run}
use Rattle.std.specs.Option.{is_some}
use Rattle.disk_core.specs.Calls.{bytes_of}
use Rattle.segment_core.specs.Parsed.{vector_before}
use Rattle.segment_core.specs.Raw.{AreCellsOf}
use Rattle.segment_core.specs.Runs.{runs_given, change_frame, change_len}
use Rattle.pen_core.specs.Refusals.{fold_len, change_lines}
use Rattle.pen_core.proofs.AtRest.{at_rest}
use Rattle.pen_core.proofs.KeptPen.{none_job, kept_begun}
use Rattle.pen_core.proofs.Begins.{idle_seen, memory_refuses}
use Rattle.pen_core.proofs.RunsBegun.{Allows, allowed_space, allows, Changes, change_begins, change_tells}
use Rattle.pen_core.proofs.pen.Pen.begin_runs_from.Given.{Over}
use Rattle.pen_core.proofs.pen.Pen.begin_runs_from.Goals.{Else-is_err-2}
use Rattle.pen_core.proofs.Whole.{sound_kept}
use Rattle.pen_core.proofs.FrameBegun.{pen_begun, begun_seen, unchanged_seen, begun_as, unchanged_as}
use Rattle.pen_core.proofs.pen.Pen.begin_runs_from.Goals as goal

on_ok : {A E P : Type 0} (r : Result A E) → is_err r ≡ false → OnOk r P → P
on_ok (Ok value) is p = p
on_ok (Err error) is p = absurd cc

appended : {A E X : Type 0} (r : Result A E) → is_err r ≡ false → (old new : List X) → cond (is_ok r) new old ≡ new
appended (Ok value) is old new = refl
appended (Err error) is old new = absurd cc

refused : {A E X : Type 0} (r : Result A E) → is_err r ≡ true → (old new : List X) → cond (is_ok r) new old ≡ old
refused (Ok value) is old new = absurd cc
refused (Err error) is old new = refl

-- what the begin rests on once memory was taken
begins : (g : Over) (c : Else-is_err-2 g)
    → Changes g.R.Record.form g.D.Disk.keeps g.D.Disk.states c.self.inside
    (record c.self.inside {
      next = record c.self.inside.tally { changes = c.self.inside.tally.changes + 1 };
      bytes = c.put_change.new.bytes;
      homes = record { homes = c.self.inside.homes.homes; live = c.extend_from_slice.new.self };
    })
    c.args.runs.now (g.G.GrowthList.growths c.args.pieces.now)
begins g c =
    let s = c.self.inside in
    let runs = c.args.runs.now in
    let given = runs_given runs in
    let laws = g.met.R.Record g.world.𝓛 g.world.𝓜 g.world.𝓡 ((λ s x. x), (λ x. x), (λ x. x), λ x. x) in
    let wrote = sym c.is_err.ensures.value ∙ c.if-is_err.false in
    record {
      sound = c.self.invariant;
      reads = g.met.D.Disk.reads_an_image;
      space =
          subst (λ v. v.gate + (6 + change_len v.shape given) + fold_len v.fold < 2 ^ 48) (sym c.self.view_is)
          (allowed_space c.args.self.now given c.in_ok-payload.ensures.allowed);
      allowed =
          subst (λ v. Allows v.broken (is_some v.job) v.shape v.gate v.tally given) (sym c.self.view_is)
          (allows c.args.self.now given c.in_ok-payload.ensures.allowed);
      spelled = on_ok c.put_change.result wrote c.put_change.ensures.text;
      width = c.requires.width ∙ sym (ap (λ v. v.shape.width) c.self.view_is);
      size_of = laws.width_of_bytes;
      some = c.requires.some;
      filled = c.requires.filled;
      again = on_ok c.put_change.result wrote c.put_change.ensures.read_again;
      next_is = refl;
      homes_same = refl;
      runs_more =
          c.extend_from_slice.ensures.items
          ∙ appended c.extend_from_slice.result (sym c.is_err-2.ensures.value ∙ c.if-is_err-2.false) s.homes.live.items
          (s.homes.live.items ++ runs);
    }

pub invariant_of-self : goal.invariant_of-self
invariant_of-self g c =
    let s = c.self.inside in
    at_rest c.self.invariant (record s { bytes = c.put_change.new.bytes })
    (idle_seen g.D.Disk.states s c.self.view_is c.in_ok-payload.ensures.idle) refl refl

pub invariant_of-self-then-is_err-2 : goal.invariant_of-self-then-is_err-2
invariant_of-self-then-is_err-2 g c =
    let s = c.self.inside in
    at_rest c.self.invariant (record s { bytes = c.put_change.new.bytes; homes = record { homes = s.homes.homes; live = c.extend_from_slice.new.self } })
    (idle_seen g.D.Disk.states s c.self.view_is c.in_ok-payload.ensures.idle) refl (c.extend_from_slice.ensures.items
    ∙ refused c.extend_from_slice.result (sym c.is_err-2.ensures.value ∙ c.if-is_err-2.true) s.homes.live.items
    (s.homes.live.items ++ c.args.runs.now))

pub invariant_of-self-2 : goal.invariant_of-self-2
invariant_of-self-2 g c = pen_begun (change_begins (begins g (goal.at.invariant_of-self-2 g c).Else-is_err-2))

pub returns-clause-begun : goal.returns-clause-begun
returns-clause-begun g c = begun_as c.self.view_is (begun_seen (change_begins (begins g (goal.at.returns-clause-begun g c).Else-is_err-2)))

pub returns-clause-next : goal.returns-clause-next
returns-clause-next g c = λ records read. (
    let s = c.self.inside in
    change_tells (begins g (goal.at.returns-clause-next g c).Else-is_err-2)
    (vector_before s.shape s.gate (bytes_of (g.D.Disk.states s.disk))) records
    (subst (λ v. AreCellsOf g.R.Record.form v.vector records) (sym c.self.view_is) read))

pub returns-then-is_err-clause-kept : goal.returns-then-is_err-clause-kept
returns-then-is_err-clause-kept g c = sound_kept (invariant_of-self g c)

pub returns-then-is_err-2-clause-kept : goal.returns-then-is_err-2-clause-kept
returns-then-is_err-2-clause-kept g c = sound_kept (invariant_of-self-then-is_err-2 g c)

pub returns-clause-kept : goal.returns-clause-kept
returns-clause-kept g c =
    kept_begun g.D.Disk.keeps g.D.Disk.states c.args.self.now _ c.change_size.ensures.kept
    (change_frame g.R.Record.form (runs_given c.args.runs.now) (g.G.GrowthList.growths c.args.pieces.now))
    (none_job c.args.self.now c.in_ok-payload.ensures.idle) (returns-clause-begun g c)

pub returns-then-is_err-clause-unchanged : goal.returns-then-is_err-clause-unchanged
returns-then-is_err-clause-unchanged g c =
    let s = c.self.inside in
    unchanged_as c.self.view_is (unchanged_seen g.D.Disk.states s (record s { bytes = c.put_change.new.bytes })
    (idle_seen g.D.Disk.states s c.self.view_is c.in_ok-payload.ensures.idle))

pub returns-then-is_err-2-clause-unchanged : goal.returns-then-is_err-2-clause-unchanged
returns-then-is_err-2-clause-unchanged g c =
    let s = c.self.inside in
    unchanged_as c.self.view_is (unchanged_seen g.D.Disk.states s (record s { bytes = c.put_change.new.bytes; homes = record { homes = s.homes.homes; live = c.extend_from_slice.new.self } })
    (idle_seen g.D.Disk.states s c.self.view_is c.in_ok-payload.ensures.idle))

pub returns-then-is_err-2-clause-sure : goal.returns-then-is_err-2-clause-sure
returns-then-is_err-2-clause-sure g c = λ readied.
    let s = c.self.inside in
    let runs = runs_given c.args.runs.now in
    let places : length runs ≤ vec_capacity s.homes.live - vec_len s.homes.live =
    subst (λ v. length runs ≤ v.places) (sym c.self.view_is) readied.places in
    let room =
    c.extend_from_slice.ensures.succeeds
    (omega (
      arith,
      places,
      c.requires.some,
      length-map {B = Run} c.args.runs.now (λ run. record { start = run.0; count = run.1 }),
    )) in
    sym c.if-is_err-2.ensures.negation ∙ room

pub overflow_add-self : goal.overflow_add-self
overflow_add-self g c =
    let space =
    subst (λ v. v.gate + (6 + change_len v.shape (runs_given c.args.runs.now)) + fold_len v.fold < 2 ^ 48)
    (sym c.self.view_is)
    (allowed_space c.args.self.now (runs_given c.args.runs.now) c.in_ok-payload.ensures.allowed) in
    omega (arith, space, c.self.invariant.job.changes_fit)

pub returns-then-is_err-clause-refused : goal.returns-then-is_err-clause-refused
returns-then-is_err-clause-refused g c =
    memory_refuses (change_lines c.args.self.now (runs_given c.args.runs.now)) c.in_ok-payload.ensures.allowed

pub returns-then-is_err-2-clause-refused : goal.returns-then-is_err-2-clause-refused
returns-then-is_err-2-clause-refused g c =
    memory_refuses (change_lines c.args.self.now (runs_given c.args.runs.now)) c.in_ok-payload.ensures.allowed

pub put_change-requires-clause-len : goal.put_change-requires-clause-len
put_change-requires-clause-len g c = grind (arith, common_steps)
