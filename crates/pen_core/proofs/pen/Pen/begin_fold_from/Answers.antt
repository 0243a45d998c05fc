use Rattle.std.proofs.lemmas.Grind.{common_steps}
use Rattle.std.proofs.Common.{◌≡◌, ◌≤◌, ◌<◌, ◌+◌, ◌^◌, Result, Ok, Err, OnOk, true, false, length, map, take, All, Some, refl, sym, ap, subst, ◌∙◌, arith, inr}
use Rattle.std.specs.Result.{is_err}
use Rattle.std.proofs.lemmas.List.{length-take-le}
use Rattle.segment_core.specs.Written.{joined}
use Rattle.pen_core.specs.declared.fold.Fold.{Fold}
use Rattle.pen_core.specs.declared.stage.FoldStage.TheVariants.{Home}
use Rattle.pen_core.specs.InHand.{left_of}
use Rattle.pen_core.specs.Covered.{IsCover}
use Rattle.pen_core.specs.Fields.{seen_as}
use Rattle.pen_core.specs.HomeRuns.{AreHomesTo}
use Rattle.pen_core.specs.Pen.{IsReadyToFold}
use Rattle.pen_core.specs.Plan.{IsPlan}
use Rattle.pen_core.proofs.AtRest.{pen_unbegun, unbegun_seen}
use Rattle.pen_core.proofs.FrameBegun.{unchanged_as}
use Rattle.pen_core.proofs.KeptPen.{kept_folding, kept_unchanged}
use Rattle.pen_core.proofs.FoldListed.{some_live, small_live, live_inside, inside_cover}
use Rattle.pen_core.proofs.HomesTo.{AreHomesTo-pen}
use Rattle.pen_core.proofs.Taken.{Takes, plan_for, pen_takes, some_left, whole_taken, length_left}
use Rattle.pen_core.proofs.pen.Pen.begin_fold_from.Given.{Over}
use Rattle.pen_core.proofs.pen.Pen.begin_fold_from.Goals.{Else-not-branch, After-len}
use Rattle.pen_core.proofs.pen.Pen.begin_fold_from.Goals as goal

on_ok : {A E P : Type 0} (r : Result A E) → is_err r ≡ false → OnOk r P → P
on_ok (Ok value) is p = p
on_ok (Err error) is p = absurd cc

-- there is something to fold, and room
ready : (g : Over) (c : Else-not-branch g) → IsReadyToFold (seen_as g.D.Disk.states c.self.inside) true
ready g c =
    subst (λ v. IsReadyToFold v true) (sym c.self.view_is)
    (subst (IsReadyToFold c.args.self.now) c.if-not-branch.false c.in_ok-ready_fold.ensures.ready)

pub slice_bounds-live-end : goal.slice_bounds-live-end
slice_bounds-live-end g c =
    let s = c.self.inside in
    let inside = live_inside c.self.invariant.lists in
    sym (length-take-le s.live c.deref.result.now (omega (arith, inside, ap length c.deref.ensures.value)))

pub plan-requires-clause-some : goal.plan-requires-clause-some
plan-requires-clause-some g c κs within =
    let s = c.self.inside in
    subst (λ runs. All (λ run. 0 < run.1) (take s.live runs)) (sym c.deref.ensures.value) (some_live c.self.invariant.lists)

pub plan-requires-clause-small : goal.plan-requires-clause-small
plan-requires-clause-small g c κs within =
    let s = c.self.inside in
    subst (λ runs. All (λ run. run.0 + run.1 ≤ 2 ^ 32) (take s.live runs)) (sym c.deref.ensures.value)
    (small_live c.self.invariant.lists)

pub plan-requires-clause-inside : goal.plan-requires-clause-inside
plan-requires-clause-inside g c κs within =
    let s = c.self.inside in
    λ cover is.
    inside_cover c.self.invariant.lists cover (subst (λ runs. IsCover (take s.live runs) cover) c.deref.ensures.value is)

pub plan-requires-clause-homes : goal.plan-requires-clause-homes
plan-requires-clause-homes g c κs within =
    let s = c.self.inside in
    let room = (ready g (goal.at.plan-requires-clause-homes g c).Else-not-branch).3 in
    subst (AreHomesTo s.shape.width s.tally.size) (sym c.deref-2.ensures.value)
    (AreHomesTo-pen c.self.invariant (omega (arith, room)))

-- ---- where memory is refused

pub invariant_of-self : goal.invariant_of-self
invariant_of-self g c =
    pen_unbegun c.self.invariant c.plan.new.self (ready g (goal.at.invariant_of-self g c).Else-not-branch).1 c.plan.ensures.same.0

pub returns-then-is_err-clause-unchanged : goal.returns-then-is_err-clause-unchanged
returns-then-is_err-clause-unchanged g c =
    unchanged_as c.self.view_is (unbegun_seen c.self.invariant c.plan.new.self
    (ready g (goal.at.returns-then-is_err-clause-unchanged g c).Else-not-branch).1 c.plan.ensures.same.0)

pub returns-then-is_err-clause-kept : goal.returns-then-is_err-clause-kept
returns-then-is_err-clause-kept g c =
    kept_unchanged g.D.Disk.keeps g.D.Disk.states c.args.self.now _ c.ready_fold.ensures.kept
    (returns-then-is_err-clause-unchanged g c)

pub invariant_of-self-then-is_err-2 : goal.invariant_of-self-then-is_err-2
invariant_of-self-then-is_err-2 g c =
    pen_unbegun c.self.invariant (record c.plan.new.self { frame = c.put_fold.new.bytes })
    (ready g (goal.at.invariant_of-self-then-is_err-2 g c).Else-not-branch).1 c.plan.ensures.same.0

pub returns-then-is_err-2-clause-unchanged : goal.returns-then-is_err-2-clause-unchanged
returns-then-is_err-2-clause-unchanged g c =
    unchanged_as c.self.view_is (unbegun_seen c.self.invariant (record c.plan.new.self { frame = c.put_fold.new.bytes })
    (ready g (goal.at.returns-then-is_err-2-clause-unchanged g c).Else-not-branch).1 c.plan.ensures.same.0)

pub returns-then-is_err-2-clause-kept : goal.returns-then-is_err-2-clause-kept
returns-then-is_err-2-clause-kept g c =
    kept_unchanged g.D.Disk.keeps g.D.Disk.states c.args.self.now _ c.ready_fold.ensures.kept
    (returns-then-is_err-2-clause-unchanged g c)

-- ---- a fold is begun

abbrev begun : (g : Over) (c : After-len g) → Fold
begun g c = record {
  stage = Home c.len.result;
  count = c.self.inside.tally.changes;
  runs = c.self.inside.live;
  writes = c.plan.new.self.writes;
  done = c.plan.new.self.done;
  bytes = c.plan.new.self.bytes;
  frame = c.put_fold.new.bytes;
}

-- what it is begun from
takes : (g : Over) (c : After-len g)
    → Takes g.R.Record.form (take c.self.inside.tally.size (joined (g.G.GrowthList.growths c.args.pieces.now)))
    g.D.Disk.keeps g.D.Disk.states c.self.inside (begun g c)
takes g c =
    let s = c.self.inside in
    let form = g.R.Record.form in
    let laws = g.met.R.Record g.world.𝓛 g.world.𝓜 g.world.𝓡 ((λ s x. x), (λ x. x), (λ x. x), λ x. x) in
    let width : form.width ≡ s.shape.width = c.requires.width ∙ sym (ap (λ v. v.shape.width) c.self.view_is) in
    let given = joined (g.G.GrowthList.growths c.args.pieces.now) in
    let records = take s.tally.size given in
    let size : s.tally.size ≤ length given = subst (λ v. v.tally.size ≤ length given) (sym c.self.view_is) c.requires.all in
    let made = sym c.is_err.ensures.value ∙ c.if-is_err.false in
    let planned =
    subst (λ runs. IsPlan form records s.shape.width s.tally.size (take s.live runs) s.homes.homes.items c.plan.new.self)
    c.deref.ensures.value
    (subst (λ hs. IsPlan form records s.shape.width s.tally.size (take s.live c.deref.result.now) hs c.plan.new.self)
    c.deref-2.ensures.value (on_ok c.plan.result made c.plan.ensures.planned)) in
    record {
      sound = c.self.invariant;
      ready = ready g (goal.at.After-len g c).Else-not-branch;
      plan = plan_for form records s.shape.width s.tally.size (take s.live s.homes.live.items) s.homes.homes.items c.plan.new.self (begun g c) refl refl planned;
      size_of = λ r. laws.width_of_bytes r ∙ width;
      all = length-take-le s.tally.size given size;
      values = subst (λ v. g.D.Disk.keeps v.disk → v.vector ≡ map form.bytes_of (take v.tally.size given)) (sym c.self.view_is) c.requires.values;
      spelled = on_ok c.put_fold.result (sym c.is_err-2.ensures.value ∙ c.if-is_err-2.false) c.put_fold.ensures.text s.shape.format;
      at = ap (λ n. Home n) (c.len.ensures ∙ c.plan.new.self.writes.ok.0);
      count_is = refl;
      runs_is = refl;
      first = on_ok c.plan.result made c.plan.ensures.from_first;
    }

pub invariant_of-self-2 : goal.invariant_of-self-2
invariant_of-self-2 g c = pen_takes (takes g (goal.at.invariant_of-self-2 g c).After-len)

pub returns-clause-begun : goal.returns-clause-begun
returns-clause-begun g c = rw (← c.self.view_is) (
    let s = c.self.inside in
    let fold = begun g (goal.at.returns-clause-begun g c).After-len in
    let from = takes g (goal.at.returns-clause-begun g c).After-len in
    record {
      ready = from.ready;
      left = left_of fold;
      some = some_left from;
      fold_is =
          ap (λ n. Some (record { count = s.tally.changes; left = left_of fold; stage = Home n }))
          (c.len.ensures ∙ c.plan.new.self.writes.ok.0 ∙ sym (length_left fold from.first));
      disk_same = refl;
      file_same = record { frames_same = refl; vector_same = refl };
      job_same = refl;
      broken_same = refl;
      shape_same = refl;
      tally_same = refl;
      gate_same = refl;
      room_same = refl;
      places_same = refl;
    })

pub returns-clause-plans : goal.returns-clause-plans
returns-clause-plans g c = rw (← c.self.view_is) (whole_taken (takes g (goal.at.returns-clause-plans g c).After-len))

pub returns-clause-kept : goal.returns-clause-kept
returns-clause-kept g c = kept_folding g.D.Disk.keeps g.D.Disk.states c.args.self.now _ c.ready_fold.ensures.kept (returns-clause-begun g c)

pub returns-then-is_err-clause-refused : goal.returns-then-is_err-clause-refused
returns-then-is_err-clause-refused g c =
    inr (refl, subst (IsReadyToFold c.args.self.now) c.if-not-branch.false c.in_ok-ready_fold.ensures.ready)

pub returns-then-is_err-2-clause-refused : goal.returns-then-is_err-2-clause-refused
returns-then-is_err-2-clause-refused g c =
    inr (refl, subst (IsReadyToFold c.args.self.now) c.if-not-branch.false c.in_ok-ready_fold.ensures.ready)

pub plan-requires-clause-width : goal.plan-requires-clause-width
plan-requires-clause-width g c κs within =
    let laws = g.met.R.Record g.world.𝓛 g.world.𝓜 g.world.𝓡 ((λ s x. x), (λ x. x), (λ x. x), λ x. x) in
    laws.width_in_range.1

pub plan-requires-clause-all : goal.plan-requires-clause-all
plan-requires-clause-all g c κs within =
    subst (λ pen. pen.tally.size ≤ length (joined (g.G.GrowthList.growths c.args.pieces.now))) (sym c.self.view_is) c.requires.all

pub returns-then-not-branch-clause-plans : goal.returns-then-not-branch-clause-plans
returns-then-not-branch-clause-plans g c = grind (arith, common_steps)

pub returns-then-not-branch-clause-begun : goal.returns-then-not-branch-clause-begun
returns-then-not-branch-clause-begun g c = grind (arith, common_steps)
