use Rattle.std.proofs.Common.{◌<◌, ℕ, ◌++◌, length, subst, ◌∙◌, arith}
use Rattle.std.proofs.lemmas.Result.{err_from_is_err_and}
use Rattle.segment_core.specs.declared.format.Shape.{Shape}
use Rattle.segment_core.specs.Frame.{text}
use Rattle.beside_core.specs.Counting.{StepsOver}
use Rattle.beside_core.specs.Fault.{HasSeen}
use Rattle.beside_core.proofs.Counted.{counted_all, counted_more, counted_sound}
use Rattle.beside_core.proofs.Walking.{later_stand}
use Rattle.beside_core.proofs.bookmark.Bookmark.count_frames.Goals as goal

pub returns-in_err-gate-clause-counted : goal.returns-in_err-gate-clause-counted
returns-in_err-gate-clause-counted g c =
    let p = err_from_is_err_and c.from_residual.result c.from_residual.ensures.1 in
    rw (p.1, p.2) (λ kept shape frames known file lies more.
    let i = c.loop-gate.invariant in
    let e = c.in_err-gate.ensures in
    let held = g.S.Shared.held c.args.file.now in
    let s = g.S.Shared.now c.loop-gate.file in
    let t = g.S.Shared.now c.step_over.new.file in
    let gate : ℕ = c.loop-gate.gate in
    let there = later_stand shape held frames file (g.S.Shared.now c.args.file.now) s known more.0 i.time more.1 in
    let before : gate < length (text shape known) = omega (arith, c.loop-gate-test.true, lies.gate_is) in
    let seen : HasSeen shape held s t gate c.in_err-gate.field-0.0 = subst (λ (sh : Shape). HasSeen sh held s t gate c.in_err-gate.field-0.0) lies.shape_is (subst
    (λ h. HasSeen c.args.self.now.shape h s t gate c.in_err-gate.field-0.0) i.same (e.seen kept)) in
    counted_sound shape held frames file known (more.0 ++ there.0) s t gate c.loop-gate.count there.1 (i.counted (e.model kept) shape frames known file lies more) before
    c.in_err-gate.field-0.0 seen)

pub loop-gate-preserved : goal.loop-gate-preserved
loop-gate-preserved g c =
    let i = c.loop-gate.invariant in
    let e = c.in_ok-gate.ensures in
    record {
      same = e.same ∙ i.same;
      time = omega (arith, i.time, e.time);
      settles_none = e.settles_none ∙ i.settles_none;
      model = λ kept. i.model (e.model kept);
      few = omega (arith, i.few, e.later.0);
      counted = λ kept shape frames known file lies more. (
          let held = g.S.Shared.held c.args.file.now in
          let s = g.S.Shared.now c.loop-gate.file in
          let t = g.S.Shared.now c.step_over.new.file in
          let gate : ℕ = c.loop-gate.gate in
          let there = later_stand shape held frames file (g.S.Shared.now c.args.file.now) s known more.0 i.time more.1 in
          let before : gate < length (text shape known) = omega (arith, c.loop-gate-test.true, lies.gate_is) in
          let stepped : StepsOver held s t gate c.in_ok-gate.gate = subst (λ h. StepsOver h s t gate c.in_ok-gate.gate) i.same (e.stepped kept) in
          counted_more shape held frames file known (more.0 ++ there.0) s t gate c.loop-gate.count there.1 (i.counted (e.model kept) shape frames known file lies more) before
          c.in_ok-gate.gate stepped);
    }

pub returns-clause-counted : goal.returns-clause-counted
returns-clause-counted g c = λ kept shape frames known file lies more.
    counted_all shape known c.loop-gate.gate c.loop-gate.count (c.loop-gate.invariant.counted kept shape frames known file lies more)
    (omega (arith, c.loop-gate-test.false, lies.gate_is))
