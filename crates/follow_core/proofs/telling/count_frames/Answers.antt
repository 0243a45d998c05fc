use Rattle.std.proofs.Common.{◌+◌, Option, sym, subst, ◌∙◌, arith}
use Rattle.std.specs.Prelude.{IfSome}
use Rattle.stat_core.specs.Summary.{AreFew}
use Rattle.stat_core.specs.declared.summary.Summary.{Summary}
use Rattle.beside_core.specs.PensFile.{IsPensFile}
use Rattle.follow_core.specs.Counted.{CountsOn}
use Rattle.follow_core.proofs.Fronts.{counted_ended}
use Rattle.follow_core.proofs.telling.count_frames.Goals as goal

pub loop-summary-preserved : goal.loop-summary-preserved
loop-summary-preserved g c =
    let i = c.loop-summary.invariant in
    let e = c.in-Ok-Some.ensures in
    record {
      few = subst (λ (o : Option Summary). IfSome o AreFew) c.in-Ok-Some.field-0-is e.few;
      same = e.same ∙ i.same;
      time = omega (arith, i.time, e.time);
      model = λ kept. i.model (e.model kept);
      counted = λ kept frames file.
          subst (λ (o : Option Summary). CountsOn c.args.shape frames (g.S.Shared.now c.loop-summary.file) (g.S.Shared.now c.count_on.new.file) c.loop-summary.summary o) c.in-Ok-Some.field-0-is
          (e.counted kept frames (subst (λ h. IsPensFile c.args.shape h frames) (sym i.same) file) (i.counted (e.model kept) frames file));
    }

pub returns-in-Ok-None-clause-counted : goal.returns-in-Ok-None-clause-counted
returns-in-Ok-None-clause-counted g c = λ kept frames file.
    let i = c.loop-summary.invariant in
    let e = c.in-Ok-None.ensures in
    let s = g.S.Shared.now c.loop-summary.file in
    let t = g.S.Shared.now c.count_on.new.file in
    let on = subst (λ (o : Option Summary). CountsOn c.args.shape frames s t c.loop-summary.summary o) c.in-Ok-None.field-0-is
    (e.counted kept frames (subst (λ h. IsPensFile c.args.shape h frames) (sym i.same) file) (i.counted (e.model kept) frames file)) in
    counted_ended c.args.shape frames (g.S.Shared.now c.args.file.now) s t c.loop-summary.summary (c.loop-summary.summary.gate + 1) i.time on

pub returns-in-Err-clause-counted : goal.returns-in-Err-clause-counted
returns-in-Err-clause-counted g c = λ kept frames file.
    let i = c.loop-summary.invariant in
    let e = c.in-Err.ensures in
    e.counted kept frames (subst (λ h. IsPensFile c.args.shape h frames) (sym i.same) file) (i.counted (e.model kept) frames file)
