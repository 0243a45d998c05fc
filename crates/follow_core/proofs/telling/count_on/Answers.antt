use Rattle.std.proofs.Common.{Option, sym, subst}
use Rattle.stat_core.specs.declared.summary.Summary.{Summary}
use Rattle.beside_core.specs.PensFile.{IsPensFile}
use Rattle.follow_core.specs.Counted.{CountsOn}
use Rattle.follow_core.proofs.telling.count_on.Goals as goal

pub returns-in-Err-count_piece-clause-counted : goal.returns-in-Err-count_piece-clause-counted
returns-in-Err-count_piece-clause-counted g c = λ kept frames file first.
    let e = c.in-Ok-Some.ensures in
    let p = c.in-Err-count_piece.ensures in
    let on = subst (λ (o : Option Summary). CountsOn c.args.shape frames (g.S.Shared.now c.args.file.now) (g.S.Shared.now c.count_frame.new.file) c.args.summary o) c.in-Ok-Some.field-0-is
    (e.counted (p.model kept) frames file first) in
    p.counted kept frames (subst (λ h. IsPensFile c.args.shape h frames) (sym e.same) file) on

pub returns-in-Ok-None-clause-counted : goal.returns-in-Ok-None-clause-counted
returns-in-Ok-None-clause-counted g c = λ kept frames file first.
    subst (λ (o : Option Summary). CountsOn c.args.shape frames (g.S.Shared.now c.args.file.now) (g.S.Shared.now c.count_frame.new.file) c.args.summary o) c.in-Ok-None.field-0-is
    (c.in-Ok-None.ensures.counted kept frames file first)
