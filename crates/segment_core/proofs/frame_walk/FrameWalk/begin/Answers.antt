use Rattle.std.proofs.Common.{◌≡◌, ◌++◌, drop, sym, subst, ◌∙◌}
use Rattle.std.proofs.lemmas.Result.{err_from_is_err_and}
use Rattle.segment_core.specs.declared.format.Shape.{Shape}
use Rattle.segment_core.specs.Frame.{header}
use Rattle.segment_core.specs.Fault.{IsSound}
use Rattle.segment_core.proofs.FrameWalked.{header_here, header_begins}
use Rattle.segment_core.proofs.frame_walk.FrameWalk.begin.Goals as goal

pub returns-in_err-format-clause-header : goal.returns-in_err-format-clause-header
returns-in_err-format-clause-header c = λ bytes prefix. (
    let p = err_from_is_err_and c.from_residual.result c.from_residual.ensures.1 in
    rw (p.1, p.2) (header_here c.args.width c.args.front.now bytes c.args.left prefix c.requires.enough ∙ c.in_err-format.ensures))

pub returns-clause-header : goal.returns-clause-header
returns-clause-header c = λ bytes prefix. (
    let found = c.in_ok-format.ensures in
    let shape : Shape = record { format = c.in_ok-format.format; width = c.args.width } in
    let begins = header_begins shape c.args.front.now bytes c.args.left prefix c.requires.enough found.0 found.1 found.2 in
    subst (λ (s : Shape). IsSound c.args.width s.format bytes × (bytes ≡ header s ++ drop 11 bytes)) (sym c.new.ensures.shape) (begins.0, begins.1))
