use Rattle.std.proofs.Common.{sym, ◌∙◌}
use Rattle.segment_core.proofs.Header.{other_width}
use Rattle.beside_core.proofs.seen.begin.Goals as goal

pub returns-then-shape-width_of : goal.returns-then-shape-width_of
returns-then-shape-width_of g c = other_width g.R.Record.form.width c.in_ok-shape.shape.width c.args.bytes.now c.in_ok-shape.ensures.sound.2.no_fault
    (λ is. c.if-shape-width_of.true (is ∙ sym c.width_of.ensures.is))
