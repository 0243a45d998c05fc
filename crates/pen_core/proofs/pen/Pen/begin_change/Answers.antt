use Rattle.std.proofs.lemmas.Grind.{common_steps}
use Rattle.std.proofs.Common.{length, map, arith}
use Rattle.segment_core.specs.Written.{joined}
use Rattle.pen_core.proofs.RunsBegun.{too_many}
use Rattle.pen_core.proofs.pen.Pen.begin_change.Goals as goal

pub returns-in_default-clause-refused : goal.returns-in_default-clause-refused
returns-in_default-clause-refused g c =
    too_many c.args.self.now c.args.start (length (joined (map (λ piece. piece.now) c.args.pieces.now)))
    c.in_ok-ready.ensures.whole c.in_ok-ready.ensures.idle c.ready.ensures.short c.in_default.ensures

pub returns-in_err-ready-clause-refused : goal.returns-in_err-ready-clause-refused
returns-in_err-ready-clause-refused g c = grind (arith, common_steps)

pub returns-clause-next : goal.returns-clause-next
returns-clause-next g c = grind (arith, common_steps)
