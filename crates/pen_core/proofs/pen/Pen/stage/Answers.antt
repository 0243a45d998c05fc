use Rattle.pen_core.proofs.FoldSeen.{left_told}
use Rattle.pen_core.proofs.pen.Pen.stage.Goals as goal

pub returns-clause-homes : goal.returns-clause-homes
returns-clause-homes g c = rw (← c.self.view_is) (left_told c.self.invariant)
