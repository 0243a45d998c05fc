use Rattle.phase_core.proofs.GrowerSame.{same_seat}
use Rattle.phase_core.proofs.grower.Grower.read.Goals as goal

pub returns-in-Some-clause-same : goal.returns-in-Some-clause-same
returns-in-Some-clause-same g c = same_seat c.args.self.now c.piece.new.seat _ c.piece.ensures.same

pub returns-in-None-clause-same : goal.returns-in-None-clause-same
returns-in-None-clause-same g c = same_seat c.args.self.now c.piece.new.seat _ c.piece.ensures.same
