use Rattle.phase_core.proofs.GrowerSame.{same_seat}
use Rattle.phase_core.proofs.grower.Grower.find.Goals as goal

pub returns-clause-same : goal.returns-clause-same
returns-clause-same g c = same_seat c.args.self.now c.find_equal.new.seat _ c.find_equal.ensures.same
