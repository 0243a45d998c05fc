use Rattle.phase_core.proofs.GrowerSame.{same_seat}
use Rattle.phase_core.proofs.grower.Grower.count.Goals as goal

pub returns-clause-same : goal.returns-clause-same
returns-clause-same g c = same_seat c.args.self.now c.count_equal.new.seat _ c.count_equal.ensures.same
