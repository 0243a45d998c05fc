use Rattle.std.proofs.Common.{refl}
use Rattle.segment_core.proofs.Walked.{behind_none}
use Rattle.segment_core.proofs.walk.Walk.new.Goals as goal

pub returns-clause-behind : goal.returns-clause-behind
returns-clause-behind g c =
    let laws = g.met.R.Record g.world.𝓛 g.world.𝓜 g.world.𝓡 ((λ s x. x), (λ x. x), (λ x. x), λ x. x) in
    behind_none g.R.Record.form _ laws.width_in_range.0 c.requires refl refl refl (c.new.ensures.found c.args.shape.format)
