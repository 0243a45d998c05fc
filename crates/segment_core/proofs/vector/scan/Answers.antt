use Rattle.segment_core.proofs.OneVector.{is_scanned}
use Rattle.segment_core.proofs.vector.scan.Goals as goal

pub returns-clause-only : goal.returns-clause-only
returns-clause-only g c = λ format frames records has. (
    let laws = g.met.R.Record g.world.𝓛 g.world.𝓜 g.world.𝓡 ((λ s x. x), (λ x. x), (λ x. x), λ x. x) in
    is_scanned format g.R.Record.form c.args.bytes.now frames records c.read_vector.result laws.width_in_range.1 has c.read_vector.ensures)
