use Rattle.std.proofs.Common.{take, subst}
use Rattle.segment_core.specs.Written.{joined}
use Rattle.witness_core.proofs.Begins.{fold_witnessed, disk_after_fold}
use Rattle.witness_core.proofs.beginning.begin_fold_from.Goals as goal

pub returns-clause-witnessed : goal.returns-clause-witnessed
returns-clause-witnessed g c model begin w =
    let laws = g.met.R.Record g.world.𝓛 g.world.𝓜 g.world.𝓡 ((λ s x. x), (λ x. x), (λ x. x), λ x. x) in
    let e = c.begin_fold_from.ensures in
    let old = c.args.pen.now in
    let new = c.begin_fold_from.new.self in
    let before = subst g.D.Disk.keeps (disk_after_fold old new c.begin_fold_from.result e.begun e.unchanged) model in
    fold_witnessed g.D.Disk.states begin old new w (e.kept model) g.R.Record.form (take old.tally.size (joined (g.G.GrowthList.growths c.args.pieces.now))) laws.width_of_bytes
    c.requires.width (c.requires.values before) c.begin_fold_from.result e.begun (e.plans before) e.unchanged
