use Rattle.phase_core.proofs.GoesOnLemmas.{opens_of, GoesOn-group}
use Rattle.phase_core.proofs.committer.take.Goals as goal

pub returns-clause-goes_on : goal.returns-clause-goes_on
returns-clause-goes_on g c =
    let f = c.args.flusher.now in
    let e = c.take_group.ensures in
    GoesOn-group g.R.Record.form (λ (disk : _). g.D.Disk.keeps disk.inner) (λ (disk : _). g.D.Disk.states disk.inner) f c.take_group.new.self c.take_group.result _ (opens_of g.R.Record.form (λ (disk : _). g.D.Disk.keeps disk.inner) (λ (disk : _). g.D.Disk.states disk.inner) f c.disk-disk.result.now c.disk-disk.ensures.disk c.disk-disk.ensures.images)
    e.same e.taken e.begun e.none e.unchanged e.opening
