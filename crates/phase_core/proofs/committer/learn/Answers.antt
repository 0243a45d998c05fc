use Rattle.phase_core.proofs.GoesOnLemmas.{opens_of, GoesOn-learns}
use Rattle.phase_core.proofs.committer.learn.Goals as goal

pub returns-in_err-look-clause-goes_on : goal.returns-in_err-look-clause-goes_on
returns-in_err-look-clause-goes_on g c =
    let f = c.args.flusher.now in
    GoesOn-learns g.R.Record.form (λ (disk : _). g.D.Disk.keeps disk.inner) (λ (disk : _). g.D.Disk.states disk.inner) f c.look.new.self (opens_of g.R.Record.form (λ (disk : _). g.D.Disk.keeps disk.inner) (λ (disk : _). g.D.Disk.states disk.inner) f c.disk-disk.result.now c.disk-disk.ensures.disk c.disk-disk.ensures.images) c.look.ensures.learns

pub returns-clause-goes_on : goal.returns-clause-goes_on
returns-clause-goes_on g c =
    let f = c.args.flusher.now in
    GoesOn-learns g.R.Record.form (λ (disk : _). g.D.Disk.keeps disk.inner) (λ (disk : _). g.D.Disk.states disk.inner) f c.look.new.self (opens_of g.R.Record.form (λ (disk : _). g.D.Disk.keeps disk.inner) (λ (disk : _). g.D.Disk.states disk.inner) f c.disk-disk.result.now c.disk-disk.ensures.disk c.disk-disk.ensures.images) c.look.ensures.learns
