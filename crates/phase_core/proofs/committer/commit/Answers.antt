use Rattle.phase_core.proofs.GoesOnLemmas.{GoesOn-join}
use Rattle.phase_core.proofs.committer.commit.Goals as goal

pub returns-in_err-count-clause-goes_on : goal.returns-in_err-count-clause-goes_on
returns-in_err-count-clause-goes_on g c =
    GoesOn-join g.R.Record.form (λ (disk : _). g.D.Disk.keeps disk.inner) (λ (disk : _). g.D.Disk.states disk.inner) c.args.flusher.now c.learn.new.flusher c.take.new.flusher c.learn.ensures.goes_on c.take.ensures.goes_on

pub returns-in_err-settle_job-clause-goes_on : goal.returns-in_err-settle_job-clause-goes_on
returns-in_err-settle_job-clause-goes_on g c =
    GoesOn-join g.R.Record.form (λ (disk : _). g.D.Disk.keeps disk.inner) (λ (disk : _). g.D.Disk.states disk.inner) c.args.flusher.now c.take.new.flusher c.settle_job.new.flusher
    (GoesOn-join g.R.Record.form (λ (disk : _). g.D.Disk.keeps disk.inner) (λ (disk : _). g.D.Disk.states disk.inner) c.args.flusher.now c.learn.new.flusher c.take.new.flusher c.learn.ensures.goes_on c.take.ensures.goes_on) c.settle_job.ensures.goes_on

pub returns-clause-goes_on : goal.returns-clause-goes_on
returns-clause-goes_on g c =
    GoesOn-join g.R.Record.form (λ (disk : _). g.D.Disk.keeps disk.inner) (λ (disk : _). g.D.Disk.states disk.inner) c.args.flusher.now c.take.new.flusher c.settle_job.new.flusher
    (GoesOn-join g.R.Record.form (λ (disk : _). g.D.Disk.keeps disk.inner) (λ (disk : _). g.D.Disk.states disk.inner) c.args.flusher.now c.learn.new.flusher c.take.new.flusher c.learn.ensures.goes_on c.take.ensures.goes_on) c.settle_job.ensures.goes_on
