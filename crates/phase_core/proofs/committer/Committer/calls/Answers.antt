use Rattle.phase_core.proofs.ListLemmas.{host_is_told_of}
use Rattle.phase_core.proofs.committer.Committer.calls.Goals as goal

pub returns-clause-told : goal.returns-clause-told
returns-clause-told g c =
    host_is_told_of g.R.Record.form (λ (disk : _). g.D.Disk.keeps disk.inner) (λ (disk : _). g.D.Disk.states disk.inner) c.args.self.now.made c.args.self.now.flusher (λ calls. calls.now)
    c.list_from.result c.disk.result.now c.disk.ensures.disk c.args.self.now.past c.disk.ensures.told c.list_from.ensures.followed
