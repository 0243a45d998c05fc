use Rattle.stat_core.proofs.OnlyRead.{reads_nothing, reads_once}
use Rattle.stat_core.proofs.window.slide.Goals as goal

pub returns-then-at-front_len-clause-only_reads : goal.returns-then-at-front_len-clause-only_reads
returns-then-at-front_len-clause-only_reads g c = λ model. reads_nothing (g.D.Disk.states c.args.disk.now)

pub returns-in_err-read_at-clause-only_reads : goal.returns-in_err-read_at-clause-only_reads
returns-in_err-read_at-clause-only_reads g c = λ model. reads_once (g.D.Disk.states c.args.disk.now) (g.D.Disk.states c.read_at.new.self) (c.read_at.ensures.same (c.read_at.ensures.model model))

pub returns-clause-only_reads : goal.returns-clause-only_reads
returns-clause-only_reads g c = λ model. reads_once (g.D.Disk.states c.args.disk.now) (g.D.Disk.states c.read_at.new.self) (c.read_at.ensures.same (c.read_at.ensures.model model))
