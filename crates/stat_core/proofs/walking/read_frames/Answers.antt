use Rattle.stat_core.proofs.OnlyRead.{reads_once, reads_on}
use Rattle.stat_core.proofs.walking.read_frames.Goals as goal

pub returns-in-Err-clause-only_reads : goal.returns-in-Err-clause-only_reads
returns-in-Err-clause-only_reads g c = λ model. reads_once (g.D.Disk.states c.args.disk.now) (g.D.Disk.states c.len.new.self) (c.len.ensures.same (c.len.ensures.model model))

pub returns-in-Err-read_header-clause-only_reads : goal.returns-in-Err-read_header-clause-only_reads
returns-in-Err-read_header-clause-only_reads g c = λ model.
    let old = g.D.Disk.states c.args.disk.now in
    let mid = g.D.Disk.states c.len.new.self in
    let new = g.D.Disk.states c.read_header.new.disk in
    let before = c.read_header.ensures.model model in
    reads_on old mid new (reads_once old mid (c.len.ensures.same (c.len.ensures.model before))) (reads_once mid new (c.read_header.ensures.same before))

pub returns-in-Ok-read_header-clause-only_reads : goal.returns-in-Ok-read_header-clause-only_reads
returns-in-Ok-read_header-clause-only_reads g c = λ model.
    let old = g.D.Disk.states c.args.disk.now in
    let mid = g.D.Disk.states c.len.new.self in
    let last = g.D.Disk.states c.read_header.new.disk in
    let new = g.D.Disk.states c.walk.new.disk in
    let behind = c.walk.ensures.model model in
    let before = c.read_header.ensures.model behind in
    reads_on old mid new (reads_once old mid (c.len.ensures.same (c.len.ensures.model before)))
    (reads_on mid last new (reads_once mid last (c.read_header.ensures.same before)) (c.walk.ensures.only_reads model))
