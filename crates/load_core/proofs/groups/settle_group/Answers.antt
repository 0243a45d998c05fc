use Rattle.std.proofs.Common.{subst}
use Rattle.load_core.proofs.PenOver.{over_ended}
use Rattle.load_core.proofs.groups.settle_group.Goals as goal

pub returns-clause-over : goal.returns-clause-over
returns-clause-over g c disk made over model =
    let b = c.in_ok-begin_growths.ensures in
    let s = c.settle_log.ensures in
    let was = subst g.D.Disk.keeps b.begun.disk_same (s.model model) in
    over_ended g.R.Record.form g.D.Disk.states disk c.args.pen.now made (g.G.GrowthList.growths c.args.group.now) c.begin_growths.new.self c.settle_log.new.self
    c.requires.ready b.begun b.next (s.images model) (over was) c.settle_log.result s.settled (s.file model) (s.file_stays model) s.refused
