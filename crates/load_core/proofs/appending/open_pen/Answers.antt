use Rattle.load_core.proofs.PenOver.{over_opened}
use Rattle.load_core.proofs.appending.open_pen.Goals as goal

pub returns-clause-over : goal.returns-clause-over
returns-clause-over g c model =
    let opened = c.in_ok-pen.ensures.opened.opened in
    over_opened g.R.Record.form g.D.Disk.states c.args.disk c.in_ok-pen.pen _ opened.rests.no_job (opened.opened model) (opened.only_syncs model)
