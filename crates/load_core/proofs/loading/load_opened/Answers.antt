use Rattle.files_core.proofs.Opened.{done_ends}
use Rattle.load_core.proofs.Phases.{all_loaded, loaded_in, refused_in}
use Rattle.load_core.proofs.loading.load_opened.Goals as goal

pub returns-in-Ok-clause-loaded : goal.returns-in-Ok-clause-loaded
returns-in-Ok-clause-loaded g c disk opened =
    let it = c.load_dealt-loaded in
    done_ends _ _ _ c.tell_loaded-disk.ensures.done
    (all_loaded g.R.Record.form g.D.Disk.keeps g.D.Disk.states g.D.Disk.faults c.args.growths.0 c.args.growers disk c.in-Ok.vault c.tell_loaded-disk.result.0 it.result.0
    c.tell_loaded-disk.ensures.disk
    (loaded_in g.R.Record.form g.D.Disk.keeps g.D.Disk.states g.D.Disk.faults c.args.growths.0 c.args.growers disk it.result.1 it.result.0 (it.ensures disk opened) c.in-Ok.vault c.in-Ok.is))

pub returns-in-Err-clause-loaded : goal.returns-in-Err-clause-loaded
returns-in-Err-clause-loaded g c disk opened =
    let it = c.load_dealt-loaded in
    refused_in g.R.Record.form g.D.Disk.keeps g.D.Disk.states g.D.Disk.faults c.args.growths.0 c.args.growers disk it.result.1 it.result.0 (it.ensures disk opened) c.in-Err.disk c.in-Err.fault c.in-Err.is
