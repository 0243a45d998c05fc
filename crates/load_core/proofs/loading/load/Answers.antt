use Rattle.files_core.specs.Opened.{IsOpenedOn}
use Rattle.load_core.proofs.loading.load.Goals as goal

pub returns-in-Ok-clause-loaded : goal.returns-in-Ok-clause-loaded
returns-in-Ok-clause-loaded g c =
    let e = c.in-Ok.ensures in
    let opened : IsOpenedOn g.R.Record.form g.D.Disk.keeps g.D.Disk.states g.D.Disk.faults c.args.disk c.in-Ok.vault =
    record { rests = e.rests; opened = e.opened; sure = e.sure; only_syncs = e.only_syncs; faults_same = e.faults; model = e.model } in
    c.load_opened.ensures.loaded c.args.disk opened
