use Rattle.files_core.proofs.AnyBytes.{frames_opened, frames_refused}
use Rattle.files_core.proofs.writable.open_unread.Goals as goal

pub returns-clause-opened : goal.returns-clause-opened
returns-clause-opened g c =
    let e = c.open_frames.ensures in
    let laws = g.met.R.Record g.world.𝓛 g.world.𝓜 g.world.𝓡 ((λ s x. x), (λ x. x), (λ x. x), λ x. x) in
    frames_opened g.R.Record.form g.D.Disk.keeps g.D.Disk.states g.D.Disk.faults c.args.disk _ c.width_of.ensures.is
    g.R.Record.blank_value c.requires laws.writes_back laws.width_in_range.1 (λ m. g.met.D.Disk.reads_bytes c.args.disk m) c.open_frames.result e.rests e.opened e.only_syncs e.faults e.model

pub returns-clause-refused : goal.returns-clause-refused
returns-clause-refused g c =
    let e = c.open_frames.ensures in
    frames_refused g.R.Record.form g.D.Disk.keeps g.D.Disk.states g.D.Disk.faults c.args.disk _ c.width_of.ensures.is c.open_frames.result e.refused e.only_syncs e.faults
