use Rattle.std.proofs.Common.{◌≡◌, min, vec_len, length, arith}
use Rattle.vault_core.specs.Vault.{list_of}
use Rattle.serve_core.proofs.Left.{handed_back, phase_clients, phase_left}
use Rattle.serve_core.proofs.Refused.{in_bounds, none_served, phase_refused, phase_counts, phase_keeps}
use Rattle.serve_core.proofs.serving.serve_vault.Goals as goal

pub returns-in-Err-clause-left : goal.returns-in-Err-clause-left
returns-in-Err-clause-left g c = λ disk from kept.
    handed_back g.R.Record.form g.D.Disk.keeps g.D.Disk.states disk c.args.vault from.opened from.only_syncs
    c.in-Err.vault c.in-Err.ensures.refused.0 c.into_disk.result c.into_disk.ensures.disk from.sure c.into_disk.ensures.images kept

pub returns-in-Err-clause-clients : goal.returns-in-Err-clause-clients
returns-in-Err-clause-clients g c = λ disk from kept.
    handed_back g.R.Record.form g.D.Disk.keeps g.D.Disk.states disk c.args.vault from.opened from.only_syncs
    c.in-Err.vault c.in-Err.ensures.refused.0 c.into_disk.result c.into_disk.ensures.disk from.sure c.into_disk.ensures.images kept

pub returns-in-Err-clause-refused : goal.returns-in-Err-clause-refused
returns-in-Err-clause-refused g c =
    let len = c.len.ensures in
    let least = c.min-count.ensures in
    let is : c.min-count.result ≡ min (vec_len c.args.pipes) 65535 = omega (arith, len, least) in
    none_served c.args.vault g.R.Record.form.width (length (list_of c.args.vault)) (vec_len c.args.pipes) c.min-count.result c.in-Err.fault c.requires is c.in-Err.ensures.refused.1

pub returns-in-Ok-clause-left : goal.returns-in-Ok-clause-left
returns-in-Ok-clause-left g c = λ disk from kept.
    let phase = c.serve_phase.result in
    phase_left g.R.Record.form g.D.Disk.keeps g.D.Disk.states disk c.args.vault from.opened from.only_syncs
    g.D.Disk.faults c.in-Ok.begun.0.directory.room c.min-count.result c.in-Ok.begun.0 c.in-Ok.begun.1 c.in-Ok.ensures.shares phase.0 phase.1.growths phase.2
    c.serve_phase.ensures.0 kept

pub returns-in-Ok-clause-clients : goal.returns-in-Ok-clause-clients
returns-in-Ok-clause-clients g c = λ disk from kept.
    let phase = c.serve_phase.result in
    phase_clients g.R.Record.form g.D.Disk.keeps g.D.Disk.states disk c.args.vault from.opened from.only_syncs
    g.D.Disk.faults c.in-Ok.begun.0.directory.room c.min-count.result c.in-Ok.begun.0 c.in-Ok.begun.1 c.in-Ok.ensures.shares c.in-Ok.ensures.room g.I.Read.remaining
    g.W.Write.contents c.args.pipes.items phase.0 phase.1.growths phase.2 c.serve_phase.ensures.0 c.serve_phase.ensures.1 kept

pub returns-in-Ok-clause-refused : goal.returns-in-Ok-clause-refused
returns-in-Ok-clause-refused g c =
    let len = c.len.ensures in
    let least = c.min-count.ensures in
    let is : c.min-count.result ≡ min (vec_len c.args.pipes) 65535 = omega (arith, len, least) in
    phase_refused g.R.Record.form g.D.Disk.keeps g.D.Disk.states g.D.Disk.faults c.args.vault c.in-Ok.ensures.shares.pen c.serve_phase.ensures.0
    (vec_len c.args.pipes) (in_bounds (vec_len c.args.pipes) c.min-count.result is c.in-Ok.ensures.may) c.requires.whole

pub returns-in-Ok-clause-faults : goal.returns-in-Ok-clause-faults
returns-in-Ok-clause-faults g c =
    phase_counts g.R.Record.form g.D.Disk.keeps g.D.Disk.states g.D.Disk.faults c.args.vault c.in-Ok.ensures.shares.pen c.serve_phase.ensures.0

pub returns-in-Ok-clause-model : goal.returns-in-Ok-clause-model
returns-in-Ok-clause-model g c =
    phase_keeps g.R.Record.form g.D.Disk.keeps g.D.Disk.states g.D.Disk.faults c.args.vault c.in-Ok.ensures.shares.pen c.serve_phase.ensures.0
