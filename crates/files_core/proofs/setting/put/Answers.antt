use Rattle.std.proofs.Common.{List, ◌∷◌, [], subst}
use Rattle.std.proofs.lemmas.List.{append-nil}
use Rattle.vault_core.specs.declared.fault.VaultFault.TheVariants.{Pen}
use Rattle.vault_core.proofs.Devices.{device_of}
use Rattle.files_core.specs.Writable.{IsPutFrom, IsNotPut}
use Rattle.files_core.proofs.Put.{put_done, put_refused, put_stopped, some_given}
use Rattle.files_core.proofs.setting.put.Goals as goal

pub returns-in-Err-clause-put : goal.returns-in-Err-clause-put
returns-in-Err-clause-put g c list is =
    let records = c.args.records.now in
    subst (λ (rs : List g.row.R.Denot). IsNotPut g.R.Record.form g.D.Disk.keeps g.D.Disk.states g.D.Disk.faults c.args.start rs list c.args.pen.now c.begin_change.new.self (Pen c.in-Err.fault))
    (append-nil records)
    (put_refused g.R.Record.form (device_of g.D.Disk.keeps g.D.Disk.states g.D.Disk.faults) c.args.pen.now list is c.args.start (records ∷ [])
    c.begin_change.new.self c.in-Err.fault (some_given records c.if-is_empty.ensures) c.in-Err.ensures.unchanged c.in-Err.ensures.refused)

pub returns-in-Ok-clause-put : goal.returns-in-Ok-clause-put
returns-in-Ok-clause-put g c list is =
    let records = c.args.records.now in
    let b = c.in_default.ensures in
    let f = c.in-Ok.ensures in
    subst (λ (rs : List g.row.R.Denot). IsPutFrom g.R.Record.form g.D.Disk.keeps g.D.Disk.states g.D.Disk.faults c.args.start rs list c.args.pen.now c.settle_log.new.self)
    (append-nil records)
    (put_done g.R.Record.form (device_of g.D.Disk.keeps g.D.Disk.states g.D.Disk.faults) c.args.pen.now list is c.args.start (records ∷ [])
    c.begin_change.new.self c.settle_log.new.self (record { some = some_given records c.if-is_empty.ensures; allowed = b.allowed; begun = b.begun; next = λ others are. b.next others are })
    c.settle_log.ensures.model c.settle_log.ensures.images f.settled f.whole.1 f.file f.time f.faults f.goes_on f.frames)

pub returns-in-Err-settle_log-clause-put : goal.returns-in-Err-settle_log-clause-put
returns-in-Err-settle_log-clause-put g c list is =
    let records = c.args.records.now in
    let b = c.in_default.ensures in
    let f = c.in-Err-settle_log.ensures in
    let pen = c.settle_log.new.self in
    subst (λ (rs : List g.row.R.Denot). IsNotPut g.R.Record.form g.D.Disk.keeps g.D.Disk.states g.D.Disk.faults c.args.start rs list c.args.pen.now pen (Pen c.in-Err-settle_log.fault))
    (append-nil records)
    (put_stopped g.R.Record.form (device_of g.D.Disk.keeps g.D.Disk.states g.D.Disk.faults) c.args.pen.now list is c.args.start (records ∷ [])
    c.begin_change.new.self c.settle_log.new.self (record { some = some_given records c.if-is_empty.ensures; allowed = b.allowed; begun = b.begun; next = λ others are. b.next others are })
    c.settle_log.ensures.model c.settle_log.ensures.images c.in-Err-settle_log.fault f.refused f.file_stays f.time f.faults)
