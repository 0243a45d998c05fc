use Rattle.vault_core.proofs.Devices.{device_of}
use Rattle.vault_core.proofs.Kept.{done_kept, failed_kept}
use Rattle.vault_core.proofs.Commands.{committed_command, stop_fault, stopped_command}
use Rattle.vault_core.proofs.committing.commit.Goals as goal

pub returns-in-Ok-clause-kept : goal.returns-in-Ok-clause-kept
returns-in-Ok-clause-kept g c v frame begun =
    let f = c.in-Ok.ensures in
    done_kept begun c.settle_log.new.self c.settle_log.ensures.model f.settled f.whole.1 f.file

pub returns-in-Ok-clause-command : goal.returns-in-Ok-clause-command
returns-in-Ok-clause-command g c v frame begun lines allowed =
    let f = c.in-Ok.ensures in
    committed_command (device_of g.D.Disk.keeps g.D.Disk.states g.D.Disk.faults) begun c.settle_log.new.self c.settle_log.ensures.model c.settle_log.ensures.images
    f.settled f.whole.1 f.file lines allowed f.time f.faults f.goes_on f.frames

pub returns-in-Err-clause-kept : goal.returns-in-Err-clause-kept
returns-in-Err-clause-kept g c v frame begun =
    let f = c.in-Err.ensures in
    failed_kept begun c.settle_log.new.self c.settle_log.ensures.model c.in-Err.fault f.refused f.file_stays

pub returns-in-Err-clause-stops : goal.returns-in-Err-clause-stops
returns-in-Err-clause-stops g c whole = stop_fault c.args.pen.now c.settle_log.new.self c.in-Err.fault whole c.in-Err.ensures.refused

pub returns-in-Err-clause-command : goal.returns-in-Err-clause-command
returns-in-Err-clause-command g c v frame begun lines allowed =
    let f = c.in-Err.ensures in
    stopped_command (device_of g.D.Disk.keeps g.D.Disk.states g.D.Disk.faults) begun c.settle_log.new.self c.settle_log.ensures.model c.settle_log.ensures.images
    c.in-Err.fault f.refused f.file_stays lines allowed f.time f.faults
