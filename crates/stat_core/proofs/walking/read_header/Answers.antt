use Rattle.std.proofs.Common.{◌++◌, drop, ◌∙◌, ap, min}
use Rattle.disk_core.specs.Calls.{bytes_of}
use Rattle.stat_core.proofs.HeaderRead.{sound_long, sound_here, fault_here, zeros, header_bytes, long_enough}
use Rattle.stat_core.proofs.walking.read_header.Goals as goal

pub returns-in-Ok-clause-wide : goal.returns-in-Ok-clause-wide
returns-in-Ok-clause-wide g c =
    let sound = c.in-Ok.ensures.sound in
    let long = sound_long _ _ _ sound.2 in
    (sound.0, sound.1, long_enough (c.read_at.new.out ++ drop c.min-len.result zeros) c.min-len.result c.args.bytes long c.min-len.ensures)

pub returns-in-Ok-clause-is : goal.returns-in-Ok-clause-is
returns-in-Ok-clause-is g c model =
    let image = bytes_of (g.D.Disk.states c.args.disk.now) in
    let length_is = c.requires.length (c.read_at.ensures.model model) in
    let sound = c.in-Ok.ensures.sound in
    let value = c.in_default.ensures.value model in
    sound_here c.in-Ok.shape.width c.in-Ok.shape.format image _ c.min-len.result (c.min-len.ensures ∙ ap (min 11) length_is)
    (header_bytes image c.read_at.new.out c.min-len.result c.args.bytes c.min-len.ensures length_is value) sound.2

pub returns-in-Err-read-clause-is : goal.returns-in-Err-read-clause-is
returns-in-Err-read-clause-is g c model =
    let image = bytes_of (g.D.Disk.states c.args.disk.now) in
    let length_is = c.requires.length (c.read_at.ensures.model model) in
    let value = c.in_default.ensures.value model in
    fault_here image _ c.min-len.result c.in-Err-read.fault (c.min-len.ensures ∙ ap (min 11) length_is)
    (header_bytes image c.read_at.new.out c.min-len.result c.args.bytes c.min-len.ensures length_is value) c.in-Err-read.ensures.sound
