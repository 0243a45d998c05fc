use Rattle.std.proofs.Common.{drop, map}
use Rattle.play_core.specs.Script.{part_of, script_of}
use Rattle.play_core.specs.Played.{ram_disk}
use Rattle.play_core.proofs.Played.{HasPlayed}
use Rattle.play_core.proofs.playing.play_script.Given as goal

abbrev pub invariant-loop-part : goal.invariant-loop-part
invariant-loop-part g l = HasPlayed g.R.Record.form g.R.TextRecord.spelling.text_of (script_of l.script) (map part_of (drop l.part-index l.script.parts.items)) (ram_disk l.disk) l.text.items
