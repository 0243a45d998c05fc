use Rattle.std.proofs.Common.{take}
use Rattle.std.specs.Io.KnownBytes.{Appends}
use Rattle.follow_core.specs.Event.{edit_lines}
use Rattle.follow_core.proofs.events.write_edits.Given as goal

abbrev pub invariant-loop-edit : goal.invariant-loop-edit
invariant-loop-edit g l = Appends (g.W.Write.contents l.initial.writer) (g.W.Write.contents l.writer) (edit_lines g.R.TextRecord.spelling.text_of (take l.edit-index l.edits))
