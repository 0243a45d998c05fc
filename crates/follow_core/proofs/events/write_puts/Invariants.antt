use Rattle.std.proofs.Common.{take}
use Rattle.std.specs.Io.KnownBytes.{Appends}
use Rattle.follow_core.specs.Event.{put_lines}
use Rattle.follow_core.proofs.events.write_puts.Given as goal

abbrev pub invariant-loop-record : goal.invariant-loop-record
invariant-loop-record g l = Appends (g.W.Write.contents l.initial.writer) (g.W.Write.contents l.writer) (put_lines g.R.TextRecord.spelling.text_of (take l.record-index l.records))
