use Rattle.std.proofs.Common.{take}
use Rattle.std.specs.Io.KnownBytes.{Appends}
use Rattle.text_core.specs.Text.{record_lines}
use Rattle.text_core.proofs.output.write_records.Given as goal

abbrev pub invariant-loop-record : goal.invariant-loop-record
invariant-loop-record g l = Appends (g.W.Write.contents l.initial.writer) (g.W.Write.contents l.writer) (record_lines g.R.TextRecord.spelling.text_of (take l.record-index l.records))
