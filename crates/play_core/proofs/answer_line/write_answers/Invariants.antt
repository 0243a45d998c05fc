use Rattle.std.proofs.Common.{take, map}
use Rattle.std.specs.Io.KnownBytes.{Appends}
use Rattle.drive_core.specs.Asked.{answer_of}
use Rattle.play_core.specs.Answers.{answer_lines}
use Rattle.play_core.proofs.answer_line.write_answers.Given as goal

abbrev pub invariant-loop-answer : goal.invariant-loop-answer
invariant-loop-answer g l = Appends (g.W.Write.contents l.initial.writer) (g.W.Write.contents l.writer) (answer_lines g.R.TextRecord.spelling.text_of (map answer_of (take l.answer-index l.answers)))
