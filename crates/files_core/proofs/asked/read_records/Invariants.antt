use Rattle.std.specs.List.{AllByRecursion}
use Rattle.std.specs.Option.{option_copied}
use Rattle.files_core.proofs.Commas.{IsLeft, left_len}
use Rattle.files_core.proofs.asked.read_records.Given as goal

abbrev pub invariant-loop-rest : goal.invariant-loop-rest
invariant-loop-rest g l = AllByRecursion g.R.TextRecord.spelling.is_value l.records.items × IsLeft g.R.TextRecord.spelling.text_of l.text l.records.items (option_copied l.rest)

abbrev pub decreases-loop-rest : goal.decreases-loop-rest
decreases-loop-rest g l = left_len (option_copied l.rest)
