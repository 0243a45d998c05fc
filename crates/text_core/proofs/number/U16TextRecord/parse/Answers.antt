use Rattle.std.proofs.Common.{lit≤}
use Rattle.text_core.proofs.NumberLemmas.{no_narrow}
use Rattle.text_core.proofs.number.U16TextRecord.parse.Goals as goal

pub returns-clause-refused : goal.returns-clause-refused
returns-clause-refused c =
    rw c.ok.ensures.value
    (no_narrow 16 (lit≤ tt) c.args.text.now c.in_ok-parse.field-0 c.try_from.result c.in_ok-parse.ensures.read.0 c.in_ok-parse.ensures.read.1 c.try_from.ensures)
