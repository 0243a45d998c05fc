use Rattle.std.proofs.Common.{◌≡◌, true, false, refl, arith}
use Rattle.text_core.proofs.NumberLemmas.{no_number, no_text, read_is_text, refused_is_none, short_is_text, short_is_none}
use Rattle.text_core.proofs.number.U64TextRecord.parse.Goals as goal

pub returns-then-not-begins_as_number-clause-refused : goal.returns-then-not-begins_as_number-clause-refused
returns-then-not-begins_as_number-clause-refused c = no_number _ (λ b. let so : false ≡ true = c.if-not-begins_as_number.ensures.1 b in cc so)

pub returns-then-text-le-SHORT_LEN-clause-read : goal.returns-then-text-le-SHORT_LEN-clause-read
returns-then-text-le-SHORT_LEN-clause-read c = short_is_text _ _ (omega arith) (c.if-not-begins_as_number.ensures.0 refl) c.short_number.ensures

pub returns-then-text-le-SHORT_LEN-clause-refused : goal.returns-then-text-le-SHORT_LEN-clause-refused
returns-then-text-le-SHORT_LEN-clause-refused c = short_is_none _ _ c.short_number.ensures

pub returns-in_default-clause-refused : goal.returns-in_default-clause-refused
returns-in_default-clause-refused c = no_text _ c.in_default.ensures.cases.0

pub returns-clause-read : goal.returns-clause-read
returns-clause-read c = rw c.ok.ensures.value (read_is_text _ _ c.parse.result c.in-Ok.ensures.cases.0 (c.if-not-begins_as_number.ensures.0 refl) c.parse.ensures.value.0)

pub returns-clause-refused : goal.returns-clause-refused
returns-clause-refused c = rw c.ok.ensures.value (refused_is_none _ _ c.parse.result c.in-Ok.ensures.cases.0 c.parse.ensures.value.0)
