use Rattle.std.proofs.Common.{◌≡◌, take}
use Rattle.std.specs.Str.Parse.{AllDigits, digits_value}
use Rattle.text_core.proofs.number.short_number.Given as goal

abbrev pub invariant-loop-k : goal.invariant-loop-k
invariant-loop-k l = (l.number ≡ digits_value 10 (take l.k l.text)) × AllDigits 10 (take l.k l.text)
