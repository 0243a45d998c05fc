use Rattle.std.proofs.Common.{sym}
use Rattle.float_core.proofs.Bits.{too_large_by_bits}
use Rattle.float_core.proofs.float.FloatType.bits_of_number.Goals as goal

pub returns-then-has_digit-clause-refused : goal.returns-then-has_digit-clause-refused
returns-then-has_digit-clause-refused c =
    too_large_by_bits c.args.self c.args.text.now _ c.in_ok-bits.bits c.in_ok-bits.ensures.1 c.in_ok-bits.ensures.2
    (λ nan. let same = c.if-not-is_nan.ensures.1 nan in absurd cc) (sym c.if-is_infinite.ensures) (λ none. let same = c.if-has_digit.ensures.1 none in absurd cc)
