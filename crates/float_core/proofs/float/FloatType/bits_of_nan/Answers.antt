use Rattle.std.proofs.Common.{rules, ◌≡◌, true, false}
use Rattle.float_core.proofs.Bits.{no_other_nan}
use Rattle.float_core.proofs.float.FloatType.bits_of_nan.Goals as goal

pub returns-else-is_nan-clause-refused : goal.returns-else-is_nan-clause-refused
returns-else-is_nan-clause-refused c =
    no_other_nan c.args.self c.args.text.now c.in_ok-strip_prefix.field-0.now c.in_ok-bits.bits (search rules) c.in_ok-bits.ensures.read.0 c.in_ok-bits.ensures.read.1
    (λ nan. let same : false ≡ true = c.if-is_nan.ensures.1 nan in absurd cc)
