use Rattle.std.proofs.Common.{subst, from_bits}
use Rattle.std.specs.Float.{NotNan}
use lib.Ieee.{binary32, binary64}
use Rattle.float_core.specs.declared.float.FloatType.{FloatType}
use Rattle.float_core.specs.Floats.{format_of}
use Rattle.float_core.proofs.Bits.{bits_of_number}
use Rattle.float_core.proofs.float.FloatType.is_infinite.Goals as goal

pub float_from_bits-bits : goal.float_from_bits-bits
float_from_bits-bits c = bits_of_number binary32 _ (subst (λ (t : FloatType). NotNan (from_bits (format_of t) c.args.bits)) c.in-F32.is c.requires.1)

pub float_from_bits-bits-in-F64 : goal.float_from_bits-bits-in-F64
float_from_bits-bits-in-F64 c = bits_of_number binary64 _ (subst (λ (t : FloatType). NotNan (from_bits (format_of t) c.args.bits)) c.in-F64.is c.requires.1)
