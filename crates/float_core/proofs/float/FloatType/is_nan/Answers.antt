use Rattle.std.proofs.Common.{arith}
use Rattle.float_core.specs.declared.float.FloatType.TheVariants.{F32, F64}
use Rattle.float_core.proofs.Bits.{nan_by_size}
use Rattle.float_core.proofs.float.FloatType.is_nan.Goals as goal

pub returns-then-bits : goal.returns-then-bits
returns-then-bits c = rw c.in-F32.is (nan_by_size F32 c.args.bits (omega (arith, c.if-bits.true)))

pub returns-in-F64 : goal.returns-in-F64
returns-in-F64 c = rw c.in-F64.is (nan_by_size F64 c.args.bits c.ranges.bits.fits)
