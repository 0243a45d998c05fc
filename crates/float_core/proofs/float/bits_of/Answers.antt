use Rattle.std.proofs.Common.{rules, sym, inl, refl}
use Rattle.float_core.proofs.Bits.{nan_is}
use Rattle.float_core.proofs.float.bits_of.Goals as goal

pub returns-else-is_number : goal.returns-else-is_number
returns-else-is_number g c = (g.F.RawFloat.value c.in_ok-x.x, search rules, inl (nan_is _ (sym c.if-is_number.ensures), refl))
