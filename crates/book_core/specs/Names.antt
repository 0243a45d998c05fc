-- The names of what refuses a growth, which `Display` writes.
use Rattle.std.specs.Prelude.{ℕ, List, ◌++◌, codes, decimal}
use Rattle.book_core.specs.declared.fault.GrowFault.{GrowFault}
use Rattle.book_core.specs.declared.fault.GrowFault.TheVariants.{Closed, Full, TooLong, Strayed, Memory, Empty, TooLarge}

abbrev pub grow_name : GrowFault → List ℕ
grow_name Closed = codes "closed"
grow_name Full = codes "full"
grow_name TooLong = codes "too long"
grow_name (Strayed number) = codes "strayed " ++ decimal number
grow_name Memory = codes "memory"
grow_name Empty = codes "empty"
grow_name TooLarge = codes "too large"
