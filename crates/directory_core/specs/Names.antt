-- The names of what keeps a growth from being published, which `Display` writes.
use Rattle.std.specs.Prelude.{ℕ, List, ◌++◌, codes, decimal}
use Rattle.directory_core.specs.declared.fault.DirFault.{DirFault}
use Rattle.directory_core.specs.declared.fault.DirFault.TheVariants.{Taken, Full, Strayed, Memory}

abbrev pub dir_name : DirFault → List ℕ
dir_name Taken = codes "taken"
dir_name Full = codes "full"
dir_name (Strayed number) = codes "strayed " ++ decimal number
dir_name Memory = codes "memory"
