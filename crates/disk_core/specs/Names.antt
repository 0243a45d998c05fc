-- The names of a disk's faults, which `Display` writes.
use Rattle.std.specs.Prelude.{ℕ, List, codes}
use Rattle.disk_core.specs.declared.fault.DiskFault.{DiskFault}
use Rattle.disk_core.specs.declared.fault.DiskFault.TheVariants.{Length, Read, Write, Sync}

abbrev pub disk_name : DiskFault → List ℕ
disk_name Length = codes "disk length"
disk_name Read = codes "disk read"
disk_name Write = codes "disk write"
disk_name Sync = codes "disk sync"
