-- The names of why a file has no summary, which `Display` writes.
use Rattle.std.specs.Prelude.{ℕ, List}
use Rattle.disk_core.specs.Names.{disk_name}
use Rattle.segment_core.specs.Names.{scan_name}
use Rattle.stat_core.specs.declared.fault.StatFault.{StatFault}
use Rattle.stat_core.specs.declared.fault.StatFault.TheVariants.{Disk, Header, Frame}

abbrev pub stat_name : StatFault → List ℕ
stat_name (Disk fault) = disk_name fault
stat_name (Header fault) = scan_name fault
stat_name (Frame fault before) = scan_name fault
