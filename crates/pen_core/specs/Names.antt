-- The names of a pen's faults, which `Display` writes.
use Rattle.std.specs.Prelude.{ℕ, List, codes}
use Rattle.disk_core.specs.Names.{disk_name}
use Rattle.segment_core.specs.Names.{scan_name}
use Rattle.pen_core.specs.declared.fault.PenFault.{PenFault}
use Rattle.pen_core.specs.declared.fault.PenFault.TheVariants as pen
use Rattle.pen_core.specs.declared.fault.OpenFault.{OpenFault}
use Rattle.pen_core.specs.declared.fault.OpenFault.TheVariants as opening

abbrev pub pen_name : PenFault → List ℕ
pen_name pen.Broken = codes "broken"
pen_name pen.Busy = codes "busy"
pen_name pen.OldFormat = codes "old format"
pen_name pen.Runs = codes "runs"
pen_name pen.OutOfRange = codes "out of range"
pen_name pen.TooLarge = codes "too large"
pen_name pen.Unfolded = codes "unfolded"
pen_name pen.FileFull = codes "file full"
pen_name pen.Memory = codes "memory"
pen_name pen.Exists = codes "exists"
pen_name (pen.Disk fault) = disk_name fault

abbrev pub open_name : OpenFault → List ℕ
open_name (opening.Scan fault) = scan_name fault
open_name (opening.Disk fault) = disk_name fault
