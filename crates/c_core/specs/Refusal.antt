-- The numbers that C has for why a call is refused.
use Rattle.std.specs.Prelude.{ℕ}
use Rattle.segment_core.specs.declared.fault.ScanFault.{ScanFault}
use Rattle.segment_core.specs.declared.fault.ScanFault.TheVariants as faults
use Rattle.c_core.specs.declared.refusal.Refusal.{Refusal}
use Rattle.c_core.specs.declared.refusal.Refusal.TheVariants.{Unborn, NotSegment, Version, Width, Damaged, Memory, Empty, OutOfRange, TooLarge, FileFull, NoRoom, NoFrame, NoRecord, Exists, Broken, NotSo, Again, Full, Busy, Unfolded, Unsettled}

abbrev pub code_of : Refusal → ℕ
code_of Unborn = 1
code_of NotSegment = 2
code_of Version = 3
code_of Width = 4
code_of Damaged = 5
code_of Memory = 6
code_of Empty = 7
code_of OutOfRange = 8
code_of TooLarge = 9
code_of FileFull = 10
code_of NoRoom = 11
code_of NoFrame = 12
code_of NoRecord = 13
code_of Exists = 32
code_of Broken = 34
code_of NotSo = 64
code_of Again = 65
code_of Full = 66
code_of Busy = 67
code_of Unfolded = 69
code_of Unsettled = 70

-- why a file's bytes have no vector of these records
abbrev pub of_scan : ScanFault → Refusal
of_scan faults.Unborn = Unborn
of_scan faults.NotSegment = NotSegment
of_scan (faults.Version version) = Version
of_scan (faults.Width width) = Width
of_scan (faults.Damaged at cause) = Damaged
of_scan faults.Memory = Memory
