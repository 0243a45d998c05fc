-- The names of the faults of an image, which `Display` writes.
use Rattle.std.specs.Prelude.{ℕ, List, ◌++◌, codes, decimal}
use Rattle.segment_core.specs.declared.fault.Cause.{Cause}
use Rattle.segment_core.specs.declared.fault.Cause.TheVariants.{NoGate, ShortFrame, Kind, TooLarge, Layout, Runs, Range, Unfolded, FoldCount, TooLong, BadRecord}
use Rattle.segment_core.specs.declared.fault.ScanFault.{ScanFault}
use Rattle.segment_core.specs.declared.fault.ScanFault.TheVariants.{Unborn, NotSegment, Version, Width, Damaged, Memory}

abbrev pub cause_name : Cause → List ℕ
cause_name NoGate = codes "no gate"
cause_name ShortFrame = codes "short frame"
cause_name (Kind kind) = codes "kind " ++ decimal kind
cause_name TooLarge = codes "too large"
cause_name Layout = codes "layout"
cause_name Runs = codes "runs"
cause_name Range = codes "range"
cause_name Unfolded = codes "unfolded"
cause_name FoldCount = codes "fold count"
cause_name TooLong = codes "too long"
cause_name BadRecord = codes "bad record"

abbrev pub scan_name : ScanFault → List ℕ
scan_name Unborn = codes "unborn"
scan_name NotSegment = codes "not a segment"
scan_name (Version version) = codes "version " ++ decimal version
scan_name (Width width) = codes "width " ++ decimal width
scan_name (Damaged at cause) = codes "damaged at " ++ (decimal at ++ (codes ": " ++ cause_name cause))
scan_name Memory = codes "memory"
