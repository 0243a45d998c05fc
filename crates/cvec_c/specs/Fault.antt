-- Why an image has no vector, in the numbers that C has.
use Rattle.std.specs.Prelude.{ℕ}
use Rattle.segment_core.specs.declared.fault.Cause.{Cause}
use Rattle.segment_core.specs.declared.fault.Cause.TheVariants as causes
use Rattle.segment_core.specs.declared.fault.ScanFault.{ScanFault}
use Rattle.segment_core.specs.declared.fault.ScanFault.TheVariants as faults
use Rattle.cvec_c.specs.declared.fault.CvecFault.{CvecFault}

-- the number of a cause, and the kind of frame that was found
abbrev pub cause_code : Cause → ℕ × ℕ
cause_code causes.NoGate = (1, 0)
cause_code causes.ShortFrame = (2, 0)
cause_code (causes.Kind kind) = (3, kind)
cause_code causes.TooLarge = (4, 0)
cause_code causes.Layout = (5, 0)
cause_code causes.Runs = (6, 0)
cause_code causes.Range = (7, 0)
cause_code causes.Unfolded = (8, 0)
cause_code causes.FoldCount = (9, 0)
cause_code causes.TooLong = (10, 0)
cause_code causes.BadRecord = (11, 0)

-- what is told of a fault: its place, its cause, and the version, the width or the kind that was found
abbrev pub fault_record : ScanFault → CvecFault
fault_record faults.Unborn = record { at = 0; cause = 0; found = 0 }
fault_record faults.NotSegment = record { at = 0; cause = 0; found = 0 }
fault_record (faults.Version version) = record { at = 0; cause = 0; found = version }
fault_record (faults.Width width) = record { at = 0; cause = 0; found = width }
fault_record (faults.Damaged at cause) = record { at = at; cause = (cause_code cause).0; found = (cause_code cause).1 }
fault_record faults.Memory = record { at = 0; cause = 0; found = 0 }
