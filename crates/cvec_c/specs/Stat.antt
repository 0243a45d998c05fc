-- What is told of an image that has a vector, and of one that is refused.
use Rattle.std.specs.Prelude.{◌≡◌, ℕ, List, length}
use Rattle.record_core.specs.Bytes.{Encoding}
use Rattle.segment_core.specs.declared.fault.ScanFault.{ScanFault}
use Rattle.segment_core.specs.declared.format.Format.{Format}
use Rattle.segment_core.specs.Shape.{version_of, shape_of}
use Rattle.segment_core.specs.Frame.{Frame, text}
use Rattle.segment_core.specs.Tally.{tally_of}
use Rattle.segment_core.specs.Fault.{IsRefused}
use Rattle.segment_core.specs.Vector.{HasVector}
use Rattle.segment_core.specs.declared.vector.Scanned.{Scanned}
use Rattle.c_core.specs.Refusal.{code_of, of_scan}
use Rattle.cvec_c.specs.declared.stat.CvecStat.{CvecStat}
use Rattle.cvec_c.specs.declared.fault.CvecFault.{CvecFault}
use Rattle.cvec_c.specs.Fault.{fault_record}

-- what is told of what a scan found
abbrev pub stat_of : {R : Type 0} → Scanned R → CvecStat
stat_of scanned = record {
  size = length scanned.records.items;
  frames = scanned.frames;
  changes = scanned.changes;
  folded = scanned.folded;
  gate = scanned.gate;
  width = scanned.width;
  version = scanned.version;
}

-- the image has this vector, and the fields are its own
pub record HasStat {R : Type 0} (form : Encoding R) (image : List ℕ) (records : List R) (stat : CvecStat) : Type 0 where
  pub format : Format
  pub frames : List Frame
  pub vector : HasVector format form image frames records
  pub version_is : stat.version ≡ version_of format
  pub width_is : stat.width ≡ form.width
  pub size_is : stat.size ≡ length records
  pub frames_are : stat.frames ≡ length frames
  pub changes_are : stat.changes ≡ (tally_of frames).changes
  pub folded_is : stat.folded ≡ (tally_of frames).folded
  pub gate_is : stat.gate ≡ length (text (shape_of format form) frames)

-- why it has none of records of this form, as it is told: the image's first fault, or want of memory
abbrev pub ToldOf : List ℕ → ℕ → CvecFault → (R : Type 0) → Encoding R → Type 0
ToldOf image answer fault R form = (refusal : ScanFault) × IsRefused form image refusal × (answer ≡ code_of (of_scan refusal)) × (fault ≡ fault_record refusal)
