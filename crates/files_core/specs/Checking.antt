-- What a check tells of a file.
use Rattle.std.specs.Prelude.{◌≡◌, ℕ, ◌-◌, List, ◌++◌, length, codes, decimal}
use Rattle.record_core.specs.Bytes.{Encoding}
use Rattle.segment_core.specs.declared.vector.Scanned.{Scanned}
use Rattle.segment_core.specs.Scanned.{IsScanOf}
use Rattle.text_core.specs.Text.{ended_line}
use Rattle.files_core.specs.declared.checking.Measures.{Measures}
use Rattle.files_core.specs.Texts.{checked_line}

-- the text tells what a scan finds: of the bytes, where these are known
pub record IsChecked {R : Type 0} (form : Encoding R) (known : Type 0) (bytes text : List ℕ) : Type 0 where
  pub scanned : Scanned R
  pub scan : known → IsScanOf form bytes scanned
  pub told : text ≡ checked_line scanned

-- what is told of a scan
abbrev pub measures_of : {R : Type 0} → Scanned R → Measures
measures_of scanned = record {
  version = scanned.version;
  width = scanned.width;
  size = length scanned.records.items;
  frames = scanned.frames;
  live = scanned.changes - scanned.folded;
}

-- it is told of a scan: of the bytes, where these are known
pub record IsMeasured {R : Type 0} (form : Encoding R) (known : Type 0) (bytes : List ℕ) (measures : Measures) : Type 0 where
  pub scanned : Scanned R
  pub scan : known → IsScanOf form bytes scanned
  pub is : measures ≡ measures_of scanned

-- the line that tells it, and its front
abbrev pub measures_front : Measures → List ℕ
measures_front measures = (codes "ok version " ++ decimal measures.version) ++ (codes " width " ++ decimal measures.width) ++ (codes " size " ++ decimal measures.size)

abbrev pub measures_line : Measures → List ℕ
measures_line measures = ended_line (measures_front measures ++ (codes " frames " ++ decimal measures.frames) ++ (codes " live " ++ decimal measures.live))
