-- How far an image has been read.
use Rattle.std.specs.Prelude.{◌≡◌, ◌≤◌, ◌<◌, ◌+◌, ◌-◌, ◌*◌, ◌/◌, ◌↔◌, ℕ, nat_lt, if◌then◌else◌, List, [], ◌++◌, length, take, vec_capacity, ◌⊎◌}
use Rattle.record_core.specs.Bytes.{Encoding}
use Rattle.segment_core.specs.declared.fault.Cause.TheVariants.{NoGate, ShortFrame}
use Rattle.segment_core.specs.declared.fault.ScanFault.{ScanFault}
use Rattle.segment_core.specs.declared.fault.ScanFault.TheVariants.{Memory}
use Rattle.segment_core.specs.declared.scanner.Scanner.{Scanner}
use Rattle.segment_core.specs.declared.scanner.ScanStage.{ScanStage}
use Rattle.segment_core.specs.declared.scanner.ScanStage.TheVariants.{Header, Open, Closed, Refused}
use Rattle.segment_core.specs.declared.vector.Scanned.{Scanned}
use Rattle.segment_core.specs.declared.format.Shape.{Shape}
use Rattle.segment_core.specs.Shape.{limit_of}
use Rattle.segment_core.specs.Frame.{Frame, header_len, frame_head_len}
use Rattle.segment_core.specs.Image.{HasFrames}
use Rattle.segment_core.specs.Fault.{payload_len_in, damaged, IsSound, IsFirstFault, IsRefused}
use Rattle.segment_core.specs.Scanned.{IsScanOf}
use Rattle.segment_core.specs.Reading.{IsShort}
use Rattle.segment_core.specs.Walk.{IsBehind, StandsBefore}

-- how long a frame is, as far as its front tells: its head at least
abbrev pub len_told : List ℕ → ℕ
len_told front = if nat_lt (length front) frame_head_len then frame_head_len else frame_head_len + payload_len_in front

-- the bytes of a group's payload before its records, where it has one growth
abbrev pub growth_head_len : ℕ
growth_head_len = 8

-- a file of no more than these bytes can have so many records: those of groups of one growth each, between the
-- header and the last gate
pub record CanHold (shape : Shape) (bytes records : ℕ) : Type 0 where
  pub groups : ℕ
  pub in_groups : records ≤ groups * ((limit_of shape.format - growth_head_len) / shape.width)
  pub in_bytes : header_len + 1 + groups * (frame_head_len + growth_head_len) + records * shape.width ≤ bytes

-- the image is the front of a header, and the vector has no memory yet
pub record IsFront {R : Type 0} (form : Encoding R) (image : List ℕ) (scanner : Scanner R) : Type 0 where
  pub short : length image < header_len
  pub filled : scanner.filled ≡ length image
  pub kept : take scanner.filled scanner.header ≡ image
  pub behind : IsBehind form [] scanner.walk
  pub pending : scanner.pending.items ≡ []
  pub bare : vec_capacity scanner.walk.found.records ≡ 0

-- the image goes on behind the frames that were read
pub record GoesOn {R : Type 0} (form : Encoding R) (image : List ℕ) (scanner : Scanner R) : Type 0 where
  pub sound : IsSound form.width scanner.walk.shape.format image
  pub stands : StandsBefore form image scanner.pending.items scanner.walk
  pub short : IsShort scanner.walk.shape scanner.walk.at scanner.pending.items

-- a closed gate stands behind the frames that were read
pub record HasEnded {R : Type 0} (form : Encoding R) (image : List ℕ) (scanner : Scanner R) : Type 0 where
  pub sound : IsSound form.width scanner.walk.shape.format image
  pub frames : List Frame
  pub behind : IsBehind form frames scanner.walk
  pub framed : HasFrames scanner.walk.shape image frames

-- what is answered, whatever follows
abbrev pub IsRefusedFor : {R : Type 0} → Encoding R → List ℕ → ScanFault → Type 0
IsRefusedFor form image fault = (more : List ℕ) → IsRefused form (image ++ more) fault

abbrev pub IsFedAt : {R : Type 0} → Encoding R → List ℕ → Scanner R → ScanStage → Type 0
IsFedAt form image scanner Header = IsFront form image scanner
IsFedAt form image scanner Open = GoesOn form image scanner
IsFedAt form image scanner Closed = HasEnded form image scanner
IsFedAt form image scanner (Refused fault) = IsRefusedFor form image fault

-- the scanner has taken in this image
unfoldable pub IsFed : {R : Type 0} → Encoding R → List ℕ → Scanner R → Type 0
IsFed form image scanner = IsFedAt form image scanner scanner.stage

-- the frames go on, or have ended
abbrev pub IsOn : {R : Type 0} → Encoding R → List ℕ → Scanner R → Type 0
IsOn form image scanner = ((scanner.stage ≡ Open) × GoesOn form image scanner) ⊎ ((scanner.stage ≡ Closed) × HasEnded form image scanner)

-- memory was refused
abbrev pub IsLost : {R : Type 0} → Scanner R → Type 0
IsLost scanner = scanner.stage ≡ Refused Memory

-- bytes behind the image change neither its vector nor its first fault
pub record IsDecided {R : Type 0} (form : Encoding R) (image : List ℕ) : Type 0 where
  pub scans : (more : List ℕ) (scanned : Scanned R) → IsScanOf form (image ++ more) scanned ↔ IsScanOf form image scanned
  pub faults : (more : List ℕ) (fault : ScanFault) → IsFirstFault form (image ++ more) fault ↔ IsFirstFault form image fault

-- the image ends inside its header, where a gate has to stand, or inside a frame
abbrev pub IsCutShort : {R : Type 0} → Encoding R → List ℕ → Type 0
IsCutShort form image = (length image < header_len) ⊎ ((p : ℕ) × (IsFirstFault form image (damaged p NoGate) ⊎ IsFirstFault form image (damaged p ShortFrame)))
