-- What is sound of a damaged file: the frames that stand whole before a place.
use Rattle.std.specs.Prelude.{◌≡◌, ◌≢◌, ◌⊎◌, ℕ, ◌+◌, ◌≤◌, ◌<◌, ◌^◌, List, [], ◌∷◌, ◌++◌, length, take}
use Rattle.record_core.specs.Bytes.{Encoding}
use Rattle.segment_core.specs.Fault.{damaged, IsFirstFault, IsRefused}
use Rattle.segment_core.specs.Frame.{closed_gate}
use Rattle.segment_core.specs.declared.fault.Cause.TheVariants.{NoGate, ShortFrame}
use Rattle.segment_core.specs.declared.fault.ScanFault.{ScanFault}
use Rattle.pen_core.specs.Typed.{OpensTo}
use Rattle.pen_core.specs.declared.fault.OpenFault.{OpenFault}
use Rattle.pen_core.specs.declared.fault.OpenFault.TheVariants.{Scan, Disk}

-- the first bytes of a file, with the gate closed that ends them
abbrev pub closed_at : ℕ → List ℕ → List ℕ
closed_at end bytes = take end bytes ++ closed_gate ∷ []

-- the bytes are cut short: whole frames stand up to a place, and no more of them
abbrev pub IsCutAt : {R : Type 0} → Encoding R → List ℕ → ℕ → Type 0
IsCutAt form front end = IsFirstFault form front (damaged end NoGate) ⊎ IsFirstFault form front (damaged end ShortFrame)

-- that is no fault of bytes that are cut short within these many
abbrev pub IsNoCut : ℕ → ScanFault → Type 0
IsNoCut len fault = (end : ℕ) → end ≤ len → end + 1 < 2 ^ 64 → (fault ≢ damaged end NoGate) × (fault ≢ damaged end ShortFrame)

-- So many records are sound before a place: the bytes before it are the file of their vector, or the whole frames among
-- them are, once the gate behind these is closed.
pub record IsSoundFront {R : Type 0} (form : Encoding R) (bytes : List ℕ) (at n : ℕ) : Type 0 where
  pub records : List R
  pub count : n ≡ length records
  pub file : OpensTo form (take at bytes) records ⊎ ((end : ℕ) × IsCutAt form (take at bytes) end × OpensTo form (closed_at end bytes) records)

-- why no records are: neither the bytes before the place nor the whole frames among them are a file
abbrev pub IsFrontRefusal : {R : Type 0} → Encoding R → List ℕ → ℕ → OpenFault → Type 0
IsFrontRefusal form bytes at (Scan fault) =
    (IsRefused form (take at bytes) fault × IsNoCut (length (take at bytes)) fault)
    ⊎ ((end : ℕ) × IsCutAt form (take at bytes) end × IsRefused form (closed_at end bytes) fault)
IsFrontRefusal form bytes at (Disk cause) = Unit {0}

-- that is no refusal of bytes that are cut short within these many
abbrev pub IsNoCutOf : ℕ → OpenFault → Type 0
IsNoCutOf len (Scan fault) = IsNoCut len fault
IsNoCutOf len (Disk cause) = Unit {0}
