-- Lists of records in bytes: record i has the cell of its width at i times the width.
use Rattle.std.specs.Prelude.{◌≡◌, ℕ, ◌<◌, ◌*◌, List, [], ◌∷◌, Some, None, IsSome, length, take, drop, slice_get}
use Rattle.record_core.specs.Bytes.{Encoding}
use Rattle.record_core.specs.declared.records.RecordsFault.{RecordsFault}
use Rattle.record_core.specs.declared.records.RecordsFault.TheVariants.{Bad, Memory}

-- the bytes of record i
abbrev pub cell : ℕ → List ℕ → ℕ → List ℕ
cell width bytes i = take width (drop (i * width) bytes)

-- the bytes are these records and nothing else
pub record AreRecords {R : Type 0} (form : Encoding R) (bytes : List ℕ) (records : List R) : Type 0 where
  pub filled : length bytes ≡ length records * form.width
  pub each : (i : ℕ) → i < length records → form.value_of (cell form.width bytes i) ≡ slice_get records i

-- what was written of each record is read as that record
abbrev pub AreReadAgain : {R : Type 0} → Encoding R → List R → Type 0
AreReadAgain form [] = Unit {0}
AreReadAgain form (r ∷ rs) = (form.value_of (form.bytes_of r) ≡ Some r) × AreReadAgain form rs

-- the first records of these bytes have been read
pub record HasRead {R : Type 0} (form : Encoding R) (bytes : List ℕ) (count : ℕ) (records : List R) : Type 0 where
  pub so_far : length records ≡ count
  pub each : (i : ℕ) → i < count → form.value_of (cell form.width bytes i) ≡ slice_get records i

-- record i is the first of count that the bytes don't have
pub record IsFirstBad {R : Type 0} (form : Encoding R) (bytes : List ℕ) (count i : ℕ) : Type 0 where
  pub inside : i < count
  pub bad : form.value_of (cell form.width bytes i) ≡ None
  pub before : (k : ℕ) → k < i → IsSome (form.value_of (cell form.width bytes k))

abbrev pub FirstBad : {R : Type 0} → Encoding R → List ℕ → ℕ → RecordsFault → Type 0
FirstBad form bytes count (Bad i) = IsFirstBad form bytes count i
FirstBad form bytes count Memory = Unit {0}

-- memory was not what was refused
abbrev pub IsBad : RecordsFault → Type 0
IsBad (Bad i) = Unit {0}
IsBad Memory = ⊥

-- so many records stood before what was refused
abbrev pub ComesAfter : ℕ → RecordsFault → Type 0
ComesAfter n (Bad i) = n ≡ i
ComesAfter n Memory = Unit {0}
