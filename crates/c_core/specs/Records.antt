-- Records that come and go as their bytes, one behind the other.
use Rattle.std.specs.Prelude.{◌≡◌, ℕ, ◌-◌, ◌*◌, ◌/◌, ◌++◌, List, length, min, take, drop, Some, None}
use Rattle.std.specs.List.{flat_map}
use Rattle.record_core.specs.Bytes.{Encoding}
use Rattle.record_core.specs.Cells.{AreRecords}

-- no list of records has these bytes: they are no whole records, or one of them has no value
abbrev pub AreNone : {R : Type 0} → Encoding R → List ℕ → Type 0
AreNone {R = R} form bytes = (records : List R) → AreRecords form bytes records → ⊥

-- they are this one record
pub record IsRecord {R : Type 0} (form : Encoding R) (bytes : List ℕ) (x : R) : Type 0 where
  pub whole : length bytes ≡ form.width
  pub read : form.value_of bytes ≡ Some x

-- they are of another length, or of no value
abbrev pub IsNoRecord : {R : Type 0} → Encoding R → List ℕ → Type 0
IsNoRecord form bytes = length bytes ≡ form.width → form.value_of bytes ≡ None

-- The bytes of so many of them, from a position on as far as both lists reach, stand in front, and behind them what stood there.
pub record AreWritten {R : Type 0} (form : Encoding R) (records : List R) (from : ℕ) (old new : List ℕ) (count : ℕ) : Type 0 where
  pub count_is : count ≡ min (length records - from) (length old / form.width)
  pub written : new ≡ flat_map form.bytes_of (take count (drop from records)) ++ drop (count * form.width) old
