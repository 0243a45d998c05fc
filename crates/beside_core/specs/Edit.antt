-- What was done to the records that a vector had.
use Rattle.std.specs.Prelude.{◌≡◌, ℕ, ◌<◌, List, [], ◌∷◌, ◌++◌, length, take, set, Some}
use Rattle.std.specs.List.{AllByRecursion}
use Rattle.record_core.specs.Bytes.{Encoding}
use Rattle.beside_core.specs.declared.news.Edit.{Edit}
use Rattle.beside_core.specs.declared.news.Edit.TheVariants.{Set, Cut}
use Rattle.beside_core.specs.declared.since.Loss.{Loss}
use Rattle.beside_core.specs.declared.since.Loss.TheVariants.{Changed, Shorter}

-- The edits, one after the other and each inside the vector so far, make of these records as their bytes those.
abbrev pub IsEdited : {R : Type 0} → Encoding R → List (Edit R) → List (List ℕ) → List (List ℕ) → Type 0
IsEdited form [] old new = old ≡ new
IsEdited form (Set i r ∷ edits) old new = (i < length old) × (bytes : List ℕ) × (form.value_of bytes ≡ Some r) × IsEdited form edits (set old i bytes) new
IsEdited form (Cut n ∷ edits) old new = (n < length old) × IsEdited form edits (take n old) new

-- what an edit loses of the records that were there
abbrev pub loss_of : {R : Type 0} → Edit R → Loss
loss_of (Set i r) = Changed i
loss_of (Cut n) = Shorter n

-- edits that have this were noted behind those that were there
abbrev pub AreNoted : {R : Type 0} → (Edit R → Type 0) → List (Edit R) → List (Edit R) → Type 0
AreNoted {R} Has old new = (more : List (Edit R)) × (new ≡ old ++ more) × AllByRecursion Has more
