-- The events of a vector: what another process does to its copy, line by line.
use Rattle.std.specs.Prelude.{◌≡◌, ℕ, ◌<◌, List, [], ◌∷◌, ◌++◌, length, take, set, Some, codes, decimal, map}
use Rattle.std.specs.List.{flat_map}
use Rattle.record_core.specs.Bytes.{Encoding}
use Rattle.text_core.specs.Text.{ended_line}
use Rattle.beside_core.specs.declared.news.Edit.{Edit}
use Rattle.beside_core.specs.declared.news.Edit.TheVariants as edits

-- a record is put behind the last one, one is replaced, or the vector is cut to a length
pub data Event (R : Type 0) : Type 0 where
  Put : R → Event R
  Set : ℕ → R → Event R
  Cut : ℕ → Event R

-- The events, one after the other and each inside the vector so far, make of these records as their bytes those.
abbrev pub IsApplied : {R : Type 0} → Encoding R → List (Event R) → List (List ℕ) → List (List ℕ) → Type 0
IsApplied form [] old new = old ≡ new
IsApplied form (Put r ∷ events) old new = (bytes : List ℕ) × (form.value_of bytes ≡ Some r) × IsApplied form events (old ++ bytes ∷ []) new
IsApplied form (Set i r ∷ events) old new = (i < length old) × (bytes : List ℕ) × (form.value_of bytes ≡ Some r) × IsApplied form events (set old i bytes) new
IsApplied form (Cut n ∷ events) old new = (n < length old) × IsApplied form events (take n old) new

abbrev pub event_text : {R : Type 0} → (R → List ℕ) → Event R → List ℕ
event_text text_of (Put r) = codes "+ " ++ text_of r
event_text text_of (Set i r) = codes "= " ++ (decimal i ++ (codes " " ++ text_of r))
event_text text_of (Cut n) = codes "< " ++ decimal n

-- one event a line
abbrev pub event_lines : {R : Type 0} → (R → List ℕ) → List (Event R) → List ℕ
event_lines text_of events = flat_map (λ event. ended_line (event_text text_of event)) events

abbrev pub event_of : {R : Type 0} → Edit R → Event R
event_of (edits.Set i r) = Set i r
event_of (edits.Cut n) = Cut n

-- what a look's edits, and the records behind them, are as events
abbrev pub events_of : {R : Type 0} → List (Edit R) → List R → List (Event R)
events_of edits records = map event_of edits ++ map (λ r. Put r) records

-- the lines of edits, and those of records that are put
abbrev pub edit_lines : {R : Type 0} → (R → List ℕ) → List (Edit R) → List ℕ
edit_lines text_of edits = flat_map (λ edit. ended_line (event_text text_of (event_of edit))) edits

abbrev pub put_lines : {R : Type 0} → (R → List ℕ) → List R → List ℕ
put_lines text_of records = flat_map (λ r. ended_line (event_text text_of (Put r))) records
