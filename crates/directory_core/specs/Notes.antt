-- What a pass keeps true of its notes.
use Rattle.std.specs.Prelude.{◌≡◌, ℕ, ◌+◌, ◌<◌, ◌≤◌, Bool, true, List, [], ◌∷◌, length, map, get_or, slice_get, Option, Some, None, MatchOption}
use Rattle.once_cell.specs.declared.race.note.Note.{Note}
use Rattle.block_core.specs.Length.{IsBlockLength}
use Rattle.block_core.specs.Growth.{Growth}
use Rattle.directory_core.specs.Limits.{place_limit}
use Rattle.record_core.specs.Limits.{record_limit}
use Rattle.directory_core.specs.Spot.{IsSpot}
use Rattle.directory_core.specs.Chain.{total, IsNextGrowth, IsChained, AreBlocks}

-- the names of the cells that the notes are of, and what the notes know
abbrev pub cells_of : {T : Type 0} → List (Note T) → List ℕ
cells_of notes = map (λ n. n.cell) notes

abbrev pub known_of : {T : Type 0} → List (Note T) → List (Option T)
known_of notes = map (λ n. n.known) notes

-- the values that are there
abbrev pub somes : {T : Type 0} → List (Option T) → List T
somes [] = []
somes (None ∷ xs) = somes xs
somes (Some x ∷ xs) = x ∷ somes xs

-- the name of the cell at that place of a bucket that is known
abbrev pub cell_in : Option (List ℕ) → ℕ → Option ℕ
cell_in None place = None
cell_in (Some names) place = slice_get names place

-- growth g has that cell of a bucket that is known
abbrev pub StandsIn : ℕ → ℕ → ℕ → Option (List ℕ) → ℕ → Type 0
StandsIn g bucket place known cell = IsSpot g bucket place × (cell_in known place ≡ Some cell)

-- growth g has that cell of one of the buckets
pub record HasCell (buckets : List (Option (List ℕ))) (g cell : ℕ) : Type 0 where
  pub bucket : ℕ
  pub place : ℕ
  pub at : StandsIn g bucket place (get_or buckets bucket None) cell

-- the growth behind these, of that length, keeps the directory within its limit
pub record IsNextInLimit {R : Type 0} (width limit : ℕ) (entries : List (Growth R)) (len : ℕ) (e : Growth R) : Type 0 where
  pub next : IsNextGrowth entries e
  pub len_is : length e.records ≡ len
  pub block : IsBlockLength width len
  pub fits : total entries + len ≤ limit

-- that entry ends the list: it bears a number that no growth has
abbrev pub IsEnd : {R : Type 0} → Growth R → Type 0
IsEnd e = e.number ≡ place_limit

-- a bucket of these cells has no growth at that place: it has no such place, or a note knows the end there
abbrev pub EndsIn : {R : Type 0} → ℕ → Option (Note (Growth R)) → List ℕ → Type 0
EndsIn place None names = length names ≤ place
EndsIn place (Some note) names = (slice_get names place ≡ Some note.cell) × MatchOption note.known ⊥ IsEnd

-- no growth has number g: its bucket is known, and has none at its place
pub record IsEndedAt {R : Type 0} (buckets : List (Option (List ℕ))) (g : ℕ) (end : Option (Note (Growth R))) : Type 0 where
  pub bucket : ℕ
  pub place : ℕ
  pub spot : IsSpot g bucket place
  pub ends : MatchOption (get_or buckets bucket None) ⊥ (EndsIn place end)

-- the notes are of growths that are known, each by the cell at its place in a bucket that is known
pub record NotesHold {R : Type 0} (buckets : List (Option (List ℕ))) (cells : List ℕ) (known : List (Option (Growth R))) : Type 0 where
  pub all_buckets : length buckets ≡ 26
  pub all_known : known ≡ map Some (somes known)
  pub as_many : length cells ≡ length known
  pub filed : (g : ℕ) → g < length cells → HasCell buckets g (get_or cells g 0)

-- the growths that are known follow one another within the directory's bounds
pub record ListHolds {R : Type 0} (width room limit : ℕ) (entries : List (Growth R)) (starts : List ℕ) (size : ℕ) : Type 0 where
  pub chained : IsChained entries
  pub blocks : AreBlocks width entries
  pub starts_are : starts ≡ map (λ e. e.start) entries
  pub size_is : size ≡ total entries
  pub in_limit : size ≤ limit
  pub in_room : length entries ≤ room
  pub limits : (room ≤ place_limit) × (limit ≤ record_limit)

-- what a pass keeps true: of its notes, of its list, of the end, and that its rows are reserved for the whole room
pub record PassHolds {R : Type 0} (width room limit : ℕ) (buckets : List (Option (List ℕ))) (cells : List ℕ) (known : List (Option (Growth R)))
    (starts : List ℕ) (size noted kept : ℕ) (ended : Bool) (end : Option (Note (Growth R))) : Type 0 where
  pub notes : NotesHold buckets cells known
  pub list : ListHolds width room limit (somes known) starts size
  pub reserved : (room ≤ noted) × (room ≤ kept)
  pub ends : ended ≡ true → IsEndedAt buckets (length (somes known)) end
