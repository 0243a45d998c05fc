-- The list of a seat, laid out in slices.
use Rattle.std.specs.Prelude.{◌≡◌, ℕ, ◌+◌, ◌*◌, ◌<◌, ◌≤◌, ◌⊎◌, List, ◌++◌, length, map, take, get_or, slice_get, filter, sum_by, nat_lt, All, Option, Some, MatchOption}
use Rattle.std.specs.Borrow.{Bor}
use Rattle.record_core.specs.Limits.{record_limit}
use Rattle.book_core.specs.Lists.{Phase, Seated, joined_pieces, seat_list}

-- each piece has a record
abbrev pub AreFull : {R : Type 0} → List (List R) → Type 0
AreFull pieces = All (λ p. 0 < length p) pieces

-- each piece has a record and starts where the one before it ends, and together they have so many records
pub record HaveStarts {R : Type 0} (pieces : List (List R)) (starts : List ℕ) (size : ℕ) : Type 0 where
  pub full : AreFull pieces
  pub as_many : length starts ≡ length pieces
  pub start_at : (k : ℕ) → k < length pieces → get_or starts k 0 ≡ sum_by length (take k pieces)
  pub size_is : size ≡ sum_by length pieces
  pub in_limit : size ≤ record_limit

-- where step is above 0, the pieces that begin at these starts have step records each, the last one at most so many
pub record AreEven (starts : List ℕ) (size step : ℕ) : Type 0 where
  pub start_at : (k : ℕ) → 0 < step → k < length starts → get_or starts k 0 ≡ k * step
  pub no_more : 0 < step → size ≤ length starts * step

-- the one length of pieces with one more of `len` records, of which there are `count` with `size` records: it is 0, or
-- that of the first one, or that of those before, which are full and no shorter
abbrev pub IsStepWith : ℕ → ℕ → ℕ → ℕ → ℕ → Type 0
IsStepWith count size step len new = (new ≡ 0) ⊎ (((count ≡ 0) × (new ≡ len)) ⊎ ((new ≡ step) × (size ≡ count * step) × (len ≤ step)))

-- what contracts see of a row of slices: the records of each, and how many slices and starts there is room for
pub record Row (R : Type 0) : Type 0 where
  pub pieces : List (List R)
  pub slice_room : ℕ
  pub start_room : ℕ

-- there is room for so many more
abbrev pub HasRoomFor : {R : Type 0} → Row R → ℕ → Type 0
HasRoomFor row n = (length row.pieces + n ≤ row.slice_room) × (length row.pieces + n ≤ row.start_room)

-- the pieces that have records
abbrev pub full_of : {R : Type 0} → List (List R) → List (List R)
full_of pieces = filter (λ p. nat_lt 0 (length p)) pieces

-- what contracts see of a snapshot: the phase that it is of, and the records of each growth that it has, in order
pub record Shown (R : Type 0) : Type 0 where
  pub of : Phase R
  pub growths : List (List R)

-- its pieces: the blocks from before the phase that have records, then the growths
abbrev pub pieces_in : {R : Type 0} → Shown R → List (List R)
pieces_in shown = full_of shown.of.blocks ++ shown.growths

-- its list
abbrev pub list_in : {R : Type 0} → Shown R → List R
list_in shown = joined_pieces (pieces_in shown)

-- the record at position i of the list is found, or there is none
abbrev pub IsFoundAt : {R : Type 0} → List R → ℕ → Option (Bor R) → Type 0
IsFoundAt records i found = MatchOption found (length records ≤ i) (λ it. slice_get records i ≡ Some it.now)

-- of each position that is asked for, in their order, that is found
abbrev pub AreFoundAt : {R : Type 0} → List R → List ℕ → List (Option (Bor R)) → Type 0
AreFoundAt records positions found = (k i : ℕ) (it : Option (Bor _)) → slice_get positions k ≡ Some i → slice_get found k ≡ Some it → IsFoundAt records i it

-- the records of each growth that the seat knows
abbrev pub growth_records : {R : Type 0} → Seated R → List (List R)
growth_records seat = map (λ e. e.records) seat.pass.entries

-- it has just what the seat knows
pub record ShowsSeat {R : Type 0} (live : Phase R) (seat : Seated R) (shown : Shown R) : Type 0 where
  pub of : shown.of ≡ live
  pub growths : shown.growths ≡ growth_records seat
  pub list : list_in shown ≡ seat_list live seat
