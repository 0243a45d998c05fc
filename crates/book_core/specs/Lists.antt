-- The list that a seat reads.
use Rattle.std.specs.Prelude.{◌≡◌, ℕ, ◌==◌, ◌+◌, ◌<◌, ◌≤◌, List, ◌++◌, length, map, take, drop, filter, flat_map, sum_by, slice_get, Some}
use Rattle.std.specs.Global.{Vec}
use Rattle.block_core.specs.Growth.{Growth}
use Rattle.directory_core.specs.Chain.{grown_records}
use Rattle.directory_core.specs.Identity.{Identity}
use Rattle.directory_core.specs.Known.{Known}
use Rattle.book_core.specs.Marks.{MarkName, MarkEnd}

-- the records of each block
abbrev pub records_of : {R : Type 0} → List (Vec R) → List (List R)
records_of blocks = map (λ b. b.items) blocks

-- the records of the pieces, in order
abbrev pub joined_pieces : {R : Type 0} → List (List R) → List R
joined_pieces pieces = flat_map (λ p. p) pieces

-- what contracts see of a book: its directory, its mark, and the records of each block from before the phase
pub record Phase (R : Type 0) : Type 0 where
  pub directory : Identity
  pub mark : MarkName
  pub seat_count : ℕ
  pub blocks : List (List R)

-- the records from before the phase
abbrev pub opening_of : {R : Type 0} → Phase R → List R
opening_of live = joined_pieces live.blocks

-- what contracts see of a seat: its id, the growths that it made, in order, the growths that it knows, and what it
-- was told by the mark
pub record Seated (R : Type 0) : Type 0 where
  pub id : ℕ
  pub made : List (Growth R)
  pub pass : Known R
  pub mark : MarkEnd

-- the seat is of that book
pub record IsSeatOf {R : Type 0} (live : Phase R) (seat : Seated R) : Type 0 where
  pub directory : seat.pass.of ≡ live.directory
  pub mark : seat.mark.of ≡ live.mark

-- the whole list as the seat knows it: the records from before the phase, then those of the growths
abbrev pub seat_list : {R : Type 0} → Phase R → Seated R → List R
seat_list live seat = opening_of live ++ grown_records seat.pass.entries

-- the pieces in which it stands: the blocks from before the phase, then the growths by their numbers
abbrev pub seat_pieces : {R : Type 0} → Phase R → Seated R → List (List R)
seat_pieces live seat = live.blocks ++ map (λ e. e.records) seat.pass.entries

-- position i of the pieces joined is that place of that piece
pub record IsPlaceIn {R : Type 0} (pieces : List (List R)) (i number place : ℕ) : Type 0 where
  pub piece : List R
  pub at : slice_get pieces number ≡ Some piece
  pub inside : place < length piece
  pub before : sum_by length (take number pieces) + place ≡ i

-- the records from position i of the pieces joined to the end of the piece that has it
pub record IsRestOfPiece {R : Type 0} (pieces : List (List R)) (i : ℕ) (rest : List R) : Type 0 where
  pub number : ℕ
  pub place : ℕ
  pub piece : List R
  pub at : slice_get pieces number ≡ Some piece
  pub inside : place < length piece
  pub before : sum_by length (take number pieces) + place ≡ i
  pub is : rest ≡ drop place piece

-- the growths that bear a seat's id
abbrev pub own_of : {R : Type 0} → ℕ → List (Growth R) → List (Growth R)
own_of id entries = filter (λ e. e.seat == id) entries

-- of its own growths the seat's list has just those that it made, each once, in order
abbrev pub HasJustItsOwn : {R : Type 0} → Seated R → Type 0
HasJustItsOwn seat = own_of seat.id seat.pass.entries ≡ seat.made

-- growth n is the first one from there on that bears the id
pub record IsFirstOf {R : Type 0} (id from n : ℕ) (entries : List (Growth R)) : Type 0 where
  pub growth : Growth R
  pub at : slice_get entries n ≡ Some growth
  pub bears : growth.seat ≡ id
  pub first : own_of id (take n entries) ≡ own_of id (take from entries)

-- the growths that the seat made stand in its list in their order, and are those of its first ones that bear its id
pub record StandInList {R : Type 0} (seat : Seated R) : Type 0 where
  pub first : ℕ
  pub inside : first ≤ length seat.pass.entries
  pub are : seat.made ≡ own_of seat.id (take first seat.pass.entries)
