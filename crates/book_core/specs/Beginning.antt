-- What a phase begins with.
use Rattle.std.specs.Prelude.{◌≡◌, ℕ, ◌<◌, ◌≤◌, ◌⊎◌, List, [], slice_get, Some}
use Rattle.directory_core.specs.Identity.{Identity}
use Rattle.directory_core.specs.Limits.{place_limit, growth_limit}
use Rattle.book_core.specs.declared.fault.GrowFault.{GrowFault}
use Rattle.book_core.specs.declared.fault.GrowFault.TheVariants.{Memory, TooLarge}
use Rattle.book_core.specs.Marks.{MarkName, nothing_told}
use Rattle.book_core.specs.Lists.{Seated}

-- the seats of a phase at most
abbrev pub seat_limit : ℕ
seat_limit = 64

-- the seat of that id, which made nothing, knows nothing, and was told nothing
pub record IsNewSeat {R : Type 0} (directory : Identity) (mark : MarkName) (id : ℕ) (seat : Seated R) : Type 0 where
  pub id_is : seat.id ≡ id
  pub made : seat.made ≡ []
  pub of : seat.pass.of ≡ directory
  pub knows : seat.pass.entries ≡ []
  pub marked : seat.mark ≡ record { of = mark; told = nothing_told; raises = [] }

-- seats with the ids 0, 1, ..
abbrev pub AreNewSeats : {R : Type 0} → Identity → MarkName → List (Seated R) → Type 0
AreNewSeats {R} directory mark seats = (k : ℕ) (seat : Seated R) → slice_get seats k ≡ Some seat → IsNewSeat directory mark k seat

-- a phase may have so much room, of that at most, and so many seats
pub record MayBeginWithin (most room seats : ℕ) : Type 0 where
  pub room_in : (0 < room) × (room ≤ most)
  pub seats_in : (0 < seats) × (seats ≤ seat_limit)

-- the fault with which a phase of that room at most isn't begun
abbrev pub IsBeginRefusalWithin : ℕ → ℕ → ℕ → GrowFault → Type 0
IsBeginRefusalWithin most room seats Memory = MayBeginWithin most room seats
IsBeginRefusalWithin most room seats TooLarge = (room ≡ 0) ⊎ ((most < room) ⊎ ((seats ≡ 0) ⊎ (seat_limit < seats)))
IsBeginRefusalWithin most room seats other = ⊥

-- a phase may have so much room and so many seats
abbrev pub MayBegin : ℕ → ℕ → Type 0
MayBegin room seats = MayBeginWithin growth_limit room seats

-- the fault with which a phase isn't begun
abbrev pub IsBeginRefusal : ℕ → ℕ → GrowFault → Type 0
IsBeginRefusal room seats fault = IsBeginRefusalWithin growth_limit room seats fault

-- so of a wide phase, which may have as much room as a directory
abbrev pub MayBeginWide : ℕ → ℕ → Type 0
MayBeginWide room seats = MayBeginWithin place_limit room seats

abbrev pub IsWideBeginRefusal : ℕ → ℕ → GrowFault → Type 0
IsWideBeginRefusal room seats fault = IsBeginRefusalWithin place_limit room seats fault
