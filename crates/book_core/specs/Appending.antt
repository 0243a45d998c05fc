-- A seat that gathers records.
use Rattle.std.specs.Prelude.{◌≡◌, ℕ, ◌<◌, List, [], ◌∷◌, ◌++◌, length, Option, MatchOption}
use Rattle.book_core.specs.declared.fault.GrowFault.{GrowFault}
use Rattle.book_core.specs.declared.fault.GrowFault.TheVariants.{Memory}
use Rattle.book_core.specs.declared.seat.Receipt.{Receipt}
use Rattle.book_core.specs.Lists.{Phase, Seated}
use Rattle.book_core.specs.Growing.{Grown, SeatLearns, IsBookRefusal}

-- a seat, the records that it will grow by, and how many of them a full block has
pub record Appending (R : Type 0) : Type 0 where
  pub seat : Seated R
  pub kept : List R
  pub room : ℕ

-- the records that were kept were grown by as one block, if there were any, and then these are kept
abbrev pub IsFlushed : {R : Type 0} → Phase R → Appending R → Appending R → Option Receipt → Type 0
IsFlushed live old new made = (new.room ≡ old.room) × (new.kept ≡ []) × MatchOption made ((old.kept ≡ []) × (new.seat ≡ old.seat)) (Grown live old.seat new.seat old.kept)

-- the record is kept: behind those kept before; or, where these were a full block, alone, and they were grown by
abbrev pub IsAppended : {R : Type 0} → Phase R → Appending R → Appending R → R → Option Receipt → Type 0
IsAppended live old new v made =
    (new.room ≡ old.room)
    × MatchOption made
    ((length old.kept < old.room) × (new.seat ≡ old.seat) × (new.kept ≡ old.kept ++ v ∷ []))
    (λ receipt. (length old.kept ≡ old.room) × Grown live old.seat new.seat old.kept receipt × (new.kept ≡ v ∷ []))

-- what was kept is kept still, and no growth was made
abbrev pub KeepsAll : {R : Type 0} → Appending R → Appending R → Type 0
KeepsAll old new = (new.room ≡ old.room) × (new.kept ≡ old.kept) × SeatLearns old.seat new.seat

-- the fault with which what is kept isn't grown by: memory was refused, or the book refused a growth of so many records
abbrev pub IsFlushRefusal : {R : Type 0} → Phase R → Appending R → GrowFault → Type 0
IsFlushRefusal live appending Memory = Unit {0}
IsFlushRefusal live appending other = IsBookRefusal live appending.seat (length appending.kept) other

-- the fault with which a record isn't kept: memory was refused, or the book refused a growth by a full block
abbrev pub IsAppendRefusal : {R : Type 0} → Phase R → Appending R → GrowFault → Type 0
IsAppendRefusal live appending Memory = Unit {0}
IsAppendRefusal live appending other = (length appending.kept ≡ appending.room) × IsBookRefusal live appending.seat (length appending.kept) other
