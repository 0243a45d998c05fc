-- What stands of a crew whose phase wasn't ended.
use Rattle.std.specs.Prelude.{◌≡◌, ℕ, ◌<◌, ◌≤◌, List, length, slice_get, Some}
use Rattle.block_core.specs.Growth.{Growth}
use Rattle.book_core.specs.Lists.{Seated}
use Rattle.vault_core.specs.Gathering.{made_by}
use Rattle.vault_core.specs.Leaving.{AreOfGrowers, StandAmong}
use Rattle.crew_core.specs.declared.crewing.CrewFault.{CrewFault}
use Rattle.crew_core.specs.declared.crewing.CrewFault.TheVariants.{Share, Gather}

-- The seat of the grower of that id, where these growths are known: it made growths of the first blocks that are named for it,
-- in order, each whole; they stand among those.
pub record IsLeftSeat {R : Type 0} (count : ℕ) (block : ℕ → List R) (id : ℕ) (growths : List (Growth R)) (seat : Seated R) : Type 0 where
  pub id_is : seat.id ≡ id
  pub few : length seat.made ≤ count
  pub blocks_are : (k : ℕ) (growth : Growth R) → slice_get seat.made k ≡ Some growth → growth.records ≡ block k
  pub stands : StandAmong id growths seat.made

-- What each of the n growers made is among the growths that the flusher knows; and where they made as many as that, these are all
-- of them.
abbrev pub LeavesGrowths : {R D : Type 0} → (ℕ → ℕ) → (ℕ → ℕ → List R) → ℕ → CrewFault R D → Type 0
LeavesGrowths count block n (Share back fault) = Unit {0}
LeavesGrowths {R} count block n (Gather g) =
    ((k : ℕ) → k < n → (seat : Seated R) × (slice_get g.seats.items k ≡ Some seat) × IsLeftSeat (count k) (block k) k g.flusher.pass.entries seat)
    × (made_by g.seats.items ≡ length g.flusher.pass.entries → AreOfGrowers n g.seats.items g.flusher.pass.entries)
