-- A put that a growth phase is asked for, and with which it goes to the book.
use Rattle.std.proofs.Common.{◌≡◌, ℕ, false, List, length}
use Rattle.block_core.specs.Length.{IsBlockLength}
use Rattle.book_core.specs.Lists.{Seated}
use Rattle.drive_core.specs.Medium.{Medium}
use Rattle.drive_core.specs.World.{World, GrowthPhase}
use Rattle.drive_core.specs.Ties.{GrowingOf, IsGrowing}
use Rattle.drive_core.proofs.PutRow.{HasMet}

-- The records fit a block and the book isn't closed. The seat is as the book left it, and has then met the last.
pub record IsAskedPut {R D : Type 0} (width : ℕ) (g : GrowingOf R D) (k : ℕ) (records : List R) (new : Seated R) (row : List (Seated R)) : Type 0 where
  pub block : IsBlockLength width (length records)
  pub not_closed : g.closed ≡ false
  pub old : Seated R
  pub met : HasMet g.seats g.last k old new row

module _ {R D : Type 0} {m : Medium R D} {w : World R} {phase : GrowthPhase} {g : GrowingOf R D} (tie : IsGrowing m w phase g)
    {k : ℕ} (records : List R) {new : Seated R} {row : List (Seated R)} where
  abbrev pub asked_put : {old : Seated R} → IsBlockLength m.form.width (length records) → g.closed ≡ false → HasMet g.seats g.last k old new row
      → IsAskedPut m.form.width g k records new row
  asked_put {old} block not_closed met = record { block = block; not_closed = not_closed; old = old; met = met }
