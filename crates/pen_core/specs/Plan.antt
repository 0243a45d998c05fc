-- What a fold that is begun will write.
use Rattle.std.specs.Prelude.{◌≡◌, ℕ, ◌≤◌, List, length, map, All}
use Rattle.record_core.specs.Bytes.{Encoding}
use Rattle.segment_core.specs.declared.found.Home.{Home}
use Rattle.pen_core.specs.declared.fold.Fold.{Fold}
use Rattle.pen_core.specs.Covered.{IsCover}
use Rattle.pen_core.specs.HomeRuns.{AreHomeRuns}
use Rattle.pen_core.specs.InHand.{write_of}
use Rattle.pen_core.specs.Values.{writes_for}

-- the records at the positions that the live runs cover, just these, by writes into adjacent home bytes in ascending
-- order
pub record IsPlan {R : Type 0} (form : Encoding R) (records : List R) (width size : ℕ) (live : List (ℕ × ℕ))
    (homes : List Home) (fold : Fold) : Type 0 where
  pub cover : List (ℕ × ℕ)
  pub runs : List Home
  pub covered : IsCover live cover
  pub at_home : AreHomeRuns width size homes cover runs
  pub writes_are : map (write_of fold.bytes.items) fold.writes.items ≡ writes_for form records runs
  pub inside : All (λ write. (write.from ≤ write.to) × (write.to ≤ length fold.bytes.items)) fold.writes.items
