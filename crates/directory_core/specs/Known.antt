-- What a pass knows of a directory.
use Rattle.std.specs.Prelude.{◌≡◌, ◌≤◌, ◌⊎◌, ℕ, Bool, true, List, length, Option}
use Rattle.block_core.specs.Growth.{Growth}
use Rattle.directory_core.specs.Identity.{Identity}

-- how a pass knows it: of each bucket that it has met the names of the bucket's cells, and the names of the
-- cells of the growths that it knows. No clause that another crate can use looks inside
pub record Held : Type 0 where
  pub buckets : List (Option (List ℕ))
  pub cells : List ℕ

-- what contracts see of a pass: the directory that it is of; the growths that it knows, in order; whether it found
-- the end behind them; and whether its last look found a growth there that doesn't follow them
pub record Known (R : Type 0) : Type 0 where
  pub of : Identity
  pub entries : List (Growth R)
  pub ended : Bool
  pub strayed : Bool
  pub held : Held

-- no growth can stand behind those that it knows: the end does, or the directory has no more room
abbrev pub KnowsAll : {R : Type 0} → Known R → Type 0
KnowsAll pass = (pass.ended ≡ true) ⊎ (pass.of.room ≤ length pass.entries)
