-- What no call tells of a file that another process writes. A ghost value holds no functions, so its moments are a list.
use Rattle.std.specs.Prelude.{ℕ, zero, suc, ◌+◌, List, [], ◌∷◌, get_or}

pub record SharedTruth : Type 0 where
  -- what the file held when it was opened, and at each moment behind that one; from the last of them on the same
  pub first : List ℕ
  pub later : List (List ℕ)
  -- how many moments each call lasted
  pub lasts : List ℕ

-- what it holds at moment t
abbrev pub held_at : List ℕ → List (List ℕ) → ℕ → List ℕ
held_at bytes [] t = bytes
held_at bytes (next ∷ later) zero = bytes
held_at bytes (next ∷ later) (suc t) = held_at next later t

-- the moment at which so many calls had ended
abbrev pub end_of_call : SharedTruth → ℕ → ℕ
end_of_call truth zero = 0
end_of_call truth (suc calls) = end_of_call truth calls + get_or truth.lasts calls 0

-- One truth, where any would do: nothing rests on which it is.
pub untold_share : SharedTruth
untold_share = record { first = []; later = []; lasts = [] }
