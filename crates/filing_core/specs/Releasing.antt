-- A writer through which a lock is let go.
use Rattle.std.specs.Prelude.{ℕ, List, ◌∷◌, Option}
use Rattle.std.specs.Option.{option_map}

-- What a writer holds that writes to another one through a borrow of this name: what that one is known to hold, behind the name.
-- So where it grows or stays, the borrow is the same.
abbrev pub known_through : ℕ → Option (List ℕ) → Option (List ℕ)
known_through name known = option_map (λ bytes. name ∷ bytes) known
