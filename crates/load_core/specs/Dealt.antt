-- Growths that are dealt to growers, one after the other.
use Rattle.std.specs.Prelude.{ℕ, ◌+◌, ◌-◌, ◌*◌, ◌/◌, List, [], take, drop, get_or}
use Rattle.std.specs.Int.{div_ceil}
use Rattle.directory_core.specs.Limits.{growth_limit}

-- how many of so many growths are for a grower
abbrev pub count_for : ℕ → ℕ → ℕ → ℕ
count_for growths growers grower = div_ceil (growths - grower) growers

-- the records of a grower's growth of that number: growth k is for grower k modulo their number
abbrev pub dealt : {R : Type 0} → List (List R) → ℕ → ℕ → ℕ → List R
dealt growths growers grower k = get_or growths (k * growers + grower) []

-- how many growths a phase of so many growers takes: as many of each, and together no more than it may have room for
abbrev pub slice_limit : ℕ → ℕ
slice_limit growers = growth_limit / growers * growers

-- the first of some growths, as many as a phase takes, and those behind them
abbrev pub slice_of : {R : Type 0} → ℕ → List (List R) → List (List R)
slice_of growers growths = take (slice_limit growers) growths

abbrev pub behind_slice : {R : Type 0} → ℕ → List (List R) → List (List R)
behind_slice growers growths = drop (slice_limit growers) growths
