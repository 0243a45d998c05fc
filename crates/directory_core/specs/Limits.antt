-- What bounds a directory.
use Rattle.std.specs.Prelude.{ℕ}

-- the growths of one directory at most: the places of 26 buckets
abbrev pub place_limit : ℕ
place_limit = 536870904

-- the growths of a phase at most, where it isn't begun as a wide one: the places of 17 buckets
abbrev pub growth_limit : ℕ
growth_limit = 1048568
