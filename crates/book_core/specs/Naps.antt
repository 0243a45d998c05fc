-- For how long a grower sleeps where others come first.
use Rattle.std.specs.Prelude.{◌≡◌, ℕ, ◌*◌, ◌<◌, ◌≤◌, min}

-- the longest nap, in microseconds
abbrev pub longest_nap : ℕ
longest_nap = 160

-- behind one nap, or none, comes a longer one: twice as long, up to the longest
pub record IsNextNap (nap next : ℕ) : Type 0 where
  pub some : 0 < next
  pub bounded : next ≤ longest_nap
  pub doubled : 0 < nap → next ≡ min (2 * nap) longest_nap
