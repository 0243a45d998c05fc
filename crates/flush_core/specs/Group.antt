-- Which growths one group takes.
use Rattle.std.specs.Prelude.{ℕ, ◌+◌, ◌≤◌, ◌<◌, List, length, take}
use Rattle.segment_core.specs.Written.{payload_len}

-- n is the greatest number of these growths, from the first on, that one payload of so many bytes holds
pub record IsGreatest {R : Type 0} (width limit : ℕ) (growths : List (List R)) (n : ℕ) : Type 0 where
  pub there : n ≤ length growths
  pub fits : payload_len width (take n growths) ≤ limit
  pub most : n < length growths → limit < payload_len width (take (n + 1) growths)
