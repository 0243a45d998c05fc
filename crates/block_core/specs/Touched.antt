-- What a touch does to a run of records.
use Rattle.std.specs.Prelude.{◌≡◌, ℕ, ◌+◌, ◌<◌, List, length, slice_index_or}

-- each record is what `one` makes of it at its place, where the first stands at `at`
pub record TouchedFrom {R : Type 0} (one : ℕ → R → R) (at : ℕ) (old new : List R) : Type 0 where
  pub same_length : length new ≡ length old
  pub each : (k : ℕ) (d : R) → k < length old → slice_index_or new k d ≡ one (at + k) (slice_index_or old k d)
