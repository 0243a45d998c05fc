-- The records that positions get.
use Rattle.std.specs.Prelude.{ℕ, ◌-◌, List, nat_lt, slice_get, if◌then◌else◌}
use Rattle.std.specs.Option.{unwrap_or}

-- The record at a position becomes that of those given from start on which stands there, if one does.
abbrev pub given_from : {R : Type 0} → ℕ → List R → ℕ → R → R
given_from start records at r = if nat_lt at start then r else unwrap_or (slice_get records (at - start)) r
