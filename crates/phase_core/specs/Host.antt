-- A file whose calls a host makes.
use Rattle.std.specs.Prelude.{ℕ, List, []}
use Rattle.disk_core.specs.FileTruth.{FileTruth}

-- it held these bytes, and no write failed
unfoldable pub truth_over : List ℕ → FileTruth
truth_over bytes = record { held = bytes; left = [] }
