-- What the parts of a disk in memory stand for.
use Rattle.std.specs.Prelude.{ℕ, List, [], ◌∷◌}
use Rattle.disk_core.specs.declared.extent.Extent.{Extent}
use Rattle.disk_core.specs.State.{State, settled, made_of}

-- where nothing is pending, all bytes are on the disk, and the other parts say nothing
abbrev pub contents_state : List ℕ → List ℕ → List Extent → ℕ → State
contents_state bytes synced [] greatest = settled bytes
contents_state bytes synced (e ∷ es) greatest = made_of bytes synced (e ∷ es) greatest
