-- The calls that a host hasn't made.
use Rattle.std.specs.Prelude.{◌≡◌, ◌≢◌, ◌⊎◌, ℕ, ◌==◌, List, [], true, if◌then◌else◌}
use Rattle.disk_core.specs.declared.disk.Disk.{Ghosts}
use Rattle.relay_core.specs.declared.call.Call.{Call}
use Rattle.relay_core.specs.declared.relay_disk.RelayDisk.{RelayDisk}

-- those of the list, if it began at that moment, up to which the host has made its calls
abbrev pub calls_from : {D : Type 0} {disk : Ghosts D} → ℕ → RelayDisk D disk → List Call
calls_from made relay = if relay.from == made then relay.calls.items else []

-- Why it isn't known which these are: a call isn't in the list, since it failed, or there was no memory for it; or the list began at
-- another moment, and calls were made since that up to which the host has made its calls.
abbrev pub IsListLost : {D : Type 0} {disk : Ghosts D} → ℕ → RelayDisk D disk → Type 0
IsListLost made relay = (relay.lost ≡ true) ⊎ ((relay.from ≢ made) × (relay.moment ≢ made))
