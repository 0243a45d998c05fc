-- What a call makes of a disk's states, which stand newest first. Each call adds one.
use Rattle.std.specs.Prelude.{ℕ, ◌≡◌, List, ◌∷◌}
use Rattle.disk_core.specs.State.{State, now, settled, touched, written, IsTornWrite}

-- what a read gives
abbrev pub bytes_of : List State → List ℕ
bytes_of states = (now states).seen

-- One state more in front of the old ones. So it is whether the disk keeps the model or not.
abbrev pub AddsMoment : List State → List State → Type 0
AddsMoment old new = new ≡ now new ∷ old

abbrev pub Stays : List State → List State → Type 0
Stays old new = new ≡ now old ∷ old

abbrev pub Writes : ℕ → List ℕ → List State → List State → Type 0
Writes at bytes old new = new ≡ written (now old) at bytes ∷ old

-- a write of these many bytes that failed
abbrev pub TearsWrite : ℕ → ℕ → List State → List State → Type 0
TearsWrite at len old new = (s : State) × (new ≡ s ∷ old) × IsTornWrite at len (now old) s

-- the whole extent is pending after it, whatever a read gives
abbrev pub LeavesPending : ℕ → ℕ → List State → List State → Type 0
LeavesPending at len old new = (left : List ℕ) × (new ≡ touched (now old) at len left ∷ old)

abbrev pub Settles : List State → List State → Type 0
Settles old new = new ≡ settled (bytes_of old) ∷ old
