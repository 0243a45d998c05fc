-- A host that makes listed calls of its file.
use Rattle.std.specs.Prelude.{◌≡◌, ◌⊎◌, ℕ, List, [], ◌∷◌, length}
use Rattle.disk_core.specs.State.{State, now}
use Rattle.disk_core.specs.Calls.{Stays, Writes, TearsWrite, Settles}
use Rattle.disk_core.specs.Moments.{states_at, LeftSince, LeavesOnly}
use Rattle.relay_core.specs.declared.call.Call.{Call}
use Rattle.relay_core.specs.declared.call.Call.TheVariants.{Write, Sync}

-- what a call makes of a file where it succeeds
abbrev pub Makes : Call → List State → List State → Type 0
Makes (Write at bytes) old new = Writes at bytes.items old new
Makes Sync old new = Settles old new

-- and where it fails, half done
abbrev pub Fails : Call → List State → List State → Type 0
Fails (Write at bytes) old new = TearsWrite at (length bytes.items) old new
Fails Sync old new = Stays old new

-- The host has made some of the calls of its file so far, in order, each behind the one before. The last of these may have
-- failed, and then it makes no more.
abbrev pub HasMade : List Call → List State → List State → Type 0
HasMade [] old new = new ≡ old
HasMade (call ∷ calls) old new = (new ≡ old) ⊎ (Fails call old new ⊎ ((made : List State) × Makes call old made × HasMade calls made new))

-- it has made all of them, and none has failed
abbrev pub HasMadeAll : List Call → List State → List State → Type 0
HasMadeAll [] old new = new ≡ old
HasMadeAll (call ∷ calls) old new = (made : List State) × Makes call old made × HasMadeAll calls made new

-- The host's file stands as the disk stood at that moment, and the host makes the calls of it. Whatever a crash leaves of the
-- file, at any moment meanwhile, a crash might have left of the disk since; and once all are made, the file stands as the disk.
pub record IsFollowed (states : List State) (from : ℕ) (calls : List Call) : Type 0 where
  pub crash : (old new : List State) → now old ≡ now (states_at from states) → HasMade calls old new → LeavesOnly old new (LeftSince states from)
  pub stands : (old new : List State) → now old ≡ now (states_at from states) → HasMadeAll calls old new → now new ≡ now states
