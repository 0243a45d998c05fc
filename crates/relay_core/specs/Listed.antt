-- What listed calls make of a file, state by state.
use Rattle.std.specs.Prelude.{◌≡◌, ℕ, ◌<◌, ◌≤◌, ◌-◌, ◌==◌, ◌&&◌, Bool, false, List, [], ◌∷◌, ◌++◌, take, if◌then◌else◌}
use Rattle.std.specs.Str.{bytes_eq}
use Rattle.std.specs.Cmp.Lexicographic.{pointwise}
use Rattle.disk_core.specs.declared.extent.Extent.{Extent}
use Rattle.disk_core.specs.State.{State, now, written, settled}
use Rattle.disk_core.specs.Moments.{clock, states_at}
use Rattle.relay_core.specs.declared.call.Call.{Call}
use Rattle.relay_core.specs.declared.call.Call.TheVariants.{Write, Sync}

-- what a call that succeeds makes of a file
abbrev pub after_call : State → Call → State
after_call s (Write at bytes) = written s at bytes.items
after_call s Sync = settled s.seen

-- what calls make of it, one after the other
abbrev pub after_calls : State → List Call → State
after_calls s [] = s
after_calls s (call ∷ calls) = after_calls (after_call s call) calls

-- the file at first, and after each of the calls, newest first
abbrev pub states_after : State → List Call → List State
states_after s [] = s ∷ []
states_after s (call ∷ calls) = states_after (after_call s call) calls ++ s ∷ []

-- a disk at that moment, and at each one since, newest first
abbrev pub states_since : ℕ → List State → List State
states_since from states = take (clock states - from) states ++ now (states_at from states) ∷ []

-- ---- states that repeat

abbrev pub same_extent : Extent → Extent → Bool
same_extent e f = (e.at == f.at) && (e.len == f.len)

abbrev pub same_state : State → State → Bool
same_state s t = bytes_eq s.seen t.seen && (bytes_eq s.synced t.synced && (pointwise same_extent s.pending t.pending && (s.greatest == t.greatest)))

-- one more in front of these, where it isn't the first of them again
abbrev pub in_front : State → List State → List State
in_front s [] = s ∷ []
in_front s (t ∷ earlier) = if same_state s t then t ∷ earlier else s ∷ t ∷ earlier

-- the states without those that repeat the one before
abbrev pub changes : List State → List State
changes [] = []
changes (s ∷ earlier) = in_front s (changes earlier)

-- ---- lists of calls

-- The calls lead the disk, state by state, from that moment to now: since then it was what each call made of it, in their order,
-- and nothing else. A state may have lasted for several moments, as while the disk was read.
pub record LeadThrough (states : List State) (from : ℕ) (calls : List Call) : Type 0 where
  pub begun : (0 < from) × (from ≤ clock states)
  pub each : changes (states_since from states) ≡ changes (states_after (now (states_at from states)) calls)

-- Where no call was lost, and the disk below has kept the model, its calls since that moment are those of the list.
pub record IsListed (lost : Bool) (keeps : Type 0) (states : List State) (from moment : ℕ) (calls : List Call) : Type 0 where
  pub counted : lost ≡ false → moment ≡ clock states
  pub begun : lost ≡ false → (0 < from) × (from ≤ clock states)
  pub lead : lost ≡ false → keeps → LeadThrough states from calls
