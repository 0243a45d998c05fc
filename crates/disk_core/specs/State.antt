-- What a disk is between two syncs, and what its calls make of it.
use Rattle.std.specs.Prelude.{ℕ, ◌+◌, ◌≤◌, ◌<◌, ◌≡◌, max, List, [], ◌∷◌, ◌++◌, length, take, drop, Bool, false, ◌&&◌, nat_le, nat_lt, slice_index}
use Rattle.std.specs.List.{list_any}
use Rattle.disk_core.specs.declared.extent.Extent.{Extent}

-- A read gives `seen`. At the last sync that succeeded the bytes were `synced`; since then the extents in
-- `pending` were written, in this order, and the length was at most `greatest`.
pub record State : Type 0 where
  pub seen : List ℕ
  pub synced : List ℕ
  pub pending : List Extent
  pub greatest : ℕ

abbrev pub made_of : List ℕ → List ℕ → List Extent → ℕ → State
made_of seen synced pending greatest = record { seen = seen; synced = synced; pending = pending; greatest = greatest }

abbrev pub has_place : Extent → ℕ → Bool
has_place e i = nat_le e.at i && nat_lt i (e.at + e.len)

-- whether one of the extents has this place
abbrev pub is_within : List Extent → ℕ → Bool
is_within extents i = list_any (λ e. has_place e i) extents

-- the bytes with others laid over them from a place on
abbrev pub overlay : List ℕ → ℕ → List ℕ → List ℕ
overlay old at bytes = take at old ++ bytes ++ drop (at + length bytes) old

-- all of these bytes are on the disk
abbrev pub settled : List ℕ → State
settled bytes = record { seen = bytes; synced = bytes; pending = []; greatest = length bytes }

-- after a write of these many bytes, where a read gives `seen` from then on
abbrev pub touched : State → ℕ → ℕ → List ℕ → State
touched s at len seen = record {
  seen = seen;
  synced = s.synced;
  pending = s.pending ++ record { at = at; len = len } ∷ [];
  greatest = max s.greatest (at + len);
}

-- after a write that succeeded
abbrev pub written : State → ℕ → List ℕ → State
written s at bytes = touched s at (length bytes) (overlay s.seen at bytes)

-- what a read may give after a write that failed: anything in its extent, and a length up to its end
pub record IsTorn (at len : ℕ) (old new : List ℕ) : Type 0 where
  pub no_shorter : length old ≤ length new
  pub no_longer : length new ≤ max (length old) (at + len)
  pub each : (i : ℕ) → i < length old → has_place (record { at = at; len = len }) i ≡ false → slice_index new i ≡ slice_index old i

-- A crash may leave these bytes: each synced byte that was not written since stays, all others are anything.
pub record IsImage (s : State) (image : List ℕ) : Type 0 where
  pub no_shorter : length s.synced ≤ length image
  pub no_longer : length image ≤ s.greatest
  pub each : (i : ℕ) → i < length s.synced → is_within s.pending i ≡ false → slice_index image i ≡ slice_index s.synced i

-- the newest of the states, which stand newest first
abbrev pub now : List State → State
now [] = settled []
now (s ∷ earlier) = s

-- What a write of these many bytes that failed may do: no more than to make its extent pending, where any bytes
-- may stand from then on, and no less than to leave pending what was.
pub record IsTornWrite (at len : ℕ) (before after : State) : Type 0 where
  pub seen : IsTorn at len before.seen after.seen
  pub synced : after.synced ≡ before.synced
  pub pending : (i : ℕ) → is_within before.pending i ≡ false → has_place (record { at = at; len = len }) i ≡ false → is_within after.pending i ≡ false
  pub still_pending : (i : ℕ) → is_within after.pending i ≡ false → is_within before.pending i ≡ false
  pub greatest : after.greatest ≤ max before.greatest (at + len)
  pub no_less : before.greatest ≤ after.greatest
