-- The image that a choice names.
use Rattle.std.specs.Prelude.{ℕ, ◌<◌, ◌≡◌, suc, zero, min, max, List, length, Bool, ◌||◌, nat_le, nat_lt, if◌then◌else◌, slice_index}
use Rattle.disk_core.specs.declared.choice.Choice.{Choice}
use Rattle.disk_core.specs.declared.choice.ImageLength.{ImageLength}
use Rattle.disk_core.specs.declared.choice.ImageLength.TheVariants.{Old, Greatest, At}
use Rattle.disk_core.specs.declared.choice.PendingBytes.{PendingBytes}
use Rattle.disk_core.specs.declared.choice.PendingBytes.TheVariants.{Old as OldBytes, New, Fill, Front}
use Rattle.disk_core.specs.State.{State, is_within}

abbrev pub length_between : ImageLength → ℕ → ℕ → ℕ
length_between Old old greatest = old
length_between Greatest old greatest = greatest
length_between (At length) old greatest = min (max length old) greatest

-- a crash may leave any byte here
abbrev pub is_pending : State → ℕ → Bool
is_pending s i = nat_le (length s.synced) i || is_within s.pending i

-- how many places below this one are pending
abbrev pub pending_below : State → ℕ → ℕ
pending_below s zero = 0
pending_below s (suc i) = if is_pending s i then suc (pending_below s i) else pending_below s i

-- how many places a crash may leave as anything, up to the greatest length
abbrev pub pending_count : State → ℕ
pending_count s = pending_below s s.greatest

abbrev pub pending_byte : PendingBytes → ℕ → ℕ → ℕ → ℕ
pending_byte OldBytes old new below = old
pending_byte New old new below = new
pending_byte (Fill byte) old new below = byte
pending_byte (Front count byte) old new below = if nat_lt below count then new else byte

-- `slice_index` is 0 past the end
abbrev pub chosen_byte : PendingBytes → State → ℕ → ℕ
chosen_byte bytes s i = if is_pending s i then pending_byte bytes (slice_index s.synced i) (slice_index s.seen i) (pending_below s i) else slice_index s.synced i

pub record IsChosen (choice : Choice) (s : State) (image : List ℕ) : Type 0 where
  pub long : length image ≡ length_between choice.length (length s.synced) s.greatest
  pub each : (i : ℕ) → i < length image → slice_index image i ≡ chosen_byte choice.pending s i
