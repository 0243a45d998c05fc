use Rattle.std.proofs.Common.{◌≡◌, ◌<◌, ℕ, false, get_or}
use Rattle.disk_core.specs.State.{is_within}
use Rattle.disk_core.proofs.image.is_crash_image.Given as goal

abbrev pub invariant-loop-place : goal.invariant-loop-place
invariant-loop-place l = (i : ℕ) → i < l.place → is_within l.pending i ≡ false → get_or l.image i 0 ≡ get_or l.synced i 0
