use Rattle.std.proofs.Common.{◌≡◌, ◌≤◌, ◌<◌, ℕ, get_or}
use Rattle.disk_core.specs.State.{State}
use Rattle.disk_core.specs.Choice.{pending_below, chosen_byte}
use Rattle.disk_core.proofs.image.chosen_image.Given as goal

abbrev pub invariant-loop-place : goal.invariant-loop-place
invariant-loop-place l =
    let s : State = record { seen = l.seen; synced = l.synced; pending = l.pending; greatest = l.greatest } in
    record {
      made : l.image.len ≡ l.place;
      counted : l.below ≡ pending_below s l.place;
      few : l.below ≤ l.place;
      each : (i : ℕ) → i < l.place → get_or l.image.items i 0 ≡ chosen_byte l.choice.pending s i;
    }
