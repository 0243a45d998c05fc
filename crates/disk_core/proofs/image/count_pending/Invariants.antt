use Rattle.std.proofs.Common.{◌≡◌, ◌≤◌, ℕ, List}
use Rattle.disk_core.specs.State.{made_of}
use Rattle.disk_core.specs.Choice.{pending_below}
use Rattle.disk_core.proofs.image.count_pending.Given as goal

abbrev pub invariant-loop-place : goal.invariant-loop-place
invariant-loop-place l = record {
  few : l.count ≤ l.place;
  counted : (seen : List ℕ) → l.count ≡ pending_below (made_of seen l.synced l.pending l.greatest) l.place;
}
