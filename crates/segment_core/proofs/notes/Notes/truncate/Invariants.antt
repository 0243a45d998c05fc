use Rattle.std.proofs.Common.{◌≡◌, ◌<◌, ℕ, length}
use Rattle.segment_core.specs.Notes.{noted}
use Rattle.segment_core.proofs.notes.Notes.truncate.Given as goal

abbrev pub invariant-loop-position : goal.invariant-loop-position
invariant-loop-position l = (q : ℕ) → q < l.size → noted l.self q ≡ noted l.fn.self q

abbrev pub decreases-loop-position : goal.decreases-loop-position
decreases-loop-position l = length l.self.places.entries
