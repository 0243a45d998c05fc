use Rattle.std.proofs.Common.{◌≡◌, ◌<◌, length, slice_get, Some, Option, Bor, ℕ}
use Rattle.book_core.specs.Snapshots.{IsFoundAt, list_in}
use Rattle.book_core.proofs.snapshot.Snapshot.get_many.Given as goal

abbrev pub invariant-loop-at : goal.invariant-loop-at
invariant-loop-at g l =
    (length l.out ≡ length l.fn.out)
    × ((k i : ℕ) (it : Option (Bor _)) → k < l.at → slice_get l.positions k ≡ Some i → slice_get l.out k ≡ Some it → IsFoundAt (list_in l.self) i it)
