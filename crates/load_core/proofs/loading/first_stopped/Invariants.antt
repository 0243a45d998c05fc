use Rattle.std.proofs.Common.{◌≡◌, ℕ, ◌<◌, ◌≤◌, Some, slice_get, length}
use Rattle.std.specs.Global.{Vec}
use Rattle.book_core.specs.declared.seat.Receipt.{Receipt}
use Rattle.load_core.proofs.loading.first_stopped.Given as goal

abbrev pub invariant-loop-grower : goal.invariant-loop-grower
invariant-loop-grower g l = (k : ℕ) → k < l.grower → (its : Vec Receipt) → slice_get l.crewed.receipts.items k ≡ Some its → g.S.Source.count_of l.source k ≤ length its.items
