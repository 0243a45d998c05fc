-- What C is answered, as the crates below have it.
use Rattle.std.specs.Prelude.{ℕ, zero, suc}
use Rattle.book_core.specs.declared.seat.Receipt.{Receipt}
use Rattle.book_core.specs.declared.mark.MarkState.{MarkState}
use Rattle.book_core.specs.declared.mark.MarkState.TheVariants.{Running, Ended, Broken}
use Rattle.cvec_threads.specs.declared.growing.CvecReceipt.{CvecReceipt}

abbrev pub receipt_of : CvecReceipt → Receipt
receipt_of receipt = record { number = receipt.number; start = receipt.start; len = receipt.len; seat = receipt.seat; serial = receipt.serial }

abbrev pub state_of : ℕ → MarkState
state_of zero = Running
state_of (suc zero) = Ended
state_of (suc (suc n)) = Broken
