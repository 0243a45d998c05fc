use Rattle.std.proofs.Common.{ℕ, []}
use Rattle.book_core.proofs.MarkMoves.{opens}
use Rattle.book_core.proofs.mark.Mark.make.Goals as goal

pub of_words-requires : goal.of_words-requires
of_words-requires c = opens {S = ℕ} []
