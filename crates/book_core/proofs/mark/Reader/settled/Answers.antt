use Rattle.std.proofs.Common.{ℕ, ap, sym, ◌∙◌, arith}
use Rattle.book_core.proofs.MarkMoves.{loads}
use Rattle.book_core.proofs.mark.Reader.settled.Goals as goal

pub load-requires : goal.load-requires
load-requires c =
    let s = c.self.inside.seat in
    let of = ap (λ e. e.of.table) c.self.view_is ∙ ap (λ m. m.table) (c.requires.of ∙ sym c.mark.view_is) in
    let one = c.mark.invariant in
    (of, omega arith, loads {S = ℕ} _ s.id s.me)
