use Rattle.std.proofs.Common.{ℕ, ap, sym, ◌∙◌, arith}
use Rattle.book_core.proofs.MarkMoves.{splits}
use Rattle.book_core.proofs.mark.Writer.split.Goals as goal

pub split_seat-requires : goal.split_seat-requires
split_seat-requires c =
    let s = c.self.inside.seat in
    let of = ap (λ e. e.of.table) c.self.view_is ∙ ap (λ m. m.table) (c.requires.of ∙ sym c.mark.view_is) in
    let one = c.mark.invariant in
    (of, omega arith, splits {S = ℕ} s.id s.me.0)
