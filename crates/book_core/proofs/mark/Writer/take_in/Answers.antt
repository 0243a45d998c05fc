use Rattle.std.proofs.Common.{ℕ, ap, sym, ◌∙◌, arith}
use Rattle.book_core.specs.Marks.{shown}
use Rattle.book_core.proofs.MarkMoves.{takes_in, checks}
use Rattle.book_core.proofs.mark.Writer.take_in.Goals as goal

pub join_seat-requires : goal.join_seat-requires
join_seat-requires c =
    let s = c.self.inside.seat in
    let t = c.theirs.inside.seat in
    let mine = ap (λ e. e.of.table) c.self.view_is ∙ ap (λ m. m.table) (c.requires.of.0 ∙ sym c.mark.view_is) in
    let theirs = ap (λ e. e.of.table) c.theirs.view_is ∙ ap (λ m. m.table) (c.requires.of.1 ∙ sym c.mark.view_is) in
    let one = c.mark.invariant in
    (mine, theirs, c.theirs.invariant, omega arith, takes_in {S = ℕ} s.id s.me.0 t.id t.me.0)

pub load-requires : goal.load-requires
load-requires c =
    let mine = ap (λ e. e.of.table) c.self.view_is ∙ ap (λ m. m.table) (c.requires.of.0 ∙ sym c.mark.view_is) in
    let one = c.mark.invariant in
    let j = c.join_seat.ensures in
    let is = ap (λ me. me.0) j.2 ∙ ap (λ v. shown v c.theirs.inside.seat.me.0) c.self.invariant.0 in (
      j.0 ∙ mine,
      omega arith,
      checks {S = ℕ} _ c.join_seat.new.seat.id c.join_seat.new.seat.me c.self.inside.told c.theirs.inside.seat.me.0.told
          c.self.inside.seat.me.0.raises c.theirs.inside.seat.me.0.raises is,
    )
