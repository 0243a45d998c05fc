use Rattle.std.proofs.Common.{ℕ, ap, sym, subst, ◌∙◌, arith}
use Rattle.book_core.specs.Marks.{HasAllRaises, Rises}
use Rattle.book_core.proofs.MarkMoves.{stores}
use Rattle.book_core.proofs.mark.Writer.store.Goals as goal

pub store-requires : goal.store-requires
store-requires g c =
    let s = c.self.inside.seat in
    let of = ap (λ e. e.of.table) c.self.view_is ∙ ap (λ m. m.table) (c.requires.of ∙ sym c.mark.view_is) in
    let one = c.mark.invariant in
    let up = subst (λ e. Rises e.told c.args.told) (sym c.self.view_is) c.requires.rises in
    let all = subst (λ e. HasAllRaises g.H.History.raises e.raises) (sym c.self.view_is) c.requires.seen in (
      of,
      omega arith,
      stores {S = ℕ} _ s.id s.me c.self.inside.told c.args.told s.me.0.raises g.H.History.raises c.word.result
          c.self.invariant.0 c.self.invariant.2 up c.requires.raised all c.word.ensures,
    )
