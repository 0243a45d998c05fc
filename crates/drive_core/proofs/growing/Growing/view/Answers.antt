use Rattle.std.proofs.Common.{arith, ap, sym, subst, ◌<◌, length}
use Rattle.book_core.specs.Lists.{IsSeatOf}
use Rattle.drive_core.specs.Asked.{answer_of}
use Rattle.drive_core.proofs.Seats.{of_replaced, lent_at, length_set}
use Rattle.drive_core.proofs.Viewed.{view_answers, view_refuses}
use Rattle.drive_core.proofs.growing.Growing.view.Goals as goal
use Rattle.drive_core.proofs.growing.Growing.view.Goals.{in-Ok, in-Err}

pub copy_view-requires-clause-of : goal.copy_view-requires-clause-of
copy_view-requires-clause-of g c κs within =
    let inside = subst (λ (v : _). c.args.seat < length v.seats) (sym c.self.view_is) c.requires.inside in
    let at = lent_at c.self.inside.seats.items c.args.seat c.index_mut.result.now inside c.index_mut.ensures.value in
    c.self.invariant.1 c.args.seat c.index_mut.result.now at

pub invariant_of-self : goal.invariant_of-self
invariant_of-self g c =
    let s = c.self.inside in
    let inside = subst (λ (v : _). c.args.seat < length v.seats) (sym c.self.view_is) c.requires.inside in
    let at = lent_at s.seats.items c.args.seat c.index_mut.result.now inside c.index_mut.ensures.value in
    let of = subst (IsSeatOf s.live) (sym c.copy_view.ensures.same) (c.self.invariant.1 c.args.seat c.index_mut.result.now at) in
    let last = c.self.invariant.2 in
    let long = length_set s.seats.items c.args.seat c.copy_view.new.seat in
    (c.self.invariant.0, of_replaced s.seats.items c.args.seat c.copy_view.new.seat s.live c.self.invariant.1 of, omega (arith, last, long))

pub returns-clause-steps : goal.returns-clause-steps
returns-clause-steps g c = rw (← c.self.view_is) (
    let inside = subst (λ (v : _). c.args.seat < length v.seats) (sym c.self.view_is) c.requires.inside in
    let at = lent_at c.self.inside.seats.items c.args.seat c.index_mut.result.now inside c.index_mut.ensures.value in
    let same = c.copy_view.ensures.same in
    elim c.match-copy_view.branch [
      | in-Ok b ↦ λ w phase tie. view_answers tie c.args.seat at same b.in-Ok.records.items (ap answer_of b.result-is) b.in-Ok.ensures.list
      | in-Err b ↦ λ w phase tie. view_refuses tie c.args.seat at same (ap answer_of b.result-is)
    ])
