use Rattle.std.proofs.Common.{arith, false, ◌==◌, eqb-true, ◌≡◌, ◌<◌, ap, refl, sym, subst, ◌∙◌, length}
use Rattle.drive_core.specs.Asked.{answer_of}
use Rattle.book_core.specs.Growing.{size_of}
use Rattle.drive_core.specs.declared.fault.StepFault.TheVariants as told
use Rattle.drive_core.specs.Step as step
use Rattle.book_core.specs.Lists.{IsSeatOf}
use Rattle.drive_core.proofs.Seats.{of_replaced, lent_at, length_set}
use Rattle.drive_core.proofs.Put.{put_answers}
use Rattle.drive_core.proofs.PutAsked.{asked_put}
use Rattle.drive_core.proofs.PutRefused.{put_errs, put_strays}
use Rattle.drive_core.proofs.PutRow.{find_met, met_inside, lent_new}
use Rattle.drive_core.proofs.Quiet.{same_hand}
use Rattle.drive_core.proofs.growing.Growing.publish.Goals as goal
use Rattle.drive_core.proofs.growing.Growing.publish.Goals.{in-Ok+else-receipt-self, in-Err}

pub grow-grown-requires-clause-of : goal.grow-grown-requires-clause-of
grow-grown-requires-clause-of g c κs within =
    let inside = subst (λ (v : _). c.args.seat < length v.seats) (sym c.self.view_is) c.requires.inside in
    let at = lent_at c.self.inside.seats.items c.args.seat c.index_mut.result.now inside c.index_mut.ensures.value in
    c.self.invariant.1 c.args.seat c.index_mut.result.now at

pub size-requires-clause-of : goal.size-requires-clause-of
size-requires-clause-of g c κs within =
    let s = c.self.inside in
    let inside = subst (λ (v : _). c.args.seat < length v.seats) (sym c.self.view_is) c.requires.inside in
    let at = lent_at s.seats.items c.args.seat c.index_mut.result.now inside c.index_mut.ensures.value in
    let seen = lent_new s.seats.items c.args.seat c.index_mut.result.now c.grow-grown.new.seat c.index-2.result.now inside at c.index-2.ensures in
    subst (IsSeatOf s.live) (sym seen) c.grow-grown.ensures.of

pub meet_in-requires-clause-inside : goal.meet_in-requires-clause-inside
meet_in-requires-clause-inside g c κs within =
    let inside = subst (λ (v : _). c.args.seat < length v.seats) (sym c.self.view_is) c.requires.inside in
    let last = c.self.invariant.2 in
    let long = length_set c.self.inside.seats.items c.args.seat c.grow-grown.new.seat in
    (omega (arith, inside, long), omega (arith, last, long))

pub meet_in-requires-clause-of : goal.meet_in-requires-clause-of
meet_in-requires-clause-of g c κs within =
    of_replaced c.self.inside.seats.items c.args.seat c.grow-grown.new.seat c.self.inside.live c.self.invariant.1 c.grow-grown.ensures.of

pub invariant_of-self : goal.invariant_of-self
invariant_of-self g c =
    let s = c.self.inside in
    let inside = subst (λ (v : _). c.args.seat < length v.seats) (sym c.self.view_is) c.requires.inside in
    let at = lent_at s.seats.items c.args.seat c.index_mut.result.now inside c.index_mut.ensures.value in
    let met = find_met c.grow-grown.new.seat at c.self.invariant.2 c.meet_in.ensures.meets in
    (c.self.invariant.0, c.meet_in.ensures.of, met_inside s.last met c.self.invariant.2)

pub invariant_of-self-in-Ok : goal.invariant_of-self-in-Ok
invariant_of-self-in-Ok g c =
    let s = c.self.inside in
    let inside = subst (λ (v : _). c.args.seat < length v.seats) (sym c.self.view_is) c.requires.inside in
    let at = lent_at s.seats.items c.args.seat c.index_mut.result.now inside c.index_mut.ensures.value in
    let met = find_met c.grow-grown.new.seat at c.self.invariant.2 c.meet_in.ensures.meets in
    (c.self.invariant.0, c.meet_in.ensures.of, met_inside c.args.seat met inside)

pub invariant_of-self-in-Err : goal.invariant_of-self-in-Err
invariant_of-self-in-Err g c =
    let s = c.self.inside in
    let inside = subst (λ (v : _). c.args.seat < length v.seats) (sym c.self.view_is) c.requires.inside in
    let at = lent_at s.seats.items c.args.seat c.index_mut.result.now inside c.index_mut.ensures.value in
    let met = find_met c.grow-grown.new.seat at c.self.invariant.2 c.meet_in.ensures.meets in
    (c.self.invariant.0, c.meet_in.ensures.of, met_inside s.last met c.self.invariant.2)

pub returns-then-receipt-self-clause-steps : goal.returns-then-receipt-self-clause-steps
returns-then-receipt-self-clause-steps g c = rw (← c.self.view_is) (λ w phase tie.
    let s = c.self.inside in
    let inside = subst (λ (v : _). c.args.seat < length v.seats) (sym c.self.view_is) c.requires.inside in
    let not_closed = subst (λ (v : _). v.closed ≡ false) (sym c.self.view_is) c.requires.not_closed in
    let at = lent_at s.seats.items c.args.seat c.index_mut.result.now inside c.index_mut.ensures.value in
    let met = find_met c.grow-grown.new.seat at c.self.invariant.2 c.meet_in.ensures.meets in
    put_strays tie (asked_put tie c.args.fresh c.requires.block not_closed met) _ s.puts refl refl)

pub returns-clause-steps : goal.returns-clause-steps
returns-clause-steps g c = rw (← c.self.view_is) (
    let s = c.self.inside in
    let seats = s.seats.items in
    let k = c.args.seat in
    let m0 = c.index_mut.result.now in
    let m1 = c.grow-grown.new.seat in
    let inside = subst (λ (v : _). k < length v.seats) (sym c.self.view_is) c.requires.inside in
    let not_closed = subst (λ (v : _). v.closed ≡ false) (sym c.self.view_is) c.requires.not_closed in
    let at = lent_at seats k m0 inside c.index_mut.ensures.value in
    let met = find_met m1 at c.self.invariant.2 c.meet_in.ensures.meets in
    let seen = lent_new seats k m0 m1 c.index.result.now inside at c.index.ensures in
    let seen' = lent_new seats k m0 m1 c.index-2.result.now inside at c.index-2.ensures in
    let known_is = c.known-known.ensures.count ∙ ap (λ (s : _). length s.pass.entries) seen in
    elim c.match-grown.branch [
      | in-Ok+else-receipt-self b ↦ λ w phase tie.
          let room = ap (λ (s : _). s.pass.of.room) seen ∙ ap (λ (d : _). d.room) c.grow-grown.ensures.of.directory in
          let in_room = c.known-known.ensures.in_room in
          let size = ap (size_of s.live) seen' in
          let sized = c.size.ensures.size in
          let in_limit = c.size.ensures.in_limit in
          let asked = asked_put tie c.args.fresh c.requires.block not_closed met in
          same_hand b.self-is (put_answers tie asked b.in-Ok.ensures.list b.if-receipt-self.false known_is (ap answer_of b.result-is)
          (omega (arith, in_room, room)) (omega (arith, size, sized, in_limit)))
      | in-Err b ↦ λ w phase tie.
          let asked = asked_put tie c.args.fresh c.requires.block not_closed met in
          same_hand b.self-is (put_errs tie asked b.in-Err.fault (c.known-known.result == s.puts)
          (ap answer_of b.result-is ∙ ap (λ f. step.Refused (told.Grow f)) b.put_fault.ensures) b.in-Err.ensures.list.1 b.in-Err.ensures.fault known_is (eqb-true c.known-known.result s.puts))
    ])
