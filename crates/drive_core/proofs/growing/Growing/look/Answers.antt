use Rattle.std.proofs.Common.{arith, ◌<◌, ap, refl, sym, subst, ◌∙◌, length, slice_set}
use Rattle.drive_core.specs.Asked.{answer_of}
use Rattle.drive_core.specs.Line.{look_fault_of}
use Rattle.drive_core.specs.Step as step
use Rattle.drive_core.specs.declared.fault.StepFault.TheVariants as told
use Rattle.drive_core.proofs.Seats.{of_replaced, lent_at, length_set, there_is, get_set_same}
use Rattle.drive_core.proofs.PutRow.{lent_new}
use Rattle.drive_core.proofs.LookedSeat.{seat_answers, seat_strays, look_inside}
use Rattle.drive_core.proofs.growing.Growing.look.Goals as goal
use Rattle.drive_core.proofs.growing.Growing.look.Goals.{in-Ok, in-Err}

pub look-looked-requires-clause-of : goal.look-looked-requires-clause-of
look-looked-requires-clause-of g c κs within =
    let inside = subst (λ (v : _). c.args.seat < length v.seats) (sym c.self.view_is) c.requires.inside in
    let at = lent_at c.self.inside.seats.items c.args.seat c.index_mut.result.now inside c.index_mut.ensures.value in
    c.self.invariant.1 c.args.seat c.index_mut.result.now at

pub meet_in-requires-clause-inside : goal.meet_in-requires-clause-inside
meet_in-requires-clause-inside g c κs within =
    let inside = subst (λ (v : _). c.args.seat < length v.seats) (sym c.self.view_is) c.requires.inside in
    let last = c.self.invariant.2 in
    let long = length_set c.self.inside.seats.items c.args.seat c.look-looked.new.seat in
    (omega (arith, last, long), omega (arith, inside, long))

pub meet_in-requires-clause-of : goal.meet_in-requires-clause-of
meet_in-requires-clause-of g c κs within =
    of_replaced c.self.inside.seats.items c.args.seat c.look-looked.new.seat c.self.inside.live c.self.invariant.1 c.look-looked.ensures.of

pub invariant_of-self : goal.invariant_of-self
invariant_of-self g c =
    let s = c.self.inside in
    let inside = subst (λ (v : _). c.args.seat < length v.seats) (sym c.self.view_is) c.requires.inside in
    let at0 = lent_at s.seats.items c.args.seat c.index_mut.result.now inside c.index_mut.ensures.value in (
      c.self.invariant.0,
      c.meet_in.ensures.of,
      look_inside s.seats.items c.meet_in.new.seats.items c.args.seat s.last c.index_mut.result.now c.look-looked.new.seat inside at0 c.self.invariant.2 c.meet_in.ensures.meets,
    )

pub invariant_of-self-2 : goal.invariant_of-self-2
invariant_of-self-2 g c =
    let s = c.self.inside in
    let inside = subst (λ (v : _). c.args.seat < length v.seats) (sym c.self.view_is) c.requires.inside in
    let at0 = lent_at s.seats.items c.args.seat c.index_mut.result.now inside c.index_mut.ensures.value in (
      c.self.invariant.0,
      c.meet_in.ensures.of,
      look_inside s.seats.items c.meet_in.new.seats.items c.args.seat s.last c.index_mut.result.now c.look-looked.new.seat inside at0 c.self.invariant.2 c.meet_in.ensures.meets,
    )

pub returns-then-known-self-clause-steps : goal.returns-then-known-self-clause-steps
returns-then-known-self-clause-steps g c = rw (← c.self.view_is) (λ w phase tie.
    let inside = subst (λ (v : _). c.args.seat < length v.seats) (sym c.self.view_is) c.requires.inside in
    let at0 = lent_at c.self.inside.seats.items c.args.seat c.index_mut.result.now inside c.index_mut.ensures.value in
    seat_strays tie inside at0 c.meet_in.new.seats.items c.self.inside.puts refl)

pub returns-clause-steps : goal.returns-clause-steps
returns-clause-steps g c = rw (← c.self.view_is) (
    let s = c.self.inside in
    let seats = s.seats.items in
    let k = c.args.seat in
    let m0 = c.index_mut.result.now in
    let m1 = c.look-looked.new.seat in
    let inside = subst (λ (v : _). k < length v.seats) (sym c.self.view_is) c.requires.inside in
    let at0 = lent_at seats k m0 inside c.index_mut.ensures.value in
    let long = length_set seats k m1 in
    let last = c.self.invariant.2 in
    let t = there_is (slice_set seats k m1) s.last (omega (arith, long, last)) in
    let met = c.meet_in.ensures.meets t.0 m1 t.1 (get_set_same seats k m0 m1 at0) in
    let seen = lent_new seats k m0 m1 c.index.result.now inside at0 c.index.ensures in
    let known = c.known-known.ensures.count ∙ ap (λ (x : _). length x.pass.entries) seen in
    let few = c.if-known-self.false in
    elim c.match-looked.branch [
      | in-Ok b ↦ λ w phase tie.
          seat_answers tie inside at0 c.meet_in.new.seats.items m1 t.0 c.look-looked.ensures.learns (omega (arith, known, few)) t.1 met b.in-Ok.size (ap answer_of b.result-is) b.in-Ok.ensures.size.0
      | in-Err b ↦ λ w phase tie.
          seat_strays tie inside at0 c.meet_in.new.seats.items (look_fault_of b.in-Err.fault s.puts) (ap answer_of b.result-is ∙ ap (λ f. step.Refused (told.Grow f)) b.look_fault.ensures)
    ])
