-- The seat is taken, and its handle has no memory for it.
use Rattle.std.proofs.Common.{inr}
use Rattle.c_core.specs.declared.refusal.Refusal.TheVariants.{Memory}
use Rattle.handle_core.specs.Roles.{RefusesSeat}
use Rattle.handle_core.specs.Ends.{AtAny}
use Rattle.cvec_threads.proofs.HandleLemmas.{refused_some, seat_lost}
use Rattle.cvec_threads.proofs.phases.cvec_phase_seat.Goals as goal

pub returns-else-fill-clause-refused : goal.returns-else-fill-clause-refused
returns-else-fill-clause-refused c refused =
    let lost = seat_lost _ _ _ (rw c.deref_mut.ensures.value at c.in-Ok.ensures.seated) in (
      refused_some (λ refusal. AtAny (λ _ _ _. RefusesSeat refusal)) _ Memory _ _ _ _ c.code-in-Ok.ensures.number c.in-Some.ensures.end c.put.ensures lost,
      inr c.if-fill.ensures,
    )
