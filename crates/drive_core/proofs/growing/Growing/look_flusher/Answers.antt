use Rattle.std.proofs.Common.{arith, ap, refl, sym, subst, ◌∙◌, length, slice_set}
use Rattle.flush_core.specs.Flusher.{FlusherLearns}
use Rattle.drive_core.specs.Asked.{answer_of}
use Rattle.drive_core.specs.Line.{of_flush}
use Rattle.drive_core.specs.Step as step
use Rattle.drive_core.proofs.Seats.{of_replaced, lent_at, length_set}
use Rattle.drive_core.proofs.Quiet.{same_hand}
use Rattle.drive_core.proofs.Looked.{look_answers, look_strays, IsFlusherOf-learns}
use Rattle.drive_core.proofs.growing.Growing.look_flusher.Goals as goal
use Rattle.drive_core.proofs.growing.Growing.look_flusher.Goals.{in-Ok, in-Err}

pub tell-requires-clause-of : goal.tell-requires-clause-of
tell-requires-clause-of g c κs within =
    let s = c.self.inside in
    let at = lent_at s.seats.items s.last c.index_mut.result.now c.self.invariant.2 c.index_mut.ensures.value in (
      IsFlusherOf-learns g.D.Disk.keeps s.live s.flusher c.look-looked.new.self c.look-looked.ensures.learns c.self.invariant.0,
      c.self.invariant.1 s.last c.index_mut.result.now at,
    )

pub invariant_of-self : goal.invariant_of-self
invariant_of-self g c =
    let s = c.self.inside in
    let last = c.self.invariant.2 in
    let long = length_set s.seats.items s.last c.tell.new.seat in
    let learns = subst (λ (f : _). FlusherLearns s.flusher f) (sym c.tell.ensures.same) c.look-looked.ensures.learns in (
      IsFlusherOf-learns g.D.Disk.keeps s.live s.flusher c.tell.new.self learns c.self.invariant.0,
      of_replaced s.seats.items s.last c.tell.new.seat s.live c.self.invariant.1 c.tell.ensures.of,
      omega (arith, last, long),
    )

pub invariant_of-self-2 : goal.invariant_of-self-2
invariant_of-self-2 g c =
    let s = c.self.inside in
    let last = c.self.invariant.2 in
    let long = length_set s.seats.items s.last c.tell.new.seat in
    let learns = subst (λ (f : _). FlusherLearns s.flusher f) (sym c.tell.ensures.same) c.look-looked.ensures.learns in (
      IsFlusherOf-learns g.D.Disk.keeps s.live s.flusher c.tell.new.self learns c.self.invariant.0,
      of_replaced s.seats.items s.last c.tell.new.seat s.live c.self.invariant.1 c.tell.ensures.of,
      omega (arith, last, long),
    )

pub returns-then-known-self-clause-steps : goal.returns-then-known-self-clause-steps
returns-then-known-self-clause-steps g c = rw (← c.self.view_is) (λ w phase tie.
    let s = c.self.inside in
    let row = slice_set s.seats.items s.last c.tell.new.seat in
    same_hand (ap (λ f. record { live = s.live; seats = row; flusher = f; puts = s.puts; last = s.last; mark = s.mark; closed = s.closed }) c.tell.ensures.same)
    (look_strays tie c.look-looked.new.self row s.puts refl c.look-looked.ensures.learns.pen_same))

pub returns-clause-steps : goal.returns-clause-steps
returns-clause-steps g c = rw (← c.self.view_is) (
    let s = c.self.inside in
    let new = c.look-looked.new.self in
    let row = slice_set s.seats.items s.last c.tell.new.seat in
    let at = lent_at s.seats.items s.last c.index_mut.result.now c.self.invariant.2 c.index_mut.ensures.value in
    let learns = c.look-looked.ensures.learns in
    elim c.match-looked.branch [
      | in-Ok b ↦ λ w phase tie.
          let known = c.known-known.ensures in
          let few = c.if-known-self.false in
          let size = b.in-Ok.ensures.size in
          let before = learns.before_same in
          let opening = c.self.invariant.0.before in
          same_hand (ap (λ f. record { live = s.live; seats = row; flusher = f; puts = s.puts; last = s.last; mark = s.mark; closed = s.closed }) c.tell.ensures.same)
          (look_answers tie new row at refl learns (omega (arith, known, few)) c.tell.ensures.learns c.tell.ensures.agree c.tell.ensures.meets
          b.in-Ok.size (ap answer_of b.result-is) (omega (arith, size, before, opening)))
      | in-Err b ↦ λ w phase tie.
          same_hand (ap (λ f. record { live = s.live; seats = row; flusher = f; puts = s.puts; last = s.last; mark = s.mark; closed = s.closed }) c.tell.ensures.same)
          (look_strays tie new row (length new.pass.entries)
          (ap answer_of b.result-is ∙ ap step.Refused b.told_fault.ensures ∙ ap (λ f. step.Refused (of_flush f)) b.in-Err.ensures.size) learns.pen_same)
    ])
