use Rattle.std.proofs.Common.{◌∙◌, arith}
use Rattle.book_core.proofs.Owns.{own_of-skip}
use Rattle.book_core.proofs.live.Live.first_of.Goals as goal

pub loop-number-preserved : goal.loop-number-preserved
loop-number-preserved g c =
    let i = c.loop-number.invariant in (
      c.entry.ensures.same ∙ i.0,
      own_of-skip c.args.id c.loop-number.number c.args.pass.now.entries c.in-Some.entry.now (rw (← i.0) c.in-Some.ensures.value)
          (λ is. let no = c.if-seat-id.false in let same = c.seat.ensures in omega arith) ∙ i.1,
    )
