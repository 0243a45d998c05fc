use Rattle.std.proofs.Common.{length, max, arith, sym, subst}
use Rattle.serve_core.specs.Talks.{IsNextOf}
use Rattle.serve_core.proofs.Talks.{next_same, next_grown}
use Rattle.serve_core.proofs.growing.grow_fresh.Goals as goal

pub returns-clause-numbers : goal.returns-clause-numbers
returns-clause-numbers g c =
    let now = c.grow.new.seat in
    let grown = next_grown c.args.live.now c.args.seat.now now c.args.fresh c.in-Ok.receipt c.args.next.now c.in-Ok.ensures.list c.requires.numbers in
    let known = c.known.ensures.count in
    let most = c.max.ensures in
    next_same (max (length now.pass.entries) c.args.next.now) c.max.result now.made grown (omega (arith, known, most))

pub returns-in-Err-clause-numbers : goal.returns-in-Err-clause-numbers
returns-in-Err-clause-numbers g c = subst (IsNextOf c.args.next.now) (sym c.in-Err.ensures.list.1.made) c.requires.numbers
