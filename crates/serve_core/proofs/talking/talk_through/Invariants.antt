use Rattle.serve_core.proofs.Talks.{IsTalking}
use Rattle.serve_core.proofs.talking.talk_through.Given as goal

abbrev pub invariant-loop : goal.invariant-loop
invariant-loop g l =
    IsTalking g.R.Record.form l.fn.live l.fn.seat (g.I.Read.remaining l.fn.requests) (g.W.Write.contents l.fn.answers) l.next l.seat
    (g.I.Read.remaining l.requests) (g.W.Write.contents l.answers)
