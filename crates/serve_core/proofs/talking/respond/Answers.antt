use Rattle.serve_core.specs.Talks.{IsCutGrowth}
use Rattle.serve_core.proofs.Talks.{some_exchange, cut_of_head}
use Rattle.serve_core.proofs.talking.respond.Goals as goal

pub returns-in-Ok-clause-told : goal.returns-in-Ok-clause-told
returns-in-Ok-clause-told g c =
    some_exchange g.R.Record.form c.args.live.now c.args.seat.now c.act.new.seat c.args.head.now c.act.new.block.items c.of.result c.in-Ok.request
    (λ records. records.now) c.act.result c.of.ensures c.in-Ok.ensures c.act.ensures.told

pub returns-in-Ok-clause-cut : goal.returns-in-Ok-clause-cut
returns-in-Ok-clause-cut g c =
    cut_of_head c.args.head.now c.of.result c.in-Ok.request
    (λ count end. IsCutGrowth g.R.Record.form count (g.I.Read.remaining c.args.requests.now) (g.I.Read.remaining c.act.new.requests) end)
    c.act.result c.of.ensures c.in-Ok.ensures c.act.ensures.cut
