use Rattle.serve_core.proofs.Refusals.{as_before, not_read}
use Rattle.serve_core.proofs.Talks.{growth_of_records}
use Rattle.serve_core.proofs.growing.grow_block.Goals as goal

pub returns-in-Ok-clause-told : goal.returns-in-Ok-clause-told
returns-in-Ok-clause-told g c =
    growth_of_records g.R.Record.form c.args.live.now c.args.count c.args.block.now c.in-Ok.records.items c.requires.block c.in-Ok.ensures.0 c.in-Ok.ensures.1
    c.args.seat.now c.grow_records.new.seat c.grow_records.result c.grow_records.ensures.told

pub returns-in-Err-clause-told : goal.returns-in-Err-clause-told
returns-in-Err-clause-told g c =
    (as_before c.args.seat.now, not_read g.R.Record.form c.args.live.now c.args.count c.args.block.now c.args.seat.now c.in-Err.refusal c.requires.block c.in-Err.ensures)
