use Rattle.std.proofs.Common.{length, ap, subst, ◌∙◌}
use Rattle.serve_core.specs.Answers.{refusal_of_growth}
use Rattle.serve_core.specs.Talks.{IsOfRecords}
use Rattle.serve_core.proofs.Refusals.{as_before, no_block}
use Rattle.serve_core.proofs.growing.grow_records.Goals as goal

pub returns-in-Ok-clause-told : goal.returns-in-Ok-clause-told
returns-in-Ok-clause-told g c = subst (λ records. IsOfRecords c.args.live.now records c.args.seat.now c.grow_fresh.new.seat c.grow_fresh.result) c.in-Ok.ensures.0 c.grow_fresh.ensures.told

pub returns-clause-told : goal.returns-clause-told
returns-clause-told g c = (
  as_before c.args.seat.now,
  no_block c.args.live.now g.R.Record.form.width (length c.args.records.items) c.args.seat.now c.in-Err.fault c.of_growth.result c.requires.len c.in-Err.ensures.1
      (c.of_growth.ensures ∙ ap refusal_of_growth c.into.ensures),
)
