use Rattle.std.proofs.Common.{ap, sym, ◌∙◌, refl, arith}
use Rattle.segment_core.specs.Growths.{start_at}
use Rattle.segment_core.proofs.GrowthRows.{begins_before, ends_within, start_behind}
use Rattle.segment_core.proofs.growth_row.range_at.Goals as goal
use Rattle.segment_core.proofs.growth_row.range_at.Goals.{then-k-eq0, else-k-eq0}

pub returns-clause-place : goal.returns-clause-place
returns-clause-place c = elim c.if-k-eq0.branch [
  | then-k-eq0 w ↦ (w.start-is ∙ ap (start_at 0 c.args.ends.now) (sym w.if-k-eq0.true), refl)
  | else-k-eq0 w ↦ (w.start-is ∙ start_behind 0 c.args.ends.now c.args.k w.if-k-eq0.false, refl)
]

pub returns-clause-order : goal.returns-clause-order
returns-clause-order c =
    let first = begins_before 0 c.args.ends.now c.args.len c.args.k c.requires.ends c.requires.inside in
    elim c.if-k-eq0.branch [
      | then-k-eq0 w ↦ (let is = w.start-is in omega arith)
      | else-k-eq0 w ↦ (let is = w.start-is ∙ start_behind 0 c.args.ends.now c.args.k w.if-k-eq0.false in omega arith)
    ]

pub returns-clause-end : goal.returns-clause-end
returns-clause-end c = ends_within 0 c.args.ends.now c.args.len c.args.k c.requires.ends c.requires.inside
