use Rattle.std.proofs.lemmas.Grind.{common_steps}
use Rattle.std.proofs.Common.{rules, ◌≤◌, ◌<◌, ◌+◌, ◌-◌, leb, leb-true, leb-false, get_or, arith}
use Rattle.std.proofs.lemmas.List.Sorted.{IsPartitionPoint-from_clause, IsPartitionedBy-leb}
use Rattle.segment_core.specs.declared.found.Home.{Home}
use Rattle.pen_core.proofs.HomeRunSteps.{turn-sorted, home-found}
use Rattle.pen_core.proofs.home_runs.home_at.Goals as goal

abbrev here : goal.After-partition_point → Home → Type 0
here c d = (1 ≤ c.partition_point.result)
    × ((get_or c.args.homes.now (c.partition_point.result - 1) d).position ≤ c.args.position)
    × (c.args.position < (get_or c.args.homes.now (c.partition_point.result - 1) d).position + (get_or c.args.homes.now
    (c.partition_point.result - 1) d).count)

found : (c : goal.After-partition_point) → (d : Home) → here c d
found c d =
    let homes = c.args.homes.now in
    let turn = c.requires.homes.in_turn in
    let parted = IsPartitionedBy-leb (λ (h : Home). h.position) homes c.args.position (turn-sorted c.requires.homes.end homes turn) in
    let point =
    IsPartitionPoint-from_clause (λ (h : Home). leb h.position c.args.position) homes c.partition_point.result
    c.partition_point.ensures.partitioned parted (λ a r q k. search rules) in
    home-found c.requires.homes.end c.args.position homes c.partition_point.result d turn
    (omega (arith, c.requires.inside, c.requires.homes.reached)) c.partition_point.ensures.bound
    (λ k d lt. leb-true _ _ (point.0 k d (omega arith) lt)) (λ k d from lt. leb-false _ _ (point.1 k d from lt))

pub overflow_sub-result : goal.overflow_sub-result
overflow_sub-result c = (found c (record { position = 0; place = 0; count = 0 })).0

pub returns-clause-from : goal.returns-clause-from
returns-clause-from c = λ d. (found c d).1

pub returns-clause-to : goal.returns-clause-to
returns-clause-to c = λ d. (found c d).2

pub returns-clause-inside : goal.returns-clause-inside
returns-clause-inside c = grind (arith, common_steps)
