use Rattle.std.proofs.Common.{◌≡◌, ◌*◌, ◌^◌, ◌≤◌}
use Rattle.crew_core.specs.Crewing.{counts_to}
use Rattle.crew_core.proofs.crewing.room_of.Given as goal

abbrev pub invariant-loop-grower : goal.invariant-loop-grower
invariant-loop-grower g l = (l.room ≡ counts_to (g.S.Source.count_of l.source) l.grower) × (l.room ≤ l.grower * 2 ^ 32)
