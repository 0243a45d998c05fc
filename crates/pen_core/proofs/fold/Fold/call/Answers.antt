use Rattle.std.proofs.Common.{arith}
use Rattle.std.proofs.lemmas.Grind.{common_steps}
use Rattle.pen_core.proofs.fold.Fold.call.Goals as goal

pub returns-in-Home-clause-failed : goal.returns-in-Home-clause-failed
returns-in-Home-clause-failed g c = grind (arith, common_steps)

pub returns-in-Home-clause-done : goal.returns-in-Home-clause-done
returns-in-Home-clause-done g c = grind (arith, common_steps)

pub slice_bounds-write_at-end : goal.slice_bounds-write_at-end
slice_bounds-write_at-end g c = grind (arith, common_steps)

pub slice_bounds-write_at-count : goal.slice_bounds-write_at-count
slice_bounds-write_at-count g c = grind (arith, common_steps)

pub slice_bounds-write_at-start : goal.slice_bounds-write_at-start
slice_bounds-write_at-start g c = grind (arith, common_steps)

pub write_at-requires-clause-fits : goal.write_at-requires-clause-fits
write_at-requires-clause-fits g c = grind (arith, common_steps)

pub write_at-requires-clause-inside : goal.write_at-requires-clause-inside
write_at-requires-clause-inside g c = grind (arith, common_steps)
