use Rattle.std.proofs.Common.{arith}
use Rattle.std.proofs.lemmas.Grind.{common_steps}
use Rattle.pen_core.proofs.pen.Pen.ready_fold.Goals as goal

pub returns-clause-ready : goal.returns-clause-ready
returns-clause-ready g c = grind (arith, common_steps)

pub returns-then-gate_behind-clause-refused : goal.returns-then-gate_behind-clause-refused
returns-then-gate_behind-clause-refused g c = grind (arith, common_steps)

pub returns-then-not-is_none-clause-refused : goal.returns-then-not-is_none-clause-refused
returns-then-not-is_none-clause-refused g c = grind (arith, common_steps)

pub gate_behind-requires : goal.gate_behind-requires
gate_behind-requires g c = grind (arith, common_steps)
