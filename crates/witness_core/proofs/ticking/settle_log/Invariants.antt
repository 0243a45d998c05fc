use Rattle.pen_core.specs.Pen.{log_left}
use Rattle.witness_core.specs.Witnessed.{WitnessStart, IsWitnessed}
use Rattle.witness_core.proofs.ticking.settle_log.Given as goal

abbrev pub invariant-loop : goal.invariant-loop
invariant-loop g l = record {
  model : g.D.Disk.keeps l.pen.disk → g.D.Disk.keeps l.fn.pen.disk;
  witnessed : g.D.Disk.keeps l.pen.disk → (from : WitnessStart) → IsWitnessed from (g.D.Disk.states l.fn.pen.disk) l.fn.pen → IsWitnessed from (g.D.Disk.states l.pen.disk) l.pen;
}

abbrev pub decreases-loop : goal.decreases-loop
decreases-loop g l = log_left l.pen.job
