use Rattle.std.proofs.Common.{arith, subst}
use Rattle.disk_core.specs.Calls.{bytes_of}
use Rattle.pen_core.specs.Opening.{IsOpenRefusal}
use Rattle.phase_core.proofs.phase.Phase.open.Goals as goal

pub returns-clause-refused : goal.returns-clause-refused
returns-clause-refused g c = record {
  disk = c.in-Err.field-0-0.inner;
  why = λ model. subst (λ states. IsOpenRefusal g.R.Record.form (bytes_of states) c.in-Err.fault) c.host_disk.ensures.states (c.in-Err.ensures.refused model);
  failed = let all = c.in-Err.ensures.faults in let none = c.host_disk.ensures.faults in omega (arith, all, none);
}
