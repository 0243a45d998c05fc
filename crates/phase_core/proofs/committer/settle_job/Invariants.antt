use Rattle.std.proofs.Common.{◌≡◌}
use Rattle.pen_core.specs.Pen.{log_left}
use Rattle.phase_core.specs.Committing.{GoesOn}
use Rattle.phase_core.proofs.committer.settle_job.Given as goal

abbrev pub invariant-loop : goal.invariant-loop
invariant-loop g l = record {
  so_far : GoesOn g.R.Record.form (λ (disk : _). g.D.Disk.keeps disk.inner) (λ (disk : _). g.D.Disk.states disk.inner) l.fn.flusher l.flusher;
  taken : l.flusher.taken ≡ l.fn.flusher.taken;
  pass : l.flusher.pass ≡ l.fn.flusher.pass;
}

abbrev pub decreases-loop : goal.decreases-loop
decreases-loop g l = log_left l.flusher.pen.job
