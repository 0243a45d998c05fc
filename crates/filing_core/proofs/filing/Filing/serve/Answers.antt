use Rattle.std.proofs.Common.{inr, ℕ, subst, arith}
use Rattle.std.specs.Prelude.{IfErr}
use Rattle.disk_core.specs.FileDisk.{KeepsSoFar, states_of}
use Rattle.serve_core.specs.Serving.{IsServeRefusal}
use Rattle.filing_core.proofs.filing.Filing.serve.Goals as goal

pub returns : goal.returns
returns g c = inr (inr (record {
  disk = c.in_ok-disk.field-0.disk;
  left = c.serve-disk.result.0;
  growths = c.serve-disk.result.1.growths;
  served = c.serve-disk.result.2;
  pipes = c.in_ok-pipes.pipes.items;
  as_many = let same = c.in_ok-pipes.pipes.ok.0 in let many = c.in_ok-pipes.ensures.pipes in omega (arith, same, many);
  opened = c.in_ok-disk.ensures.opened;
  leaves = c.serve-disk.ensures.left;
  theirs = c.serve-disk.ensures.clients;
  refused = subst (λ (n : ℕ). IfErr c.serve-disk.result.2 (IsServeRefusal g.R.Record.form KeepsSoFar states_of n c.serve-disk.result.0 c.serve-disk.result.1.growths)) c.in_ok-pipes.ensures.pipes c.serve-disk.ensures.refused;
  faults_are = c.serve-disk.ensures.faults;
  model = c.serve-disk.ensures.model;
  told = c.status_of_serve.ensures;
}))
