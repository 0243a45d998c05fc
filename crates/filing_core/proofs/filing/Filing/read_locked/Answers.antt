use Rattle.std.proofs.Common.{sym, subst, inl, inr}
use Rattle.vault_core.specs.declared.upgrading.UpgradeFault.TheVariants.{Old}
use Rattle.files_core.specs.Watched.{below}
use Rattle.files_core.specs.declared.fault.FileFault.TheVariants.{Upgrade}
use Rattle.filing_core.specs.Complaints.{Disk, IsComplaintOf, IsJustOpened}
use Rattle.filing_core.proofs.filing.Filing.read_locked.Goals as goal

pub returns-in-Ok-clause-read : goal.returns-in-Ok-clause-read
returns-in-Ok-clause-read g c = λ opened. inl (record {
  disk = below c.watched.result;
  left = below c.in-Ok._disk;
  opened = subst (λ (d : Disk). IsJustOpened d) (sym c.watched.ensures) opened;
  file = c.in-Ok.ensures.read;
  stays = c.in-Ok.ensures.stays;
  no_fault = c.in-Ok.ensures.faults;
})

pub returns-clause-read : goal.returns-clause-read
returns-clause-read g c = λ opened. inr (inl (record {
  disk = below c.watched.result;
  left = below c.in-Err.disk;
  fault = c.in-Err.fault;
  opened = subst (λ (d : Disk). IsJustOpened d) (sym c.watched.ensures) opened;
  why = c.in-Err.ensures.refused;
  stays = c.in-Err.ensures.stays;
  faults_are = c.in-Err.ensures.faults;
  told = subst (λ (d : Disk). IsComplaintOf g.R.Record.form d (Upgrade (Old c.in-Err.fault)) c.complaint_of.result) c.into_disk.ensures c.complaint_of.ensures;
}))
