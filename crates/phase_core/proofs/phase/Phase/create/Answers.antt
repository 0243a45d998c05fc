use Rattle.std.proofs.Common.{inl, inr, arith, subst}
use Rattle.disk_core.specs.FileDisk.{KeepsSoFar, states_of}
use Rattle.disk_core.specs.Calls.{bytes_of}
use Rattle.pen_core.specs.Births.{IsExisting}
use Rattle.phase_core.proofs.BeginLemmas.{born_over}
use Rattle.phase_core.proofs.phase.Phase.create.Goals as goal

pub returns-in-Ok-lend_new-clause-born : goal.returns-in-Ok-lend_new-clause-born
returns-in-Ok-lend_new-clause-born g c =
    born_over (λ disk. KeepsSoFar disk.inner) (λ disk. states_of disk.inner) _ _ _ c.in-Ok.vault.pen _ c.host_disk.ensures.states c.in-Ok.ensures.created.0.shape_is
    c.in-Ok-lend_new.ensures.shares.pen c.in-Ok.ensures.born

pub returns-clause-refused : goal.returns-clause-refused
returns-clause-refused g c =
    let e = c.in-Err.ensures in
    elim e.refused [
      | inl memory ↦ inl (inl memory.0)
      | inr failed ↦ inr (record {
        disk = c.in-Err.field-0-0.inner;
        why = failed;
        failed = let all = e.failed in let none = c.host_disk.ensures.faults in omega (arith, all, none);
        exists = λ model is. subst (λ states. IsExisting (bytes_of states)) c.host_disk.ensures.states (e.exists model is);
      })
    ]
