use Rattle.std.proofs.Common.{arith, sym, subst}
use Rattle.std.proofs.lemmas.Grind.{common_steps}
use Rattle.record_core.specs.Bytes.{IsBytes}
use Rattle.disk_core.specs.State.{now}
use Rattle.disk_core.specs.File.{file_states}
use Rattle.disk_core.proofs.ImageLemmas.{written_image}
use Rattle.disk_core.proofs.BytesLemmas.{IsBytes-overlay}
use Rattle.disk_core.proofs.file.FileDiskDisk.write_at.Goals as goal

pub invariant_of-self : goal.invariant_of-self
invariant_of-self g c =
    let disk = c.args.self.now in
    rw c.and-self.ensures
    (record {
      readable = λ agreed. written_image (now (file_states disk.truth.facts disk.log.items)) c.args.at c.of.result.bytes
          (c.requires.inside agreed.1) (disk.readable agreed.1);
      bytes = λ agreed. IsBytes-overlay (now (file_states disk.truth.facts disk.log.items)).seen c.args.at c.of.result.bytes
          (disk.bytes agreed.1) (subst IsBytes (sym c.of.ensures) (λ i. omega (arith, c.type_inv.bytes i)));
    })

pub invariant_of-self-in-Err : goal.invariant_of-self-in-Err
invariant_of-self-in-Err g c = grind (arith, common_steps)

pub returns-in-Err-clause-torn : goal.returns-in-Err-clause-torn
returns-in-Err-clause-torn g c = grind (arith, common_steps)

pub returns-in-Err-clause-pending : goal.returns-in-Err-clause-pending
returns-in-Err-clause-pending g c = grind (arith, common_steps)

pub returns-in-Err-clause-goes_on_torn : goal.returns-in-Err-clause-goes_on_torn
returns-in-Err-clause-goes_on_torn g c = grind (arith, common_steps)
