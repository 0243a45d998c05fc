use Rattle.std.proofs.lemmas.Grind.{common_steps}
use Rattle.std.proofs.Common.{◌≤◌, length, rules, sym, subst, arith}
use Rattle.record_core.specs.Bytes.{IsBytes}
use Rattle.disk_core.specs.State.{IsImage}
use Rattle.disk_core.proofs.ImageLemmas.{written_image, half_done_image}
use Rattle.disk_core.proofs.BytesLemmas.{IsBytes-overlay, half_done_bytes}
use Rattle.disk_core.proofs.ram.RamDiskDisk.write_at.Goals as goal

pub invariant_of-self-clause-readable : goal.invariant_of-self-clause-readable
invariant_of-self-clause-readable c =
    let disk = c.args.self.now in
    let inside : c.args.at ≤ length disk.contents.seen = search rules in
    subst (λ s. IsImage s s.seen) (sym c.in-Ok.ensures.done) (written_image disk.contents c.args.at c.args.bytes.now inside disk.readable)

pub invariant_of-self-clause-bytes : goal.invariant_of-self-clause-bytes
invariant_of-self-clause-bytes c =
    let disk = c.args.self.now in
    subst (λ s. IsBytes s.seen) (sym c.in-Ok.ensures.done) (IsBytes-overlay disk.contents.seen c.args.at c.args.bytes.now disk.bytes (λ i. omega (arith, c.type_inv.bytes i)))

pub invariant_of-self-in-Err-clause-readable : goal.invariant_of-self-in-Err-clause-readable
invariant_of-self-in-Err-clause-readable c = half_done_image c.args.at (length c.args.bytes.now) c.args.self.now.contents c.write.new.self c.args.self.now.readable c.in-Err.ensures.half_done

pub invariant_of-self-in-Err-clause-bytes : goal.invariant_of-self-in-Err-clause-bytes
invariant_of-self-in-Err-clause-bytes c = half_done_bytes c.args.at (length c.args.bytes.now) c.args.self.now.contents c.write.new.self c.args.self.now.bytes c.in-Err.ensures.half_done

pub returns-in-Err-clause-torn : goal.returns-in-Err-clause-torn
returns-in-Err-clause-torn c = grind (arith, common_steps)

pub returns-in-Err-clause-time : goal.returns-in-Err-clause-time
returns-in-Err-clause-time c = grind (arith, common_steps)

pub returns-in-Ok-clause-time : goal.returns-in-Ok-clause-time
returns-in-Ok-clause-time c = grind (arith, common_steps)
