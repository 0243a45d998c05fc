use Rattle.std.proofs.Common.{refl, ap}
use Rattle.segment_core.specs.Written.{joined}
use Rattle.phase_core.proofs.WrittenLemmas.{are_written, matches_so}
use Rattle.phase_core.proofs.host_vault.HostVault.change.Goals as goal

pub returns : goal.returns
returns g c =
    let e = c.change_alone.ensures in
    let old = c.args.self.now.vault in
    let new = c.change_alone.new.self in (
      refl,
      (λ some. matches_so _ _ _ _ c.change_alone.result (are_written c.args.start c.args.records.now (joined old.blocks) (joined new.blocks)) (ap joined) (e.list some)),
      e.command,
      e.nothing,
    )
