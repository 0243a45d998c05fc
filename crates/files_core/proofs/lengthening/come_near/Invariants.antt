use Rattle.std.proofs.Common.{ℕ, ◌<◌, ◌-◌, length}
use Rattle.vault_core.specs.Vault.{list_of}
use Rattle.files_core.specs.Lengthened.{HasGrownBy}
use Rattle.files_core.proofs.lengthening.come_near.Given as goal

abbrev pub invariant-loop-vault : goal.invariant-loop-vault
invariant-loop-vault g l = (growths : ℕ) × HasGrownBy g.R.Record.form g.D.Disk.keeps g.D.Disk.states g.D.Disk.faults growths l.piece l.asked.filler l.fn.vault l.vault
    × (0 < growths → length (list_of l.vault) < l.asked.len)

abbrev pub decreases-loop-vault : goal.decreases-loop-vault
decreases-loop-vault g l = l.asked.len - length (list_of l.vault)
