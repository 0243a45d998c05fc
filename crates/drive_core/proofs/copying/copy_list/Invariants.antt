use Rattle.std.proofs.Common.{◌≡◌, take}
use Rattle.vault_core.specs.Vault as vaults
use Rattle.drive_core.proofs.copying.copy_list.Given as goal

abbrev pub invariant-loop-i : goal.invariant-loop-i
invariant-loop-i g l = l.records.items ≡ take l.i (vaults.list_of l.fn.vault)
