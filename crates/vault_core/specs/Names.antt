-- The names of a vault's faults, which `Display` writes.
use Rattle.std.specs.Prelude.{ℕ, List, ◌++◌, codes, decimal}
use Rattle.pen_core.specs.Names.{pen_name}
use Rattle.vault_core.specs.declared.fault.VaultFault.{VaultFault}
use Rattle.vault_core.specs.declared.fault.VaultFault.TheVariants.{Pen, Unsettled, WrongPhase}

abbrev pub vault_name : VaultFault → List ℕ
vault_name (Pen fault) = pen_name fault
vault_name (Unsettled number) = codes "unsettled " ++ decimal number
vault_name WrongPhase = codes "wrong phase"
