-- The names of the faults of commands over files, which `Display` writes, and the line of a refusal.
use Rattle.std.specs.Prelude.{ℕ, List, ◌++◌, codes}
use Rattle.pen_core.specs.Names.{open_name}
use Rattle.book_core.specs.Names.{grow_name}
use Rattle.vault_core.specs.Names.{vault_name}
use Rattle.vault_core.specs.declared.upgrading.UpgradeFault.{UpgradeFault}
use Rattle.vault_core.specs.declared.upgrading.UpgradeFault.TheVariants as upgrade_faults
use Rattle.text_core.specs.Refusals.{name_of, refused_line}
use Rattle.files_core.specs.declared.fault.FileFault.{FileFault}
use Rattle.files_core.specs.declared.fault.FileFault.TheVariants.{Word, Input, Open, Vault, Grower, Upgrade}

abbrev pub upgrade_name : UpgradeFault → List ℕ
upgrade_name (upgrade_faults.Old fault) = codes "old " ++ open_name fault
upgrade_name upgrade_faults.NotOld = codes "not version 1"
upgrade_name (upgrade_faults.New fault) = codes "new " ++ vault_name fault

abbrev pub file_fault_name : FileFault → List ℕ
file_fault_name (Word word) = codes "word"
file_fault_name (Input refusal) = name_of refusal
file_fault_name (Open fault) = open_name fault
file_fault_name (Vault fault) = vault_name fault
file_fault_name (Grower stopped) = grow_name stopped.fault
file_fault_name (Upgrade fault) = upgrade_name fault

-- the line that is printed
abbrev pub fault_line : FileFault → List ℕ
fault_line fault = refused_line (file_fault_name fault)
