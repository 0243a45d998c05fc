-- The names of the faults that refuse a step, which `Display` writes.
use Rattle.std.specs.Prelude.{ℕ, List}
use Rattle.segment_core.specs.Names.{scan_name}
use Rattle.book_core.specs.Names.{grow_name}
use Rattle.vault_core.specs.Names.{vault_name}
use Rattle.drive_core.specs.declared.fault.StepFault.{StepFault}
use Rattle.drive_core.specs.declared.fault.StepFault.TheVariants.{Vault, Grow, Scan}

abbrev pub fault_name : StepFault → List ℕ
fault_name (Vault fault) = vault_name fault
fault_name (Grow fault) = grow_name fault
fault_name (Scan fault) = scan_name fault
