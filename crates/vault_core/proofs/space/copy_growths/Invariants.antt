use Rattle.std.proofs.Common.{◌≡◌, take}
use Rattle.directory_core.specs.Chain.{grown_records}
use Rattle.vault_core.proofs.space.copy_growths.Given as goal

abbrev pub invariant-loop-number : goal.invariant-loop-number
invariant-loop-number g l = (l.flusher ≡ l.fn.flusher) × (l.block.items ≡ grown_records (take l.number l.fn.flusher.pass.entries))
