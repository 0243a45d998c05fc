use Rattle.std.proofs.Common.{◌≡◌, ℕ}
use Rattle.std.specs.Slice.Iter.{chunks_rest, chunks_size}
use Rattle.vault_core.proofs.Devices.{device_of}
use Rattle.vault_core.proofs.Upgrades.{Writes}
use Rattle.vault_core.proofs.upgrading.write_growths.Given as goal

abbrev pub invariant-loop-growth : goal.invariant-loop-growth
invariant-loop-growth g l =
    (goal.iterator-loop-growth g).can_next l.growth-iterator
    × (goal.iterator-loop-growth g).is_finite l.growth-iterator
    × (chunks_size l.growth-iterator ≡ l.fn.piece)
    × (growths : ℕ) × Writes l.fn.format g.R.Record.form (device_of g.D.Disk.keeps g.D.Disk.states g.D.Disk.faults) l.fn.piece l.fn.records l.fn.pen l.pen (chunks_rest l.growth-iterator) growths
