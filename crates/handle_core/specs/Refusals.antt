-- Why a call is refused, by the fault of what it called.
use Rattle.block_core.specs.declared.fault.FreshFault.{FreshFault}
use Rattle.block_core.specs.declared.fault.FreshFault.TheVariants as blocks
use Rattle.book_core.specs.declared.fault.GrowFault.{GrowFault}
use Rattle.book_core.specs.declared.fault.GrowFault.TheVariants as faults
use Rattle.pen_core.specs.declared.fault.PenFault.TheVariants as pens
use Rattle.flush_core.specs.declared.fault.FlushFault.{FlushFault}
use Rattle.flush_core.specs.declared.fault.FlushFault.TheVariants.{Pen, Strayed}
use Rattle.pen_core.specs.declared.fault.OpenFault.TheVariants as opens
use Rattle.phase_core.specs.declared.phase.BeginFault.{BeginFault}
use Rattle.phase_core.specs.declared.phase.BeginFault.TheVariants as begins
use Rattle.vault_core.specs.declared.fault.VaultFault.{VaultFault}
use Rattle.vault_core.specs.declared.fault.VaultFault.TheVariants as vaults
use Rattle.phase_core.specs.declared.ending.GatherFault.{GatherFault}
use Rattle.phase_core.specs.declared.ending.GatherFault.TheVariants as gathers
use Rattle.pen_core.specs.declared.fault.PenFault.{PenFault}
use Rattle.c_core.specs.declared.refusal.Refusal.{Refusal}
use Rattle.c_core.specs.declared.refusal.Refusal.TheVariants.{Version, Memory, Empty, OutOfRange, TooLarge, FileFull, Exists, Broken, NotSo, Again, Full, Busy, Unfolded, Unsettled}
use Rattle.c_core.specs.Refusal.{of_scan}

abbrev pub of_block : FreshFault → Refusal
of_block blocks.Empty = Empty
of_block blocks.TooLarge = TooLarge
of_block blocks.Memory = Memory

abbrev pub of_growth : GrowFault → Refusal
of_growth faults.Closed = Full
of_growth faults.Full = Full
of_growth faults.TooLong = OutOfRange
of_growth (faults.Strayed n) = Again
of_growth faults.Memory = Memory
of_growth faults.Empty = Empty
of_growth faults.TooLarge = TooLarge

abbrev pub of_flush : FlushFault → Refusal
of_flush (Pen pens.FileFull) = FileFull
of_flush (Pen pens.Memory) = Memory
of_flush (Pen other) = Broken
of_flush (Strayed number) = Broken

-- why no phase is begun
abbrev pub of_begin : BeginFault → Refusal
of_begin (begins.Pen pens.Memory) = Memory
of_begin (begins.Pen pens.Exists) = Exists
of_begin (begins.Pen pens.TooLarge) = TooLarge
of_begin (begins.Pen other) = Broken
of_begin (begins.Open (opens.Scan fault)) = of_scan fault
of_begin (begins.Open (opens.Disk cause)) = Broken

-- why a phase isn't gathered
abbrev pub of_gather : GatherFault → Refusal
of_gather gathers.Shared = Busy
of_gather gathers.Broken = Broken
of_gather gathers.Strayed = Broken
of_gather (gathers.Unsettled number) = Unsettled
of_gather gathers.Memory = Memory

-- why a command on a vault is refused: it wrote nothing, or, where a call of the file failed, is broken
abbrev pub of_pen : PenFault → Refusal
of_pen pens.Broken = Broken
of_pen pens.Busy = Busy
of_pen pens.OldFormat = Version
of_pen pens.Runs = NotSo
of_pen pens.OutOfRange = OutOfRange
of_pen pens.TooLarge = TooLarge
of_pen pens.Unfolded = Unfolded
of_pen pens.FileFull = FileFull
of_pen pens.Memory = Memory
of_pen pens.Exists = Exists
of_pen (pens.Disk cause) = Broken

abbrev pub of_vault : VaultFault → Refusal
of_vault (vaults.Pen fault) = of_pen fault
of_vault (vaults.Unsettled number) = Unsettled
of_vault vaults.WrongPhase = Busy
