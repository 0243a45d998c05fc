-- The names of a flusher's faults, which `Display` writes.
use Rattle.std.specs.Prelude.{ℕ, List, ◌++◌, codes, decimal}
use Rattle.pen_core.specs.Names.{pen_name}
use Rattle.flush_core.specs.declared.fault.FlushFault.{FlushFault}
use Rattle.flush_core.specs.declared.fault.FlushFault.TheVariants.{Pen, Strayed}

abbrev pub flush_name : FlushFault → List ℕ
flush_name (Pen fault) = pen_name fault
flush_name (Strayed number) = codes "strayed " ++ decimal number
