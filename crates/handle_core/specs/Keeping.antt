-- What C keeps with its pointer.
use Rattle.std.specs.Prelude.{Option, None, Some}
use base.Fml.{Fml, ftrue}
use base.Stored.{Coded}
use denote.RawPtr.{Ptr}
use Rattle.std.specs.Coded.{coded_option}
use Rattle.std.specs.Box.Ownership.{box_owns}
use Rattle.std_heap.specs.declared.Global.{Global}
use Rattle.std_heap.specs.contracts.GlobalAllocator.TheImpl.{ghosts}
use Rattle.handle_core.specs.contracts.end.End.{the_row}

-- with an end the right to it and to its block, and nothing without one
abbrev pub kept_owns : Global → Ptr → Option the_row.Denot → Fml
kept_owns alloc p None = ftrue
kept_owns alloc p (Some end) = box_owns (ghosts.dealloc_token alloc) the_row p end

abbrev pub end_coded : Coded (Option the_row.Denot)
end_coded = coded_option the_row.coded
