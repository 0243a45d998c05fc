use mir.Raw.{raw}
use base.Shift.{Keyless}
use denote.RawPtr.{Ptr}
use Rattle.std.specs.Prelude.{Option, None, Some}
use Rattle.std_heap.specs.declared.Global.{Global}
use Rattle.handle_core.specs.Keeping.{kept_owns}
use denote.Memory.{lone}
use denote.Struct.Struct.{exits_of}
use denote.Struct.Owning.{shape, fields, to}
use denote.Param.Send.{IsSend, AllSend, owning_send, struct_send, sendable}
use Rattle.std.proofs.Crossing as heap
use Rattle.std_alloc.proofs.SendSync.{quiet, lies}
use Rattle.std_heap.proofs.Global.TheSendSync as handle
use Rattle.handle_core.specs.contracts.end.End as End
use Rattle.handle_core.proofs.end.End.TheSendSync.{the_send as home}
use Rattle.handle_core.specs.contracts.kept.Kept.{the_row, the_type}

keyless : (alloc : Global) (p : Ptr) (s : Option (End.the_row).Denot) → Keyless (kept_owns alloc p s)
keyless alloc p None = tt
keyless alloc p (Some x) = (lies End.the_row home p x, heap.frees.frees alloc (raw (lone End.the_row.mir)) p)

pub send : IsSend the_row
send =
    let all : AllSend (fields the_type) = (search sendable, (handle.the_field_send, tt)) in
    owning_send the_type all (λ d. keyless d.alloc d.at d.end)
    (λ k. quiet (to the_type) (exits_of k (fields the_type)) ((struct_send (shape the_type) all).leaving k))
