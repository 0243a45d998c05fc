use Rattle.std.proofs.Common.{◌∙◌, [], sym}
use Rattle.std.proofs.lemmas.List.{append-nil}
use Rattle.segment_core.specs.FrameHead.{IsFrontOf}
use Rattle.beside_core.proofs.Taken.{payload_len_in-bytes}
use Rattle.beside_core.proofs.look.payload_len.Goals as goal

pub returns-in-Err-Fault-clause-faulty : goal.returns-in-Err-Fault-clause-faulty
returns-in-Err-Fault-clause-faulty c =
    let head = c.args.head.now in
    let front : IsFrontOf head head 6 = record { size = c.requires.head; enough = c.requires.head; rest = []; is = sym (append-nil head) } in
    rw c.in-Err-Fault.field-0-is at (c.in-Err-Fault.ensures.next head front)

pub returns-clause-is : goal.returns-clause-is
returns-clause-is c = c.from_le_bytes.ensures ∙ sym (payload_len_in-bytes c.args.head.now c.requires.head)
