use Rattle.std.proofs.Common.{◌≡◌, length, Option, Ok, sym, subst, ◌∙◌}
use Rattle.segment_core.specs.declared.frame_head.FrameHead.{FrameHead}
use Rattle.segment_core.specs.Fault.{payload_in}
use Rattle.segment_core.specs.FrameHead.{IsNextHead}
use Rattle.segment_core.proofs.Head.{length-payload_in}
use Rattle.segment_core.proofs.Lines.{frame_fault_from_lines}
use Rattle.segment_core.proofs.Fronts.{headed}
use Rattle.stat_core.proofs.Outlined.{formless, outlined, disordered}
use Rattle.stat_core.proofs.outline.read_outline.Goals as goal

pub returns-in-Err-clause-next : goal.returns-in-Err-clause-next
returns-in-Err-clause-next c bytes is =
    let found = c.fault.ensures c.args.shape bytes is.size (c.in-Err.ensures.next bytes is) in
    frame_fault_from_lines c.args.shape c.args.at c.args.tally bytes c.fault.result found.0 found.1

pub returns-in_default-clause-next : goal.returns-in_default-clause-next
returns-in_default-clause-next c bytes is =
    subst (λ (o : Option FrameHead). IsNextHead c.args.shape c.args.at bytes (Ok o)) c.in_default.is (c.in-Ok.ensures.next bytes is)

pub returns-in_default-read_payload-clause-next : goal.returns-in_default-read_payload-clause-next
returns-in_default-read_payload-clause-next c bytes is =
    let head : FrameHead = c.in-Some.head in
    let h = headed c.args.shape c.args.at bytes c.in-Ok.found head c.in-Some.is (c.in-Ok.ensures.next bytes is) in
    let len : length (payload_in bytes) ≡ head.payload_len = length-payload_in bytes h.whole ∙ sym h.len in
    rw c.damaged.ensures (formless c.args.shape c.args.at c.args.tally bytes head h (c.in_default-read_payload.ensures.shown (payload_in bytes) len h.number))

pub returns-in-Err-check_order-clause-next : goal.returns-in-Err-check_order-clause-next
returns-in-Err-check_order-clause-next c bytes is =
    let head : FrameHead = c.in-Some.head in
    let h = headed c.args.shape c.args.at bytes c.in-Ok.found head c.in-Some.is (c.in-Ok.ensures.next bytes is) in
    let len : length (payload_in bytes) ≡ head.payload_len = length-payload_in bytes h.whole ∙ sym h.len in
    disordered c.args.shape c.args.at c.args.tally bytes head c.in-Some-read_payload.outline c.in-Err-check_order.fault h
    (c.in-Some-read_payload.ensures.shown (payload_in bytes) len h.number) c.in-Err-check_order.ensures

pub returns-in-Ok-check_order-clause-next : goal.returns-in-Ok-check_order-clause-next
returns-in-Ok-check_order-clause-next c bytes is =
    let head : FrameHead = c.in-Some.head in
    let h = headed c.args.shape c.args.at bytes c.in-Ok.found head c.in-Some.is (c.in-Ok.ensures.next bytes is) in
    let len : length (payload_in bytes) ≡ head.payload_len = length-payload_in bytes h.whole ∙ sym h.len in (
      outlined c.args.shape bytes head c.in-Some-read_payload.outline h (c.in-Some-read_payload.ensures.shown (payload_in bytes) len h.number),
      c.in-Ok-check_order.ensures,
      sym c.in-Some-read_payload.ensures.sized,
    )
