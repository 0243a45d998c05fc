use Rattle.std.proofs.lemmas.Grind.{common_steps}
use Rattle.std.proofs.Common.{◌≡◌, ◌+◌, ℕ, List, Option, Ok, false, length, refl, sym, ap, subst, ◌∙◌, arith}
use Rattle.segment_core.specs.declared.frame_head.FrameHead.{FrameHead}
use Rattle.segment_core.specs.declared.format.Shape.{Shape}
use Rattle.segment_core.specs.Kind.{kind_byte}
use Rattle.segment_core.specs.Layout.{frame_in, is_layout}
use Rattle.segment_core.specs.Fault.{kind_in, payload_in, is_kind}
use Rattle.segment_core.specs.Reading.{IsRead, BeginsWith, lengths_of, runs_of, record_count}
use Rattle.segment_core.specs.FrameHead.{IsNextHead, first_number}
use Rattle.segment_core.proofs.Head.{finds_layout, begins_with, is_read, is_kind-kind_byte, payload_cut, length-payload_in}
use Rattle.segment_core.proofs.Payload.{limit_small}
use Rattle.segment_core.proofs.Fronts.{front_cut, unread_head, whole_of_head, headed}
use Rattle.segment_core.proofs.frame.read_frame.Goals as goal

pub returns-in-Err : goal.returns-in-Err
returns-in-Err c =
    unread_head c.args.shape c.args.at c.args.bytes.now c.in-Err.unread
    (c.in-Err.ensures.next c.args.bytes.now (front_cut c.args.bytes.now c.min.result c.min.ensures))

pub returns-in_default : goal.returns-in_default
returns-in_default c =
    subst (λ (o : Option FrameHead). IsNextHead c.args.shape c.args.at c.args.bytes.now (Ok o)) c.in_default.is
    (c.in-Ok.ensures.next c.args.bytes.now (front_cut c.args.bytes.now c.min.result c.min.ensures))

pub counts-requires-clause-small : goal.counts-requires-clause-small
counts-requires-clause-small c =
    let bytes : List ℕ = c.args.bytes.now in
    let h = headed c.args.shape c.args.at bytes c.in-Ok.found c.in-Some.head c.in-Some.is
    (c.in-Ok.ensures.next bytes (front_cut bytes c.min.result c.min.ensures)) in
    let limit = limit_small c.args.shape.format in
    let small = h.small in
    let long = ap length (payload_cut bytes c.in-Some.head.payload_len h.len) ∙ length-payload_in bytes h.whole in
    omega arith

pub counts-requires-clause-is : goal.counts-requires-clause-is
counts-requires-clause-is c =
    let bytes : List ℕ = c.args.bytes.now in
    let head : FrameHead = c.in-Some.head in
    let h = headed c.args.shape c.args.at bytes c.in-Ok.found head c.in-Some.is
    (c.in-Ok.ensures.next bytes (front_cut bytes c.min.result c.min.ensures)) in
    h.number ∙ ap (first_number c.args.shape.format head.kind) (sym (payload_cut bytes head.payload_len h.len))

pub returns-in_default-counts : goal.returns-in_default-counts
returns-in_default-counts c =
    let bytes : List ℕ = c.args.bytes.now in
    let head : FrameHead = c.in-Some.head in
    let h = headed c.args.shape c.args.at bytes c.in-Ok.found head c.in-Some.is
    (c.in-Ok.ensures.next bytes (front_cut bytes c.min.result c.min.ensures)) in
    let whole = h.whole in
    let cut = payload_cut bytes head.payload_len h.len in
    let formless : is_layout c.args.shape (kind_in bytes) (payload_in bytes) ≡ false
    = ap (λ k. is_layout c.args.shape k (payload_in bytes)) (sym h.kind)
    ∙ ap (is_layout c.args.shape (kind_byte head.kind)) (sym cut)
    ∙ c.in_default-counts.ensures in
    rw c.damaged.ensures
    (finds_layout c.args.shape c.args.at bytes (record { some = h.some; opened = h.opened }) (omega arith)
    (ap is_kind (sym h.kind) ∙ is_kind-kind_byte head.kind) h.small h.whole formless)

pub invariant_of-result : goal.invariant_of-result
invariant_of-result c =
    let bytes : List ℕ = c.args.bytes.now in
    let shape : Shape = c.args.shape in
    let head : FrameHead = c.in-Some.head in
    let h = headed shape c.args.at bytes c.in-Ok.found head c.in-Some.is
    (c.in-Ok.ensures.next bytes (front_cut bytes c.min.result c.min.ensures)) in
    let counts = c.in-Some-counts.ensures in
    let kind : ℕ = kind_byte head.kind in
    let cut = payload_cut bytes head.payload_len h.len in
    let formed = ap (is_layout shape kind) (sym cut) ∙ counts.0 in
    let w = whole_of_head shape bytes head h c.requires.wide (λ i. omega (arith, c.type_inv.bytes i)) formed in
    let read = is_read c.args.at shape kind c.in-Some-counts.heads c.in-Some-counts.records bytes c.requires.place w
    (counts.1 ∙ ap (λ (bs : List ℕ). length (lengths_of (frame_in shape kind bs)) + length (runs_of (frame_in shape kind bs))) cut)
    (counts.2 ∙ ap (λ (bs : List ℕ). record_count (frame_in shape kind bs)) cut) in
    subst
    (λ (bs : List ℕ).
    IsRead c.args.at shape c.in-Some-counts.heads c.in-Some-counts.records bs (frame_in shape kind bs))
    (sym cut) read

pub returns : goal.returns
returns c =
    let bytes : List ℕ = c.args.bytes.now in
    let shape : Shape = c.args.shape in
    let head : FrameHead = c.in-Some.head in
    let h = headed shape c.args.at bytes c.in-Ok.found head c.in-Some.is
    (c.in-Ok.ensures.next bytes (front_cut bytes c.min.result c.min.ensures)) in
    let kind : ℕ = kind_byte head.kind in
    let cut = payload_cut bytes head.payload_len h.len in
    let formed = ap (is_layout shape kind) (sym cut) ∙ c.in-Some-counts.ensures.0 in
    let w = whole_of_head shape bytes head h c.requires.wide (λ i. omega (arith, c.type_inv.bytes i)) formed in
    (refl, refl, subst (λ (bs : List ℕ). BeginsWith shape bytes (frame_in shape kind bs)) (sym cut) (begins_with shape bytes kind w))

pub counts-requires-clause-fits : goal.counts-requires-clause-fits
counts-requires-clause-fits c = grind (arith, common_steps)
