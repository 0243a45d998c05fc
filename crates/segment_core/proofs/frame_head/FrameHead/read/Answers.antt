use Rattle.std.proofs.lemmas.Grind.{common_steps}
use Rattle.std.proofs.Common.{◌≡◌, ◌+◌, length, sym, ap, subst, ◌∙◌, arith}
use Rattle.std.proofs.lemmas.Bool.{eqb-true, eqb-false}
use Rattle.segment_core.specs.declared.fault.Cause.TheVariants.{Kind}
use Rattle.segment_core.specs.Layout.{is_layout}
use Rattle.segment_core.specs.Fault.{is_kind, payload_in, damaged}
use Rattle.segment_core.specs.Reading.{IsFaulty}
use Rattle.segment_core.specs.FrameHead.{FitsNumber}
use Rattle.segment_core.proofs.Head.{finds_no_gate, finds_short_head, finds_kind, finds_too_large, finds_short_payload, finds_layout, length-payload_in}
use Rattle.segment_core.proofs.Fronts.{opened, kind_shown, told, front_shows, no_number}
use Rattle.segment_core.proofs.frame_head.FrameHead.read.Goals as goal

pub returns-then-is_empty-clause-next : goal.returns-then-is_empty-clause-next
returns-then-is_empty-clause-next c bytes is =
    let none : length c.args.front.now ≡ 0 = eqb-true _ _ (sym c.is_empty.ensures ∙ c.if-is_empty.true) in
    let size = is.size in
    let enough = is.enough in
    finds_no_gate c.args.shape c.args.at bytes (omega arith)

pub returns-then-left-clause-next : goal.returns-then-left-clause-next
returns-then-left-clause-next c bytes is =
    let gate = opened bytes c.args.front.now c.args.left is (eqb-false _ _ (sym c.is_empty.ensures ∙ c.if-is_empty.false)) c.if-front-ne-OPEN_GATE.false in
    let size = is.size in
    let few = c.if-left.true in
    finds_short_head c.args.shape c.args.at bytes gate (omega arith)

pub returns-in_default-clause-next : goal.returns-in_default-clause-next
returns-in_default-clause-next c bytes is =
    let gate = opened bytes c.args.front.now c.args.left is (eqb-false _ _ (sym c.is_empty.ensures ∙ c.if-is_empty.false)) c.if-front-ne-OPEN_GATE.false in
    let size = is.size in
    let long = c.if-left.false in
    let kind = kind_shown bytes c.args.front.now c.args.left is long in
    rw c.damaged.ensures
    (subst (λ k. IsFaulty c.args.shape c.args.at bytes (damaged (c.args.at + 1) (Kind k))) kind
    (finds_kind c.args.shape c.args.at bytes gate (omega arith) (ap is_kind kind ∙ c.in_default.ensures.unknown)))

pub returns-then-payload_len-payload_limit-clause-next : goal.returns-then-payload_len-payload_limit-clause-next
returns-then-payload_len-payload_limit-clause-next c bytes is =
    let gate = opened bytes c.args.front.now c.args.left is (eqb-false _ _ (sym c.is_empty.ensures ∙ c.if-is_empty.false)) c.if-front-ne-OPEN_GATE.false in
    let t = told bytes c.args.front.now c.args.left c.in-Some.kind c.from-payload_len.result is gate c.if-left.false c.in-Some.ensures.known (c.from-payload_len.ensures ∙ c.u32_at.ensures) in
    let limit = c.payload_limit.ensures.is in
    rw c.damaged-then-payload_len-payload_limit.ensures (finds_too_large c.args.shape c.args.at bytes gate (omega arith) t.known (omega arith))

pub returns-then-left-payload_len-clause-next : goal.returns-then-left-payload_len-clause-next
returns-then-left-payload_len-clause-next c bytes is =
    let gate = opened bytes c.args.front.now c.args.left is (eqb-false _ _ (sym c.is_empty.ensures ∙ c.if-is_empty.false)) c.if-front-ne-OPEN_GATE.false in
    let t = told bytes c.args.front.now c.args.left c.in-Some.kind c.from-payload_len.result is gate c.if-left.false c.in-Some.ensures.known (c.from-payload_len.ensures ∙ c.u32_at.ensures) in
    let limit = c.payload_limit.ensures.is in
    finds_short_payload c.args.shape c.args.at bytes gate (omega arith) t.known (omega arith) (omega arith)

pub returns-in_default-number_in-clause-next : goal.returns-in_default-number_in-clause-next
returns-in_default-number_in-clause-next c bytes is =
    let gate = opened bytes c.args.front.now c.args.left is (eqb-false _ _ (sym c.is_empty.ensures ∙ c.if-is_empty.false)) c.if-front-ne-OPEN_GATE.false in
    let t = told bytes c.args.front.now c.args.left c.in-Some.kind c.from-payload_len.result is gate c.if-left.false c.in-Some.ensures.known (c.from-payload_len.ensures ∙ c.u32_at.ensures) in
    let limit = c.payload_limit.ensures.is in
    let payload_len : length (payload_in bytes) ≡ c.from-payload_len.result = length-payload_in bytes (omega arith) ∙ t.len_is in
    let formless =
    no_number c.args.shape c.in-Some.kind (payload_in bytes)
    (λ n fits. c.in_default-number_in.ensures.fits n (subst (λ m. FitsNumber c.args.shape.format c.in-Some.kind m n) payload_len fits)) in
    rw c.damaged-in_default-number_in.ensures
    (finds_layout c.args.shape c.args.at bytes gate (omega arith) t.known (omega arith) (omega arith)
    (ap (λ k. is_layout c.args.shape k (payload_in bytes)) t.kind_is ∙ formless))

pub returns-clause-next : goal.returns-clause-next
returns-clause-next c bytes is =
    let gate = opened bytes c.args.front.now c.args.left is (eqb-false _ _ (sym c.is_empty.ensures ∙ c.if-is_empty.false)) c.if-front-ne-OPEN_GATE.false in
    let t = told bytes c.args.front.now c.args.left c.in-Some.kind c.from-payload_len.result is gate c.if-left.false c.in-Some.ensures.known (c.from-payload_len.ensures ∙ c.u32_at.ensures) in
    let limit = c.payload_limit.ensures.is in
    let payload_len : length (payload_in bytes) ≡ c.from-payload_len.result = length-payload_in bytes (omega arith) ∙ t.len_is in
    record {
      some = gate.some;
      opened = gate.opened;
      kind = sym t.kind_is;
      len = sym t.len_is;
      small = omega arith;
      whole = omega arith;
      number = c.in-Some-number_in.ensures.shown (payload_in bytes) payload_len (front_shows bytes c.args.front.now c.args.left is (omega arith));
    }

pub returns-then-front-ne-OPEN_GATE-clause-next : goal.returns-then-front-ne-OPEN_GATE-clause-next
returns-then-front-ne-OPEN_GATE-clause-next c = grind (arith, common_steps)
