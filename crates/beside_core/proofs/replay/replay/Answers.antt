use Rattle.std.proofs.Common.{◌≡◌, ◌+◌, ◌-◌, ◌*◌, ◌≤◌, [], ◌∷◌, ◌++◌, ℕ, List, Ok, Some, None, Err, true, length, drop, refl, sym, ap, subst, ◌∙◌, arith, length-append}
use Rattle.std.proofs.lemmas.Result.{err_from_is_err_and}
use Rattle.std.proofs.lemmas.List.{take_rest, length-drop}
use Rattle.segment_core.specs.declared.format.Shape.{Shape}
use Rattle.segment_core.specs.declared.frame_head.Unread.{Unread}
use Rattle.record_core.specs.Limits.{record_limit}
use Rattle.segment_core.specs.Frame.{frame_text}
use Rattle.segment_core.specs.Tally.{after, MayFollow}
use Rattle.segment_core.proofs.Payload.{length-frame_text}
use Rattle.segment_core.specs.declared.fault.ScanFault.{ScanFault}
use Rattle.segment_core.specs.declared.frame_head.Unread.TheVariants.{Short, Fault}
use Rattle.segment_core.specs.declared.tally.Tally.{Tally}
use Rattle.segment_core.specs.Fault.{is_closed, frame_fault, first_line, order_lines}
use Rattle.segment_core.specs.FrameHead.{IsNextHead}
use Rattle.segment_core.proofs.Lines.{frame_fault_from_lines, frame_fault_from_order}
use Rattle.segment_core.specs.Reading.{Seen, IsNext, BeginsWith}
use Rattle.beside_core.specs.Tail.{FillsTail, TakesFrame}
use Rattle.beside_core.proofs.Taking.{replayed_of, taken_nothing, never_unread, all_taken, taken_all, no_order_fault, fault_by, legal_more, text_more, taken_more, replay_end, size_small, changes_few}
use Rattle.beside_core.proofs.replay.replay.Goals as goal

-- the frame that was read begins what is left
begins_here : (shape : Shape) (at : ℕ) (bytes part : List ℕ) (seen : Seen) → part ≡ bytes → IsNext shape at part (Ok (Some seen)) → BeginsWith shape bytes seen.frame
begins_here shape at bytes part seen is next = subst (λ (bs : List ℕ). BeginsWith shape bs seen.frame) is next.2

shape_here : (shape : Shape) (at : ℕ) (part : List ℕ) (seen : Seen) → IsNext shape at part (Ok (Some seen)) → seen.shape ≡ shape
shape_here shape at part seen next = next.1

closed_here : (shape : Shape) (at : ℕ) (bytes part : List ℕ) → part ≡ bytes → IsNext shape at part (Ok None) → is_closed bytes ≡ true
closed_here shape at bytes part is next = subst (λ (bs : List ℕ). is_closed bs ≡ true) is next

unread_here : (shape : Shape) (at : ℕ) (bytes part : List ℕ) (unread : Unread) → part ≡ bytes → IsNext shape at part (Err unread) → IsNext shape at bytes (Err unread)
unread_here shape at bytes part unread is next = subst (λ (bs : List ℕ). IsNext shape at bs (Err unread)) is next

next_head : (shape : Shape) (at : ℕ) (bytes : List ℕ) (unread : Unread) → IsNext shape at bytes (Err unread) → IsNextHead shape at bytes (Err unread)
next_head shape at bytes Short next = next
next_head shape at bytes (Fault fault) next = next

at_here : (shape : Shape) (at : ℕ) (part : List ℕ) (seen : Seen) → IsNext shape at part (Ok (Some seen)) → seen.at ≡ at
at_here shape at part seen next = next.0

fault_at : (shape : Shape) (p q : ℕ) (tally tally' : Tally) (bytes : List ℕ) (fault : ScanFault) → p ≡ q → tally ≡ tally' → frame_fault shape p tally bytes ≡ Some fault
    → frame_fault shape q tally' bytes ≡ Some fault
fault_at shape p q tally tally' bytes fault place same is = ap (λ n. frame_fault shape n tally' bytes) (sym place) ∙ ap (λ t. frame_fault shape p t bytes) (sym same) ∙ is

pub loop-frame-init : goal.loop-frame-init
loop-frame-init g c = record {
  inside = omega arith;
  at = omega arith;
  small = c.args.mark.short;
  few = c.args.mark.few;
  lower = omega arith;
  tail = record {
    behind = omega arith;
    filled = ap length c.new-2.ensures.items ∙ (let none : 0 ≡ c.args.mark.tally.size - c.args.mark.tally.size = omega arith in
        let zero : 0 ≡ 0 * g.R.Record.form.width = omega arith in zero ∙ ap (λ n. n * g.R.Record.form.width) none);
  };
  many = omega arith;
  taken = taken_nothing g.R.Record.form c.args.mark c.args.text.now _ (record { base_is = refl; no_edits = c.new.ensures.items; no_tail = c.new-2.ensures.items });
}

pub returns-in-Ok-None-clause-frames : goal.returns-in-Ok-None-clause-frames
returns-in-Ok-None-clause-frames g c = λ frames text legal. (
    let i = c.loop-frame.invariant in
    let closed = closed_here c.args.mark.shape c.loop-frame.gate (drop c.loop-frame.used c.args.text.now) _ (take_rest c.args.text.now c.loop-frame.used)
    (rw c.in-Ok-None.field-0-is at c.in-Ok-None.ensures) in
    all_taken g.R.Record.form c.args.mark frames c.args.text.now c.loop-frame.used c.loop-frame.tally c.loop-frame.laid (replayed_of g.R.Record.form c.args.mark c.args.text.now c.loop-frame.used c.loop-frame.tally c.loop-frame.laid c.loop-frame.frames i.taken frames text legal) _ closed refl i.at refl i.tail)

pub returns-in-Ok-None-clause-text : goal.returns-in-Ok-None-clause-text
returns-in-Ok-None-clause-text g c =
    let i = c.loop-frame.invariant in
    let closed = closed_here c.args.mark.shape c.loop-frame.gate (drop c.loop-frame.used c.args.text.now) _ (take_rest c.args.text.now c.loop-frame.used)
    (rw c.in-Ok-None.field-0-is at c.in-Ok-None.ensures) in
    record {
      frames = i.taken.done;
      rest = drop c.loop-frame.used c.args.text.now;
      text_is = i.taken.text_is;
      legal = i.taken.legal;
      end = (closed, taken_all g.R.Record.form c.args.mark c.args.text.now c.loop-frame.used c.loop-frame.tally c.loop-frame.laid c.loop-frame.frames i.taken _ refl i.at refl i.tail, i.taken.count_is);
    }

pub returns-in-Err-clause-text : goal.returns-in-Err-clause-text
returns-in-Err-clause-text g c =
    let i = c.loop-frame.invariant in
    let shape = c.args.mark.shape in
    let rest : List ℕ = drop c.loop-frame.used c.args.text.now in
    let unread = unread_here shape c.loop-frame.gate rest _ c.in-Err.unread (take_rest c.args.text.now c.loop-frame.used) c.in-Err.ensures in
    let found = c.fault.ensures shape rest (sym (ap length (take_rest c.args.text.now c.loop-frame.used))) (next_head shape c.loop-frame.gate rest c.in-Err.unread unread) in
    record {
      frames = i.taken.done;
      rest = rest;
      text_is = i.taken.text_is;
      legal = i.taken.legal;
      end = fault_at shape c.loop-frame.gate _ c.loop-frame.tally _ rest c.fault.result (i.at ∙ ap (λ n. c.args.mark.gate + n) i.taken.used_is) i.taken.tally_is
          (frame_fault_from_lines shape c.loop-frame.gate c.loop-frame.tally rest c.fault.result found.0 found.1);
    }

pub returns-in-Err-check-clause-text : goal.returns-in-Err-check-clause-text
returns-in-Err-check-clause-text g c =
    let i = c.loop-frame.invariant in
    let shape = c.args.mark.shape in
    let rest : List ℕ = drop c.loop-frame.used c.args.text.now in
    let begins = begins_here shape c.loop-frame.gate rest _ c.in-Ok-Some.frame (take_rest c.args.text.now c.loop-frame.used) (rw c.in-Ok-Some.field-0-is at c.in-Ok-Some.ensures) in
    let at : c.in-Ok-Some.frame.at ≡ c.loop-frame.gate = at_here shape c.loop-frame.gate _ c.in-Ok-Some.frame (rw c.in-Ok-Some.field-0-is at c.in-Ok-Some.ensures) in
    let found = rw c.in-Ok-Some.frame-is at c.in-Err-check.ensures in
    record {
      frames = i.taken.done;
      rest = rest;
      text_is = i.taken.text_is;
      legal = i.taken.legal;
      end = fault_at shape c.loop-frame.gate _ c.loop-frame.tally _ rest c.in-Err-check.fault (i.at ∙ ap (λ n. c.args.mark.gate + n) i.taken.used_is) i.taken.tally_is
          (ap (frame_fault shape c.loop-frame.gate c.loop-frame.tally) begins.text.1
          ∙ frame_fault_from_order shape c.loop-frame.gate c.loop-frame.tally c.in-Ok-Some.frame.frame begins.text.0 c.in-Err-check.fault begins.whole
          (ap (λ p. first_line (order_lines p c.loop-frame.tally c.in-Ok-Some.frame.frame)) (sym at) ∙ found));
    }

pub returns-in_err-lay-in-Ok-Some-clause-text : goal.returns-in_err-lay-in-Ok-Some-clause-text
returns-in_err-lay-in-Ok-Some-clause-text g c =
    let p = err_from_is_err_and c.from_residual.result c.from_residual.ensures.1 in
    rw (p.1, p.2) (
    let i = c.loop-frame.invariant in
    let form = g.R.Record.form in
    let mark = c.args.mark in
    let frame = c.in-Ok-Some.frame.frame in
    let may : MayFollow c.loop-frame.tally frame = rw c.in-Ok-Some.frame-is at c.in_default.ensures in
    let begins = begins_here mark.shape c.loop-frame.gate (drop c.loop-frame.used c.args.text.now) _ c.in-Ok-Some.frame (take_rest c.args.text.now c.loop-frame.used)
    (rw c.in-Ok-Some.field-0-is at c.in-Ok-Some.ensures) in
    record {
      frames = i.taken.done ++ frame ∷ [];
      rest = begins.text.0;
      text_is = text_more form mark c.args.text.now c.loop-frame.used c.loop-frame.tally c.loop-frame.laid c.loop-frame.frames i.taken frame begins may;
      legal = legal_more form mark c.args.text.now c.loop-frame.used c.loop-frame.tally c.loop-frame.laid c.loop-frame.frames i.taken frame begins may;
      end = replay_end form mark c.loop-frame.laid.base i.taken.done frame begins.text.0 c.in_err-lay-in-Ok-Some.field-0.0 i.lower
          (rw c.in-Ok-Some.frame-is at c.in_err-lay-in-Ok-Some.ensures.bad);
    })

pub returns-in-Err-clause-frames : goal.returns-in-Err-clause-frames
returns-in-Err-clause-frames g c = λ frames text legal. (
    let has = replayed_of g.R.Record.form c.args.mark c.args.text.now c.loop-frame.used c.loop-frame.tally c.loop-frame.laid c.loop-frame.frames c.loop-frame.invariant.taken frames text legal in
    let unread = unread_here c.args.mark.shape c.loop-frame.gate (drop c.loop-frame.used c.args.text.now) _ c.in-Err.unread (take_rest c.args.text.now c.loop-frame.used) c.in-Err.ensures in
    absurd (never_unread c.args.mark.shape c.loop-frame.tally has.left (drop c.loop-frame.used c.args.text.now) has.rest has.legal c.loop-frame.gate c.in-Err.unread unread))

pub returns-in-Err-check-clause-frames : goal.returns-in-Err-check-clause-frames
returns-in-Err-check-clause-frames g c = λ frames text legal. (
    let has = replayed_of g.R.Record.form c.args.mark c.args.text.now c.loop-frame.used c.loop-frame.tally c.loop-frame.laid c.loop-frame.frames c.loop-frame.invariant.taken frames text legal in
    let begins = begins_here c.args.mark.shape c.loop-frame.gate (drop c.loop-frame.used c.args.text.now) _ c.in-Ok-Some.frame (take_rest c.args.text.now c.loop-frame.used)
    (rw c.in-Ok-Some.field-0-is at c.in-Ok-Some.ensures) in
    absurd (no_order_fault g.R.Record.form c.args.mark frames c.args.text.now c.loop-frame.used c.loop-frame.tally c.loop-frame.laid has c.in-Ok-Some.frame.frame begins c.in-Ok-Some.frame.at
    c.in-Err-check.fault (rw c.in-Ok-Some.frame-is at c.in-Err-check.ensures)))

pub returns-in_err-lay-in-Ok-Some-clause-frames : goal.returns-in_err-lay-in-Ok-Some-clause-frames
returns-in_err-lay-in-Ok-Some-clause-frames g c =
    let p = err_from_is_err_and c.from_residual.result c.from_residual.ensures.1 in
    rw (p.1, p.2) (λ frames text legal.
    let i = c.loop-frame.invariant in
    let has = replayed_of g.R.Record.form c.args.mark c.args.text.now c.loop-frame.used c.loop-frame.tally c.loop-frame.laid c.loop-frame.frames i.taken frames text legal in
    let begins = begins_here c.args.mark.shape c.loop-frame.gate (drop c.loop-frame.used c.args.text.now) _ c.in-Ok-Some.frame (take_rest c.args.text.now c.loop-frame.used)
    (rw c.in-Ok-Some.field-0-is at c.in-Ok-Some.ensures) in
    fault_by g.R.Record.form c.args.mark frames c.args.text.now c.loop-frame.used c.loop-frame.tally c.loop-frame.laid has c.in-Ok-Some.frame.frame begins c.in_err-lay-in-Ok-Some.field-0.0 i.lower
    (rw c.in-Ok-Some.frame-is at c.in_err-lay-in-Ok-Some.ensures.bad))

pub loop-frame-preserved : goal.loop-frame-preserved
loop-frame-preserved g c =
    let form = g.R.Record.form in
    let i = c.loop-frame.invariant in
    let frame = c.in-Ok-Some.frame.frame in
    let shape = c.args.mark.shape in
    let may : MayFollow c.loop-frame.tally frame = rw c.in-Ok-Some.frame-is at c.in_default.ensures in
    let shape_is = shape_here shape c.loop-frame.gate _ c.in-Ok-Some.frame (rw c.in-Ok-Some.field-0-is at c.in-Ok-Some.ensures) in
    let told : c.len-used.result ≡ length (frame_text c.in-Ok-Some.frame.shape.format frame) = c.len-used.ensures.is
    ∙ ap (λ (seen : Seen). length (frame_text seen.shape.format seen.frame)) c.in-Ok-Some.frame-is in
    let told_gate : c.len.result ≡ length (frame_text c.in-Ok-Some.frame.shape.format frame) = c.len.ensures.is
    ∙ ap (λ (seen : Seen). length (frame_text seen.shape.format seen.frame)) c.in-Ok-Some.frame-is in
    let after_is : c.after-tally.result ≡ after c.loop-frame.tally frame = c.after-tally.ensures ∙ ap (λ (seen : Seen). after c.loop-frame.tally seen.frame) c.in-Ok-Some.frame-is in
    let begins = begins_here shape c.loop-frame.gate (drop c.loop-frame.used c.args.text.now) _ c.in-Ok-Some.frame (take_rest c.args.text.now c.loop-frame.used)
    (rw c.in-Ok-Some.field-0-is at c.in-Ok-Some.ensures) in
    let len : c.len-used.result ≡ length (frame_text shape.format frame) = told ∙ ap (λ (s : Shape). length (frame_text s.format frame)) shape_is in
    let within : length (frame_text shape.format frame) ≤ length c.args.text.now - c.loop-frame.used = omega (
      arith,
      ap length begins.text.1,
      length-append
          (frame_text shape.format frame) begins.text.0,
      length-drop c.loop-frame.used c.args.text.now,
    ) in
    let taken : TakesFrame form c.loop-frame.tally frame c.loop-frame.laid c.lay.new.laid = (rw c.in-Ok-Some.frame-is at c.in_ok-lay-in-Ok-Some.ensures.taken) c.loop-frame.tally
    (record { is_tail = i.tail; small = i.small; may = may }) in
    record {
      inside = omega (arith, len, within, i.inside);
      at = omega (arith, told, told_gate, i.at);
      small = subst (λ t. t.size ≤ record_limit) (sym after_is) (size_small c.loop-frame.tally frame i.small may);
      few = omega (arith, ap (λ t. t.changes) after_is, changes_few c.loop-frame.tally frame, i.few, told_gate, length-frame_text c.in-Ok-Some.frame.shape.format frame);
      lower = omega (arith, taken.lower, i.lower);
      tail = subst (λ t. FillsTail form.width c.lay.new.laid.base t.size c.lay.new.laid.tail.items) (sym after_is) taken.is_tail;
      many = omega (arith, i.many, told, length-frame_text c.in-Ok-Some.frame.shape.format frame);
      taken = taken_more form c.args.mark c.args.text.now c.loop-frame.used c.loop-frame.tally c.loop-frame.laid c.loop-frame.frames i.taken frame begins may c.len-used.result c.after-tally.result c.lay.new.laid len
          after_is i.lower taken;
    }
