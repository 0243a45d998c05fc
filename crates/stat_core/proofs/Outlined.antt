-- The frame at a gate: its fault, or what is told of it.
use Rattle.std.proofs.Common.{◌≡◌, ◌≤◌, ◌<◌, ℕ, ◌+◌, Bool, true, false, cond, List, ◌++◌, length, Some, None, refl, sym, ap, ◌∙◌, arith}
use Rattle.std.specs.Prelude.{not, ◌==◌, ◌||◌}
use Rattle.std.proofs.lemmas.Bool.{not_from_true, le-ltb, lt-ltb, eq-eqb, ne_eqb}
use Rattle.segment_core.specs.declared.fault.Cause.TheVariants.{Layout, Range, Unfolded, FoldCount}
use Rattle.segment_core.specs.declared.fault.ScanFault.{ScanFault}
use Rattle.segment_core.specs.declared.format.Shape.{Shape}
use Rattle.segment_core.specs.declared.tally.Tally.{Tally}
use Rattle.segment_core.specs.Shape.{limit_of}
use Rattle.segment_core.specs.Frame as frames
use Rattle.segment_core.specs.Kind.{kind_byte}
use Rattle.segment_core.specs.Layout.{is_layout, frame_in}
use Rattle.segment_core.specs.Fault.{first_line, frame_lines, order_lines, frame_fault, is_closed, is_kind, kind_in, payload_len_in, payload_in, damaged}
use Rattle.segment_core.proofs.Numbers.{second_false}
use Rattle.segment_core.proofs.Lines.{first_line-append, first_line_silent, frame_fault_from_lines}
use Rattle.segment_core.proofs.Head.{IsOpen, finds_layout, is_kind-kind_byte, length-payload_in}
use Rattle.segment_core.proofs.Tallied.{finds_range, finds_unfolded, finds_fold_count}
use Rattle.stat_core.specs.declared.outline.Outline.{Outline}
use Rattle.stat_core.specs.declared.outline.Outline.TheVariants.{Group, Change, Shrink, Fold}
use Rattle.segment_core.specs.declared.frame_head.FrameHead.{FrameHead}
use Rattle.segment_core.specs.FrameHead.{IsHead}
use Rattle.stat_core.specs.Next.{IsOrderFault, IsOutlineOf}
use Rattle.stat_core.specs.Outline.{IsOutlined}
use Rattle.segment_core.proofs.Fronts.{faulty_here}

pub head_open : (shape : Shape) (bytes : List ℕ) (head : FrameHead) → IsHead shape bytes head → IsOpen bytes
head_open shape bytes head is = record { some = is.some; opened = is.opened }

not_closed : (shape : Shape) (bytes : List ℕ) (head : FrameHead) → IsHead shape bytes head → is_closed bytes ≡ false
not_closed shape bytes head is = second_false _ _ (ap (λ n. not (n == 1)) is.opened)

known : (shape : Shape) (bytes : List ℕ) (head : FrameHead) → IsHead shape bytes head → is_kind (kind_in bytes) ≡ true
known shape bytes head is = ap is_kind (sym is.kind) ∙ is_kind-kind_byte head.kind

pub formless : (shape : Shape) (p : ℕ) (tally : Tally) (bytes : List ℕ) (head : FrameHead)
    → IsHead shape bytes head → is_layout shape (kind_byte head.kind) (payload_in bytes) ≡ false
    → frame_fault shape p tally bytes ≡ Some (damaged (p + 6) Layout)
formless shape p tally bytes head is no_form =
    let whole = is.whole in
    let found =
    faulty_here shape p bytes _
    (finds_layout shape p bytes (head_open shape bytes head is) (omega arith) (known shape bytes head is)
    is.small is.whole (ap (λ k. is_layout shape k (payload_in bytes)) (sym is.kind) ∙ no_form)) in
    frame_fault_from_lines shape p tally bytes _ found.0 found.1

pub outlined : (shape : Shape) (bytes : List ℕ) (head : FrameHead) (outline : Outline)
    → IsHead shape bytes head → IsOutlineOf shape (kind_byte head.kind) (payload_in bytes) outline
    → IsOutlined shape bytes outline
outlined shape bytes head outline is of = record {
  opened = not_closed shape bytes head is;
  kind = sym is.kind ∙ sym of.kind_is;
  len = sym (length-payload_in bytes is.whole) ∙ sym of.len;
  small = is.small;
  whole = is.whole;
  number = of.number;
}

-- no test on the frame by itself holds, so the first on its order is the fault
by_order : (shape : Shape) (p : ℕ) (tally : Tally) (bytes : List ℕ) (head : FrameHead) (frame : frames.Frame)
    (fault : ScanFault)
    → IsHead shape bytes head → is_layout shape (kind_in bytes) (payload_in bytes) ≡ true
    → frame_in shape (kind_in bytes) (payload_in bytes) ≡ frame → first_line (order_lines p tally frame) ≡ Some fault
    → frame_fault shape p tally bytes ≡ Some fault
unfolding frame_fault frame_lines
by_order shape p tally bytes head frame fault is formed here some =
    let whole = is.whole in
    let small = is.small in
    let any = is.some in
    let silent : first_line (frame_lines shape p bytes) ≡ None = first_line_silent (frame_lines shape p bytes) (
      ne_eqb (length bytes) 0 (λ (none : length bytes ≡ 0). absurd (omega arith)),
      (
        le-ltb (length bytes) 6 (omega arith),
        (
          ap not (known shape bytes head is),
          (
            le-ltb (limit_of shape.format) (payload_len_in bytes) small,
            (
              le-ltb (length bytes) (6 + payload_len_in bytes) whole,
              (not_from_true _ formed, tt),
            ),
          ),
        ),
      ),
    ) in
    ap (λ b. cond b None (first_line (frame_lines shape p bytes ++ order_lines p tally (frame_in shape (kind_in bytes) (payload_in bytes))))) (not_closed shape bytes head is)
    ∙ first_line-append (frame_lines shape p bytes) (order_lines p tally (frame_in shape (kind_in bytes) (payload_in bytes))) silent
    ∙ ap (λ f. first_line (order_lines p tally f)) here ∙ some

pub disordered : (shape : Shape) (p : ℕ) (tally : Tally) (bytes : List ℕ) (head : FrameHead) (outline : Outline)
    (fault : ScanFault)
    → IsHead shape bytes head → IsOutlineOf shape (kind_byte head.kind) (payload_in bytes) outline
    → IsOrderFault p tally outline fault
    → frame_fault shape p tally bytes ≡ Some fault
disordered shape p tally bytes head (Group growths records) fault is of at_fault = absurd at_fault
disordered shape p tally bytes head (Change runs records) fault is of at_fault = absurd at_fault
disordered shape p tally bytes head (Shrink n) fault is of at_fault =
    let kind : kind_in bytes ≡ 3 = sym is.kind ∙ sym of.kind_is in
    by_order shape p tally bytes head (frames.Shrink n) fault is
    (ap (λ k. is_layout shape k (payload_in bytes)) kind ∙ eq-eqb (length (payload_in bytes)) 8 (sym of.len))
    (ap (λ k. frame_in shape k (payload_in bytes)) kind ∙ ap (λ m. frames.Shrink m) of.number) at_fault
disordered shape p tally bytes head (Fold count) fault is of at_fault =
    let kind : kind_in bytes ≡ 4 = sym is.kind ∙ sym of.kind_is in
    by_order shape p tally bytes head (frames.Fold count) fault is
    (ap (λ k. is_layout shape k (payload_in bytes)) kind ∙ eq-eqb (length (payload_in bytes)) 8 (sym of.len))
    (ap (λ k. frame_in shape k (payload_in bytes)) kind ∙ ap (λ m. frames.Fold m) of.number) at_fault

-- ---- why a Shrink or a Fold may not come

pub shrinks_to_more : (p : ℕ) (tally : Tally) (n : ℕ) → tally.size < n → IsOrderFault p tally (Shrink n) (damaged (p + 6) Range)
shrinks_to_more p tally n more = finds_range p tally (frames.Shrink n) refl (lt-ltb _ _ more)

pub shrinks_unfolded : (p : ℕ) (tally : Tally) (n : ℕ) → n ≤ tally.size → tally.folded < tally.changes → IsOrderFault p tally (Shrink n) (damaged p Unfolded)
shrinks_unfolded p tally n less live = finds_unfolded p tally (frames.Shrink n) refl (le-ltb _ _ less) (lt-ltb _ _ live)

pub fold_falls : (p : ℕ) (tally : Tally) (count : ℕ) → count < tally.folded → IsOrderFault p tally (Fold count) (damaged (p + 6) FoldCount)
fold_falls p tally count falls = finds_fold_count p tally (frames.Fold count) refl refl refl (either_true _ _ (lt-ltb _ _ falls))
  where
    either_true : (a b : Bool) → a ≡ true → (a || b) ≡ true
    either_true true b is = refl
    either_true false b is = absurd cc

pub fold_passes : (p : ℕ) (tally : Tally) (count : ℕ) → tally.changes < count → IsOrderFault p tally (Fold count) (damaged (p + 6) FoldCount)
fold_passes p tally count passes = finds_fold_count p tally (frames.Fold count) refl refl refl (other_true _ _ (lt-ltb _ _ passes))
  where
    other_true : (a b : Bool) → b ≡ true → (a || b) ≡ true
    other_true true b is = refl
    other_true false b is = is
