-- What holds of the table of faults.
use Rattle.std.proofs.Common.{◌≡◌, ℕ, zero, suc, ◌+◌, ◌≤◌, Bool, true, false, cond, List, [], ◌∷◌, ◌++◌, length, Some, None, refl, ap, ◌∙◌, arith}
use Rattle.std.specs.Prelude.{not, nat_lt}
use Rattle.std.proofs.lemmas.Bool.{not_from_true, le-ltb, ne_eqb}
use Rattle.std.proofs.lemmas.List.{length-append}
use Rattle.segment_core.specs.declared.fault.ScanFault.{ScanFault}
use Rattle.segment_core.specs.declared.format.Format.{Format}
use Rattle.segment_core.specs.declared.format.Shape.{Shape}
use Rattle.segment_core.specs.declared.tally.Tally.{Tally}
use Rattle.segment_core.specs.Shape.{limit_of}
use Rattle.segment_core.specs.Frame.{Frame, Group, Change, Shrink, Fold, kind_of, payload_of, frame_text}
use Rattle.segment_core.specs.Layout.{IsFrame, is_layout, frame_in}
use Rattle.segment_core.specs.Tally.{MayFollow}
use Rattle.segment_core.specs.Fault.{is_kind, first_line, frame_lines, order_lines, frame_fault, is_closed, kind_in, payload_len_in, payload_in}
use Rattle.segment_core.proofs.Numbers.{second_false}
use Rattle.segment_core.proofs.Payload.{is_layout-payload_of, payload_len_in-frame_text, payload_in-frame_text, length-frame_text, small_payload, frame_in-frame_text}

pub first_line-append : (lines more : List (Bool × ScanFault)) → first_line lines ≡ None → first_line (lines ++ more) ≡ first_line more
first_line-append [] more none = refl
first_line-append ((true, fault) ∷ lines) more none = absurd cc
first_line-append ((false, fault) ∷ lines) more none = first_line-append lines more none

pub first_line-append_some : (lines more : List (Bool × ScanFault)) (fault : ScanFault) → first_line lines ≡ Some fault → first_line (lines ++ more) ≡ Some fault
first_line-append_some [] more fault some = absurd cc
first_line-append_some ((true, first) ∷ lines) more fault some = some
first_line-append_some ((false, first) ∷ lines) more fault some = first_line-append_some lines more fault some

-- no line holds
abbrev pub AreSilent : List (Bool × ScanFault) → Type 0
AreSilent [] = Unit {0}
AreSilent (line ∷ lines) = (line.0 ≡ false) × AreSilent lines

pub first_line_silent : (lines : List (Bool × ScanFault)) → AreSilent lines → first_line lines ≡ None
first_line_silent [] silent = refl
first_line_silent ((true, fault) ∷ lines) silent = let e = silent.0 in absurd cc
first_line_silent ((false, fault) ∷ lines) silent = first_line_silent lines silent.1

is_kind-kind_of : (frame : Frame) → is_kind (kind_of frame) ≡ true
is_kind-kind_of (Group lengths bytes) = refl
is_kind-kind_of (Change runs bytes) = refl
is_kind-kind_of (Shrink n) = refl
is_kind-kind_of (Fold count) = refl

-- no line holds of a frame that keeps the rules
pub frame_lines-frame_text : (shape : Shape) (p : ℕ) (frame : Frame) (rest : List ℕ) → IsFrame shape frame → first_line (frame_lines shape p (frame_text shape.format frame ++ rest)) ≡ None
unfolding frame_lines
frame_lines-frame_text shape p frame rest whole =
    let bytes : List ℕ = frame_text shape.format frame ++ rest in
    let len : length bytes ≡ 6 + length (payload_of shape.format frame) + length rest
    = length-append (frame_text shape.format frame) rest
    ∙ ap (λ n. n + length rest) (length-frame_text shape.format frame) in
    let claimed : payload_len_in bytes ≡ length (payload_of shape.format frame) = payload_len_in-frame_text shape.format frame rest (small_payload shape frame whole) in
    let small : length (payload_of shape.format frame) ≤ limit_of shape.format = whole.small in
    let formed : is_layout shape (kind_in bytes) (payload_in bytes) ≡ true
    = ap (is_layout shape (kind_of frame)) (payload_in-frame_text shape.format frame rest (small_payload shape frame whole))
    ∙ is_layout-payload_of shape frame whole in
    first_line_silent (frame_lines shape p bytes) (
      ne_eqb (length bytes) 0 (λ (none : length bytes ≡ 0). absurd (omega arith)),
      (
        le-ltb (length bytes) 6 (omega arith),
        (
          ap not (is_kind-kind_of frame),
          (
            le-ltb (limit_of shape.format) (payload_len_in bytes) (omega arith),
            (
              le-ltb (length bytes) (6 + payload_len_in bytes) (omega arith),
              (not_from_true _ formed, tt),
            ),
          ),
        ),
      ),
    )

pub order_lines-may_follow : (p : ℕ) (tally : Tally) (frame : Frame) → MayFollow tally frame → first_line (order_lines p tally frame) ≡ None
unfolding order_lines
order_lines-may_follow p tally frame may = first_line_silent (order_lines p tally frame) (may.ordered, (may.inside, (may.folded, (may.counted, (may.short, tt)))))

-- the gate of a frame is open
pub is_closed-frame_text : (format : Format) (frame : Frame) (rest : List ℕ) → is_closed (frame_text format frame ++ rest) ≡ false
is_closed-frame_text format frame rest = second_false (nat_lt 0 (length (frame_text format frame ++ rest))) false refl

pub frame_fault-frame_text : (shape : Shape) (p : ℕ) (tally : Tally) (frame : Frame) (rest : List ℕ)
    → IsFrame shape frame → MayFollow tally frame
    → frame_fault shape p tally (frame_text shape.format frame ++ rest) ≡ None
unfolding frame_fault
frame_fault-frame_text shape p tally frame rest whole may =
    let bytes : List ℕ = frame_text shape.format frame ++ rest in
    let here : frame_in shape (kind_in bytes) (payload_in bytes) ≡ frame = frame_in-frame_text shape frame rest whole in
    let order : first_line (order_lines p tally (frame_in shape (kind_in bytes) (payload_in bytes))) ≡ None
    = ap (λ f. first_line (order_lines p tally f)) here ∙ order_lines-may_follow p tally frame may in
    let all :
    first_line (frame_lines shape p bytes ++ order_lines p tally (frame_in shape (kind_in bytes) (payload_in bytes)))
    ≡ None
    = first_line-append (frame_lines shape p bytes) _ (frame_lines-frame_text shape p frame rest whole) ∙ order in
    ap (λ b. cond b None (first_line (frame_lines shape p bytes ++ order_lines p tally (frame_in shape (kind_in bytes) (payload_in bytes))))) (is_closed-frame_text shape.format frame rest) ∙ all

-- where a line on the frame by itself holds, it is the fault
pub frame_fault_from_lines : (shape : Shape) (p : ℕ) (tally : Tally) (bytes : List ℕ) (fault : ScanFault)
    → is_closed bytes ≡ false → first_line (frame_lines shape p bytes) ≡ Some fault
    → frame_fault shape p tally bytes ≡ Some fault
unfolding frame_fault
frame_fault_from_lines shape p tally bytes fault opened some =
    let order : List (Bool × ScanFault) = order_lines p tally (frame_in shape (kind_in bytes) (payload_in bytes)) in
    ap (λ b. cond b None (first_line (frame_lines shape p bytes ++ order))) opened ∙ first_line-append_some (frame_lines shape p bytes) order fault some

-- where the frame is whole and a line on its order holds, that is the fault
pub frame_fault_from_order : (shape : Shape) (p : ℕ) (tally : Tally) (frame : Frame) (rest : List ℕ)
    (fault : ScanFault)
    → IsFrame shape frame → first_line (order_lines p tally frame) ≡ Some fault
    → frame_fault shape p tally (frame_text shape.format frame ++ rest) ≡ Some fault
unfolding frame_fault
frame_fault_from_order shape p tally frame rest fault whole some =
    let bytes : List ℕ = frame_text shape.format frame ++ rest in
    let order : List (Bool × ScanFault) = order_lines p tally (frame_in shape (kind_in bytes) (payload_in bytes)) in
    let here : frame_in shape (kind_in bytes) (payload_in bytes) ≡ frame = frame_in-frame_text shape frame rest whole in
    ap (λ b. cond b None (first_line (frame_lines shape p bytes ++ order))) (is_closed-frame_text shape.format frame rest)
    ∙ first_line-append (frame_lines shape p bytes) order (frame_lines-frame_text shape p frame rest whole)
    ∙ ap (λ f. first_line (order_lines p tally f)) here ∙ some

pub frame_fault_closed : (shape : Shape) (p : ℕ) (tally : Tally) (bytes : List ℕ) → is_closed bytes ≡ true → frame_fault shape p tally bytes ≡ None
unfolding frame_fault
frame_fault_closed shape p tally bytes closed = ap (λ b. cond b None (first_line (frame_lines shape p bytes ++ order_lines p tally (frame_in shape (kind_in bytes) (payload_in bytes))))) closed

-- the first line that holds is the one at n
abbrev pub IsFirstAt : ℕ → List (Bool × ScanFault) → ScanFault → Type 0
IsFirstAt n [] fault = ⊥
IsFirstAt zero (line ∷ lines) fault = (line.0 ≡ true) × (line.1 ≡ fault)
IsFirstAt (suc n) (line ∷ lines) fault = (line.0 ≡ false) × IsFirstAt n lines fault

pub first_line_at : (n : ℕ) (lines : List (Bool × ScanFault)) (fault : ScanFault) → IsFirstAt n lines fault → first_line lines ≡ Some fault
first_line_at n [] fault at = absurd at
first_line_at zero ((test, first) ∷ lines) fault at = ap (λ b. cond b (Some first) (first_line lines)) at.0 ∙ ap Some at.1
first_line_at (suc n) ((test, first) ∷ lines) fault at = ap (λ b. cond b (Some first) (first_line lines)) at.0 ∙ first_line_at n lines fault at.1
