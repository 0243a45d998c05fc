-- A frame with other records in place of its own: all that it says but these stays.
use Rattle.std.proofs.Common.{◌≡◌, ℕ, ◌+◌, ◌≤◌, List, [], ◌∷◌, ◌++◌, length, take, drop, refl, sym, ap, subst, ◌∙◌, append_assoc, arith}
use Rattle.std.specs.Int.{w32, to_le_bytes}
use Rattle.std.proofs.lemmas.List.{length-take-le, take-append-drop}
use Rattle.segment_core.specs.declared.format.Format.{Format}
use Rattle.segment_core.specs.declared.format.Shape.{Shape}
use Rattle.segment_core.specs.declared.tally.Tally.{Tally}
use Rattle.segment_core.specs.Shape.{limit_of}
use Rattle.segment_core.specs.Frame.{Frame, Group, Change, Shrink, Fold, kind_of, payload_of, frame_text}
use Rattle.segment_core.specs.Layout.{IsFrame, HasLayout}
use Rattle.segment_core.specs.Tally.{MayFollow, after}
use Rattle.segment_core.specs.Fault.{order_lines}
use Rattle.segment_core.specs.Reading.{BeginsWith, record_bytes_of, head_len}
use Rattle.segment_core.specs.FrameWalk.{with_records}
use Rattle.segment_core.proofs.FrameParts.{head_text, front_text, frame_parts, length-payload_of}

pub after-with_records : (t : Tally) (f : Frame) (new : List ℕ) → after t (with_records f new) ≡ after t f
after-with_records t (Group lengths bytes) new = refl
after-with_records t (Change runs bytes) new = refl
after-with_records t (Shrink n) new = refl
after-with_records t (Fold count) new = refl

pub MayFollow-with_records : (t : Tally) (f : Frame) (new : List ℕ) → MayFollow t f → MayFollow t (with_records f new)
MayFollow-with_records t (Group lengths bytes) new may = record { ordered = may.ordered; inside = may.inside; folded = may.folded; counted = may.counted; short = may.short }
MayFollow-with_records t (Change runs bytes) new may = record { ordered = may.ordered; inside = may.inside; folded = may.folded; counted = may.counted; short = may.short }
MayFollow-with_records t (Shrink n) new may = may
MayFollow-with_records t (Fold count) new may = may

pub order_lines-with_records : (p : ℕ) (t : Tally) (f : Frame) (new : List ℕ) → order_lines p t (with_records f new) ≡ order_lines p t f
unfolding order_lines
order_lines-with_records p t (Group lengths bytes) new = refl
order_lines-with_records p t (Change runs bytes) new = refl
order_lines-with_records p t (Shrink n) new = refl
order_lines-with_records p t (Fold count) new = refl

no_bytes : (xs : List ℕ) → length xs ≡ 0 → xs ≡ []
no_bytes [] none = refl
no_bytes (x ∷ xs) none = absurd (omega arith)

-- ---- as many bytes

record_bytes_of-with_records : (f : Frame) (new : List ℕ) → length new ≡ length (record_bytes_of f) → record_bytes_of (with_records f new) ≡ new
record_bytes_of-with_records (Group lengths bytes) new same = refl
record_bytes_of-with_records (Change runs bytes) new same = refl
record_bytes_of-with_records (Shrink n) new same = sym (no_bytes new same)
record_bytes_of-with_records (Fold count) new same = sym (no_bytes new same)

head_text-with_records : (format : Format) (f : Frame) (new : List ℕ) → head_text format (with_records f new) ≡ head_text format f
head_text-with_records format (Group lengths bytes) new = refl
head_text-with_records format (Change runs bytes) new = refl
head_text-with_records format (Shrink n) new = refl
head_text-with_records format (Fold count) new = refl

head_len-with_records : (format : Format) (f : Frame) (new : List ℕ) → head_len format (with_records f new) ≡ head_len format f
head_len-with_records format (Group lengths bytes) new = refl
head_len-with_records format (Change runs bytes) new = refl
head_len-with_records format (Shrink n) new = refl
head_len-with_records format (Fold count) new = refl

kind_of-with_records : (f : Frame) (new : List ℕ) → kind_of (with_records f new) ≡ kind_of f
kind_of-with_records (Group lengths bytes) new = refl
kind_of-with_records (Change runs bytes) new = refl
kind_of-with_records (Shrink n) new = refl
kind_of-with_records (Fold count) new = refl

module _ (format : Format) (f : Frame) (new : List ℕ) (same : length new ≡ length (record_bytes_of f)) where
  pub length-payload-with_records : length (payload_of format (with_records f new)) ≡ length (payload_of format f)
  length-payload-with_records =
      length-payload_of format (with_records f new)
      ∙ ap (λ n. n + length (record_bytes_of (with_records f new))) (head_len-with_records format f new)
      ∙ ap (λ (bs : List ℕ). head_len format f + length bs) (record_bytes_of-with_records f new same)
      ∙ ap (λ n. head_len format f + n) same
      ∙ sym (length-payload_of format f)

  front_text-with_records : front_text format (with_records f new) ≡ front_text format f
  front_text-with_records =
      ap (λ n. (1 ∷ kind_of (with_records f new) ∷ to_le_bytes w32 n) ++ head_text format (with_records f new)) length-payload-with_records
      ∙ ap (λ n. (1 ∷ n ∷ to_le_bytes w32 (length (payload_of format f))) ++ head_text format (with_records f new)) (kind_of-with_records f new)
      ∙ ap (λ (bs : List ℕ). (1 ∷ kind_of f ∷ to_le_bytes w32 (length (payload_of format f))) ++ bs) (head_text-with_records format f new)

  frame_text-with_records : frame_text format (with_records f new) ≡ front_text format f ++ new
  frame_text-with_records =
      frame_parts format (with_records f new)
      ∙ ap (λ (bs : List ℕ). bs ++ record_bytes_of (with_records f new)) front_text-with_records
      ∙ ap (λ (bs : List ℕ). front_text format f ++ bs) (record_bytes_of-with_records f new same)

layout-with_records : (shape : Shape) (f : Frame) (new : List ℕ) → length new ≡ length (record_bytes_of f) → HasLayout shape f → HasLayout shape (with_records f new)
layout-with_records shape (Group lengths bytes) new same layout = (layout.0, layout.1, same ∙ layout.2)
layout-with_records shape (Change runs bytes) new same layout = (layout.0, layout.1, same ∙ layout.2)
layout-with_records shape (Shrink n) new same layout = layout
layout-with_records shape (Fold count) new same layout = layout

IsFrame-with_records : (shape : Shape) (f : Frame) (new : List ℕ) → length new ≡ length (record_bytes_of f) → IsFrame shape f → IsFrame shape (with_records f new)
IsFrame-with_records shape f new same whole = record {
  wide = whole.wide;
  small = subst (λ n. n ≤ limit_of shape.format) (sym (length-payload-with_records shape.format f new same)) whole.small;
  layout = layout-with_records shape f new same whole.layout;
}

-- what stands before its records begins a frame, with the bytes behind it for its records
pub begins_with_records : (shape : Shape) (f : Frame) (rest : List ℕ) → IsFrame shape f → length (record_bytes_of f) ≤ length rest
    → BeginsWith shape (front_text shape.format f ++ rest) (with_records f (take (length (record_bytes_of f)) rest))
begins_with_records shape f rest whole long =
    let m : ℕ = length (record_bytes_of f) in
    let new : List ℕ = take m rest in
    let same : length new ≡ length (record_bytes_of f) = length-take-le m rest long in
    record {
      whole = IsFrame-with_records shape f new same whole;
      text = (
        drop m rest,
        ap (λ (bs : List ℕ). front_text shape.format f ++ bs) (sym (take-append-drop m rest))
            ∙ sym (append_assoc (front_text shape.format f) new (drop m rest))
            ∙ ap (λ (bs : List ℕ). bs ++ drop m rest) (sym (frame_text-with_records shape.format f new same)),
      );
    }
