-- Frames that end where no frame follows are the longest list that begins the image.
use Rattle.std.proofs.Common.{◌≡◌, ℕ, ◌≤◌, true, false, List, [], ◌∷◌, ◌++◌, length, Some, None, refl, sym, ap, subst, ◌∙◌, append_assoc, arith}
use Rattle.std.specs.List.{flat_map}
use Rattle.std.proofs.lemmas.List.{append_cancel_left, length-append}
use Rattle.segment_core.specs.declared.fault.ScanFault.{ScanFault}
use Rattle.segment_core.specs.declared.format.Shape.{Shape}
use Rattle.segment_core.specs.declared.tally.Tally.{Tally}
use Rattle.segment_core.specs.Frame.{Frame, header, frame_text, text}
use Rattle.segment_core.specs.Layout.{IsFrame, frame_in}
use Rattle.segment_core.specs.Tally.{nothing, after, tally_from, tally_of, MayFollow, AreLegalFrom, AreLegal}
use Rattle.segment_core.specs.Image.{IsLongest}
use Rattle.segment_core.specs.Fault.{frame_fault, is_closed, kind_in, payload_in}
use Rattle.segment_core.proofs.Payload.{frame_in-frame_text}
use Rattle.segment_core.proofs.Lines.{frame_fault-frame_text, is_closed-frame_text}

-- no frame may follow what has this tally, and begin these bytes
abbrev pub NoFrame : Shape → Tally → List ℕ → Type 0
NoFrame shape tally bytes = (frame : Frame) (rest : List ℕ) → IsFrame shape frame → MayFollow tally frame → bytes ≡ frame_text shape.format frame ++ rest → ⊥

pub NoFrame_fault : (shape : Shape) (p : ℕ) (tally : Tally) (bytes : List ℕ) (fault : ScanFault) → frame_fault shape p tally bytes ≡ Some fault → NoFrame shape tally bytes
NoFrame_fault shape p tally bytes fault some frame rest whole may is =
    let none : frame_fault shape p tally bytes ≡ None = ap (frame_fault shape p tally) is ∙ frame_fault-frame_text shape p tally frame rest whole may in
    let clash : Some fault ≡ None = sym some ∙ none in
    absurd cc

pub NoFrame_closed : (shape : Shape) (tally : Tally) (bytes : List ℕ) → is_closed bytes ≡ true → NoFrame shape tally bytes
NoFrame_closed shape tally bytes closed frame rest whole may is =
    let opened : is_closed bytes ≡ false = ap is_closed is ∙ is_closed-frame_text shape.format frame rest in
    let clash : true ≡ false = sym closed ∙ opened in
    absurd cc

-- bytes begin with one frame at most
pub same_frame : (shape : Shape) (one other : Frame) (a b : List ℕ)
    → IsFrame shape one → IsFrame shape other → frame_text shape.format one ++ a ≡ frame_text shape.format other ++ b
    → (one ≡ other) × (a ≡ b)
same_frame shape one other a b p q same =
    let is : one ≡ other = sym (frame_in-frame_text shape one a p) ∙ ap (λ (bs : List ℕ). frame_in shape (kind_in bs) (payload_in bs)) same ∙ frame_in-frame_text shape other b q in
    (is, append_cancel_left (frame_text shape.format one) a b (same ∙ ap (λ f. frame_text shape.format f ++ b) (sym is)))

longest_from : (shape : Shape) (tally : Tally) (frames others : List Frame) (image rest more : List ℕ)
    → image ≡ flat_map (frame_text shape.format) frames ++ rest
    → image ≡ flat_map (frame_text shape.format) others ++ more
    → AreLegalFrom shape tally frames
    → AreLegalFrom shape tally others → NoFrame shape (tally_from tally frames) rest
    → length (flat_map (frame_text shape.format) others) ≤ length (flat_map (frame_text shape.format) frames)
longest_from shape tally frames [] image rest more p q legal legal' none = omega arith
longest_from shape tally [] (other ∷ others) image rest more p q legal legal' none =
    absurd
    (none other (flat_map (frame_text shape.format) others ++ more) legal'.0 legal'.1
    (sym p ∙ q ∙ append_assoc (frame_text shape.format other) (flat_map (frame_text shape.format) others) more))
longest_from shape tally (frame ∷ frames) (other ∷ others) image rest more p q legal legal' none =
    let same : frame_text shape.format frame ++ (flat_map (frame_text shape.format) frames ++ rest)
    ≡ frame_text shape.format other ++ (flat_map (frame_text shape.format) others ++ more)
    = sym (append_assoc (frame_text shape.format frame) (flat_map (frame_text shape.format) frames) rest)
    ∙ sym p
    ∙ q
    ∙ append_assoc (frame_text shape.format other) (flat_map (frame_text shape.format) others) more in
    let one = same_frame shape frame other (flat_map (frame_text shape.format) frames ++ rest) (flat_map (frame_text shape.format) others ++ more) legal.0 legal'.0 same in
    let legal'' : AreLegalFrom shape (after tally frame) others = subst (λ f. AreLegalFrom shape (after tally f) others) (sym one.0) legal'.2 in
    let shorter = longest_from shape (after tally frame) frames others (flat_map (frame_text shape.format) frames ++ rest) rest more refl one.1 legal.2 legal'' none in
    let a = length-append (frame_text shape.format frame) (flat_map (frame_text shape.format) frames) in
    let b = length-append (frame_text shape.format other) (flat_map (frame_text shape.format) others) in
    let c : length (frame_text shape.format frame) ≡ length (frame_text shape.format other) = ap (λ f. length (frame_text shape.format f)) one.0 in
    omega arith

behind_header : (shape : Shape) (frames : List Frame) (image rest : List ℕ) → image ≡ text shape frames ++ rest → image ≡ header shape ++ (flat_map (frame_text shape.format) frames ++ rest)
behind_header shape frames image rest is = is ∙ append_assoc (header shape) (flat_map (frame_text shape.format) frames) rest

pub is_longest : (shape : Shape) (frames : List Frame) (image rest : List ℕ)
    → AreLegal shape frames → image ≡ text shape frames ++ rest → NoFrame shape (tally_of frames) rest
    → IsLongest shape image frames
is_longest shape frames image rest legal is none = record {
  begins = record { legal = legal; begins = (rest, is) };
  longest = λ others begins. (
      let same : flat_map (frame_text shape.format) frames ++ rest
      ≡ flat_map (frame_text shape.format) others ++ begins.begins.0
      = append_cancel_left (header shape) _ _ (sym (behind_header shape frames image rest is) ∙ behind_header shape others image begins.begins.0 begins.begins.1) in
      let shorter = longest_from shape nothing frames others (flat_map (frame_text shape.format) frames ++ rest) rest begins.begins.0 refl same legal begins.legal none in
      let a = length-append (header shape) (flat_map (frame_text shape.format) frames) in
      let b = length-append (header shape) (flat_map (frame_text shape.format) others) in
      omega arith);
}
