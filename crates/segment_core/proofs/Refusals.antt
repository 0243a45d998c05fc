-- What is answered in place of a vector is the first fault.
use Rattle.std.proofs.Common.{◌≡◌, ℕ, true, List, ◌∷◌, length, drop, Option, Some, None, refl, sym, ap, subst, ◌∙◌, arith, inl, inr}
use Rattle.std.specs.Prelude.{MatchOption, not, nat_lt}
use Rattle.std.proofs.lemmas.Bool.{lt-ltb, ne_eqb}
use Rattle.std.proofs.lemmas.List.{drop_at}
use Rattle.record_core.specs.Bytes.{Encoding}
use Rattle.segment_core.specs.declared.fault.ScanFault.{ScanFault}
use Rattle.segment_core.specs.declared.fault.ScanFault.TheVariants.{Memory}
use Rattle.segment_core.specs.declared.format.Format.{Format}
use Rattle.segment_core.specs.declared.format.Shape.{Shape}
use Rattle.segment_core.specs.Shape.{shape_of, format_in}
use Rattle.segment_core.specs.Frame.{Frame, text}
use Rattle.segment_core.specs.Tally.{tally_of}
use Rattle.segment_core.specs.Image.{HasFrames, IsLongest}
use Rattle.segment_core.specs.Fault.{header_fault, IsSound, frame_fault, is_closed, IsBadRecord, IsFrameFault, IsRefused}
use Rattle.segment_core.proofs.Numbers.{true_both}
use Rattle.segment_core.proofs.Lines.{frame_fault_closed}
use Rattle.segment_core.proofs.Longest.{NoFrame_closed, is_longest}

pub at_some : {X : Type 0} (o : Option X) (x : X) (P : Type 0) (Q : X → Type 0) → o ≡ Some x → Q x → MatchOption o P Q
at_some {X} o x P Q is q = subst (λ (p : Option X). MatchOption p P Q) (sym is) q

pub at_none : {X : Type 0} (o : Option X) (P : Type 0) (Q : X → Type 0) → o ≡ None → P → MatchOption o P Q
at_none {X} o P Q is p = subst (λ (p : Option X). MatchOption p P Q) (sym is) p

pub refused_by_header : {R : Type 0} (form : Encoding R) (image : List ℕ) (fault : ScanFault) → header_fault form.width image ≡ Some fault → IsRefused form image fault
refused_by_header form image fault some =
    inl (at_some (header_fault form.width image) fault (IsFrameFault (format_in image) form image fault) (λ first. fault ≡ first) some refl)

refused_at : {R : Type 0} (form : Encoding R) (format : Format) (image : List ℕ) (fault : ScanFault)
    → IsSound form.width format image → IsFrameFault format form image fault
    → IsRefused form image fault
refused_at form format image fault sound found =
    inl
    (at_none (header_fault form.width image) (IsFrameFault (format_in image) form image fault)
    (λ first. fault ≡ first) sound.no_fault
    (subst (λ f. IsFrameFault f form image fault) (sym sound.names) found))

pub refused_by_frame : {R : Type 0} (form : Encoding R) (format : Format) (image : List ℕ) (frames : List Frame)
    (fault : ScanFault)
    → IsSound form.width format image
    → IsLongest (shape_of format form) image frames
    → frame_fault (shape_of format form) (length (text (shape_of format form) frames)) (tally_of frames) (drop (length (text (shape_of format form) frames)) image) ≡ Some fault
    → IsRefused form image fault
refused_by_frame form format image frames fault sound longest some =
    refused_at form format image fault sound (frames, longest, at_some _ fault (IsBadRecord format form image frames fault) (λ first. fault ≡ first) some refl)

pub refused_for_memory : {R : Type 0} (form : Encoding R) (format : Format) (image : List ℕ) (fault : ScanFault)
    → IsSound form.width format image → fault ≡ Memory
    → IsRefused form image fault
refused_for_memory form format image fault sound memory = inr (memory, sound.no_fault)

-- the gate that ends the frames
pub ends_closed : (shape : Shape) (image : List ℕ) (frames : List Frame) → HasFrames shape image frames → is_closed (drop (length (text shape frames)) image) ≡ true
ends_closed shape image frames has =
    let gate = has.closed in
    let left : drop (length (text shape frames)) image ≡ gate.0 ∷ gate.1
    = ap (drop (length (text shape frames))) gate.3
    ∙ drop_at (text shape frames) (gate.0 ∷ gate.1) (length (text shape frames)) refl in
    let some : nat_lt 0 (length (gate.0 ∷ gate.1)) ≡ true = lt-ltb 0 (length (gate.0 ∷ gate.1)) (omega arith) in
    ap is_closed left ∙ true_both _ _ some (ap not (ne_eqb gate.0 1 gate.2))

pub longest_closed : (shape : Shape) (image : List ℕ) (frames : List Frame) → HasFrames shape image frames → IsLongest shape image frames
longest_closed shape image frames has =
    let gate = has.closed in
    let left : drop (length (text shape frames)) image ≡ gate.0 ∷ gate.1
    = ap (drop (length (text shape frames))) gate.3
    ∙ drop_at (text shape frames) (gate.0 ∷ gate.1) (length (text shape frames)) refl in
    is_longest shape frames image (gate.0 ∷ gate.1) has.legal gate.3 (NoFrame_closed shape (tally_of frames) (gate.0 ∷ gate.1) (ap is_closed (sym left) ∙ ends_closed shape image frames has))

pub refused_by_record : {R : Type 0} (form : Encoding R) (format : Format) (image : List ℕ) (frames : List Frame)
    (fault : ScanFault)
    → IsSound form.width format image → HasFrames (shape_of format form) image frames
    → IsBadRecord format form image frames fault
    → IsRefused form image fault
refused_by_record form format image frames fault sound has bad =
    let shape : Shape = shape_of format form in
    refused_at form format image fault sound (
      frames,
      longest_closed shape image frames has,
      at_none _ (IsBadRecord format form image frames fault) (λ first. fault ≡ first)
          (frame_fault_closed shape (length (text shape frames)) (tally_of frames) (drop (length (text shape frames)) image) (ends_closed shape image frames has))
          bad,
    )
