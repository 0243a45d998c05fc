-- What is answered of an image that more bytes don't change.
use Rattle.std.proofs.Common.{◌≡◌, ◌≢◌, ℕ, zero, suc, ◌^◌, ◌≤◌, ◌<◌, List, [], ◌∷◌, ◌++◌, length, take, drop, Option, Some, None, refl, sym, ap, subst, ◌∙◌, append_assoc, arith, inl, inr}
use Rattle.std.specs.Prelude.{MatchOption, IsSome}
use Rattle.std.specs.List.{flat_map}
use Rattle.std.specs.Option.{option_and_then}
use Rattle.std.proofs.lemmas.List.{append-nil, append_cancel_left, length-append, length-drop, drop-append-le, take-append-le}
use Rattle.record_core.specs.Bytes.{Encoding}
use Rattle.segment_core.specs.declared.fault.Cause.{Cause}
use Rattle.segment_core.specs.declared.fault.Cause.TheVariants.{NoGate, ShortFrame, BadRecord}
use Rattle.segment_core.specs.declared.fault.ScanFault.{ScanFault}
use Rattle.segment_core.specs.declared.fault.ScanFault.TheVariants.{Memory}
use Rattle.segment_core.specs.declared.format.Format.{Format}
use Rattle.segment_core.specs.declared.format.Shape.{Shape}
use Rattle.segment_core.specs.declared.scanner.Scanner.{Scanner}
use Rattle.segment_core.specs.declared.tally.Tally.{Tally}
use Rattle.segment_core.specs.declared.vector.Scanned.{Scanned}
use Rattle.segment_core.specs.Shape.{version_of, shape_of, format_in}
use Rattle.segment_core.specs.Frame.{Frame, header, frame_text, text}
use Rattle.segment_core.specs.Tally.{nothing, after, tally_of, AreLegalFrom}
use Rattle.segment_core.specs.Image.{BeginsImage, HasFrames, IsLongest}
use Rattle.segment_core.specs.Vector.{place_of, record_in, record_at, IsVectorOf, HasVector}
use Rattle.segment_core.specs.Fault.{header_fault, IsSound, frame_fault, IsBadRecord, EndsWith, IsFrameFault, IsFirstFault, IsRefused, damaged}
use Rattle.segment_core.specs.Scanned.{IsScanOf}
use Rattle.segment_core.specs.Scanner.{GoesOn, HasEnded, IsRefusedFor, IsDecided, IsCutShort}
use Rattle.segment_core.proofs.Payload.{length-frame_text}
use Rattle.segment_core.proofs.Lines.{frame_fault_closed}
use Rattle.segment_core.proofs.Longest.{same_frame}
use Rattle.segment_core.proofs.PlaceOf.{place_of_between}
use Rattle.segment_core.proofs.Refusals.{at_none, ends_closed, longest_closed}
use Rattle.segment_core.proofs.OneVector.{from_none, one_list, sound_header, memory_alone}
use Rattle.segment_core.proofs.Fed.{sound_more, frames_more, is_whole, no_gate, short_frame}

-- ---- one first fault

-- lists that begin the same bytes and have texts of one length are one list
same_list : (shape : Shape) (tally : Tally) (frames others : List Frame) (rest more : List ℕ)
    → flat_map (frame_text shape.format) frames ++ rest ≡ flat_map (frame_text shape.format) others ++ more
    → AreLegalFrom shape tally frames
    → AreLegalFrom shape tally others
    → length (flat_map (frame_text shape.format) frames) ≡ length (flat_map (frame_text shape.format) others) → frames ≡ others
same_list shape tally [] [] rest more same legal legal' long = refl
same_list shape tally [] (other ∷ others) rest more same legal legal' long =
    let a = length-append (frame_text shape.format other) (flat_map (frame_text shape.format) others) in
    let b = length-frame_text shape.format other in
    absurd (omega arith)
same_list shape tally (frame ∷ frames) [] rest more same legal legal' long =
    let a = length-append (frame_text shape.format frame) (flat_map (frame_text shape.format) frames) in
    let b = length-frame_text shape.format frame in
    absurd (omega arith)
same_list shape tally (frame ∷ frames) (other ∷ others) rest more same legal legal' long =
    let joined : frame_text shape.format frame ++ (flat_map (frame_text shape.format) frames ++ rest)
    ≡ frame_text shape.format other ++ (flat_map (frame_text shape.format) others ++ more)
    = sym (append_assoc (frame_text shape.format frame) (flat_map (frame_text shape.format) frames) rest)
    ∙ same
    ∙ append_assoc (frame_text shape.format other) (flat_map (frame_text shape.format) others) more in
    let one = same_frame shape frame other (flat_map (frame_text shape.format) frames ++ rest) (flat_map (frame_text shape.format) others ++ more) legal.0 legal'.0 joined in
    let others_legal : AreLegalFrom shape (after tally frame) others = subst (λ f. AreLegalFrom shape (after tally f) others) (sym one.0) legal'.2 in
    let a = length-append (frame_text shape.format frame) (flat_map (frame_text shape.format) frames) in
    let b = length-append (frame_text shape.format other) (flat_map (frame_text shape.format) others) in
    let c : length (frame_text shape.format frame) ≡ length (frame_text shape.format other) = ap (λ f. length (frame_text shape.format f)) one.0 in
    ap (λ f. f ∷ frames) one.0 ∙ ap (λ (fs : List Frame). other ∷ fs) (same_list shape (after tally frame) frames others rest more one.1 legal.2 others_legal (omega arith))

-- the longest list is one
pub one_longest : (shape : Shape) (image : List ℕ) (frames others : List Frame) → IsLongest shape image frames → IsLongest shape image others → frames ≡ others
one_longest shape image frames others p q =
    let rest : List ℕ = p.begins.begins.0 in
    let more : List ℕ = q.begins.begins.0 in
    let a = length-append (header shape) (flat_map (frame_text shape.format) frames) in
    let b = length-append (header shape) (flat_map (frame_text shape.format) others) in
    let le = p.longest others q.begins in
    let ge = q.longest frames p.begins in
    let same : flat_map (frame_text shape.format) frames ++ rest ≡ flat_map (frame_text shape.format) others ++ more
    = append_cancel_left (header shape) _ _
    (sym (append_assoc (header shape) (flat_map (frame_text shape.format) frames) rest)
    ∙ sym p.begins.begins.1
    ∙ q.begins.begins.1
    ∙ append_assoc (header shape) (flat_map (frame_text shape.format) others) more) in
    same_list shape nothing frames others rest more same p.begins.legal q.begins.legal (omega arith)

none_is_some : {X : Type 0} (o : Option X) → o ≡ None → IsSome o → ⊥
none_is_some None none some = absurd cc
none_is_some (Some x) none some = absurd cc

one_bad : {R : Type 0} (format : Format) (form : Encoding R) (image : List ℕ) (frames : List Frame) (f g : ScanFault)
    → IsBadRecord format form image frames f → IsBadRecord format form image frames g
    → f ≡ g
one_bad format form image frames f g (i, p, bad, at, is) (j, q, bad', at', is') =
    let not_below : i < j → ⊥ = λ lt. none_is_some (record_at format form image frames i) bad.bad (bad'.before i lt) in
    let not_above : j < i → ⊥ = λ lt. none_is_some (record_at format form image frames j) bad'.bad (bad.before j lt) in
    let one : i ≡ j = omega arith in
    let here : Some p ≡ Some q = sym at ∙ ap (place_of (shape_of format form) frames) one ∙ at' in
    let place : p ≡ q = cc in
    is ∙ ap (λ (n : ℕ). damaged n BadRecord) place ∙ sym is'

from_some : {X : Type 0} (o : Option X) (x : X) (P : Type 0) (Q : X → Type 0) → o ≡ Some x → MatchOption o P Q → Q x
from_some {X} o x P Q is m = let P' : Option X → Type 0 = λ p. MatchOption p P Q in subst P' is m

-- the fault at the end of some frames is one
one_end : {R : Type 0} (format : Format) (form : Encoding R) (image : List ℕ) (frames : List Frame) (f g : ScanFault)
    → EndsWith format form image frames f → EndsWith format form image frames g
    → f ≡ g
one_end format form image frames f g p q = by_fault (frame_fault shape at (tally_of frames) (drop at image)) p q
  where
    shape : Shape
    shape = shape_of format form

    at : ℕ
    at = length (text shape frames)

    by_fault : (o : Option ScanFault)
        → MatchOption o (IsBadRecord format form image frames f) (λ first. f ≡ first)
        → MatchOption o (IsBadRecord format form image frames g) (λ first. g ≡ first)
        → f ≡ g
    by_fault None a b = one_bad format form image frames f g a b
    by_fault (Some first) a b = a ∙ sym b

-- an image has one first fault at most
pub one_fault : {R : Type 0} (form : Encoding R) (image : List ℕ) (f g : ScanFault) → IsFirstFault form image f → IsFirstFault form image g → f ≡ g
one_fault form image f g p q = by_header (header_fault form.width image) p q
  where
    format : Format
    format = format_in image

    by_header : (o : Option ScanFault)
        → MatchOption o (IsFrameFault format form image f) (λ first. f ≡ first)
        → MatchOption o (IsFrameFault format form image g) (λ first. g ≡ first)
        → f ≡ g
    by_header None (frames, longest, ends) (others, longest', ends') =
        let same = one_longest (shape_of format form) image others frames longest' longest in
        one_end format form image frames f g ends (subst (λ fs. EndsWith format form image fs g) same ends')
    by_header (Some first) a b = a ∙ sym b

-- ---- a fault that stays

no_vector : {R : Type 0} (form : Encoding R) (image : List ℕ) (fault : ScanFault) (scanned : Scanned R)
    → form.width < 2 ^ 16 → fault ≢ Memory → IsFirstFault form image fault → IsScanOf form image scanned
    → ⊥
no_vector form image fault scanned small other first scan = other (memory_alone scan.format form image scan.frames scanned.records.items fault small scan.vector (inl first))

stays_first : {R : Type 0} (form : Encoding R) (image : List ℕ) (fault : ScanFault) → fault ≢ Memory → IsRefused form image fault → IsFirstFault form image fault
stays_first form image fault other refused = elim refused [
  | inl first ↦ first
  | inr memory ↦ absurd (other memory.0)
]

pub decided_by_fault : {R : Type 0} (form : Encoding R) (image : List ℕ) (fault : ScanFault) → form.width < 2 ^ 16 → fault ≢ Memory → IsRefusedFor form image fault → IsDecided form image
decided_by_fault {R} form image fault small other refused = record {
  scans = λ more scanned. (λ scan. absurd (no_vector form (image ++ more) fault scanned small other (there more) scan), λ scan. absurd (no_vector form image fault scanned small other here scan));
  faults = λ more other. (
    (λ first. subst (IsFirstFault form image) (one_fault form (image ++ more) fault other (there more) first) here),
    λ first. subst (IsFirstFault form (image ++ more)) (one_fault form image fault other here first) (there more),
  );
}
  where
    there : (more : List ℕ) → IsFirstFault form (image ++ more) fault
    there more = stays_first form (image ++ more) fault other (refused more)

    here : IsFirstFault form image fault
    here = subst (λ (bs : List ℕ). IsFirstFault form bs fault) (append-nil image) (there [])

-- ---- frames that a closed gate has ended

-- what is known of both images: the frames are the same, and each position says the same
record SaysSame {R : Type 0} (format : Format) (form : Encoding R) (frames : List Frame) (image other : List ℕ) : Type 0 where
  sound : IsSound form.width format image
  framed : HasFrames (shape_of format form) image frames
  sound_again : IsSound form.width format other
  framed_again : HasFrames (shape_of format form) other frames
  same : (i : ℕ) → record_at format form other frames i ≡ record_at format form image frames i

turned : {R : Type 0} (format : Format) (form : Encoding R) (frames : List Frame) (image other : List ℕ) → SaysSame format form frames image other → SaysSame format form frames other image
turned format form frames image other says = record { sound = says.sound_again; framed = says.framed_again; sound_again = says.sound; framed_again = says.framed; same = λ i. sym (says.same i) }

bad_again : {R : Type 0} (format : Format) (form : Encoding R) (frames : List Frame) (image other : List ℕ)
    (fault : ScanFault)
    → SaysSame format form frames image other → IsBadRecord format form image frames fault
    → IsBadRecord format form other frames fault
bad_again format form frames image other fault says (i, place, bad, at, is) =
    (i, place, record { inside = bad.inside; bad = says.same i ∙ bad.bad; before = λ k lt. subst IsSome (sym (says.same k)) (bad.before k lt) }, at, is)

-- where a closed gate ends the frames, a first fault is a bad record
pub fault_of_record : {R : Type 0} (format : Format) (form : Encoding R) (frames : List Frame) (image : List ℕ)
    (fault : ScanFault)
    → IsSound form.width format image → HasFrames (shape_of format form) image frames → IsFirstFault form image fault
    → IsBadRecord format form image frames fault
fault_of_record format form frames image fault sound framed first =
    let shape : Shape = shape_of format form in
    let found =
    subst (λ f. IsFrameFault f form image fault) sound.names
    (from_none (header_fault form.width image) (IsFrameFault (format_in image) form image fault) (λ f. fault ≡ f) sound.no_fault first) in
    let same : frames ≡ found.0 = one_list shape image frames found.0 framed found.1 in
    let ends : EndsWith format form image frames fault = subst (λ fs. EndsWith format form image fs fault) (sym same) found.2 in
    from_none (frame_fault shape (length (text shape frames)) (tally_of frames) (drop (length (text shape frames)) image)) (IsBadRecord format form image frames fault) (λ f. fault ≡ f)
    (frame_fault_closed shape (length (text shape frames)) (tally_of frames) (drop (length (text shape frames)) image) (ends_closed shape image frames framed)) ends

pub fault_by_record : {R : Type 0} (format : Format) (form : Encoding R) (frames : List Frame) (image : List ℕ)
    (fault : ScanFault)
    → IsSound form.width format image → HasFrames (shape_of format form) image frames
    → IsBadRecord format form image frames fault
    → IsFirstFault form image fault
fault_by_record format form frames image fault sound framed bad =
    let shape : Shape = shape_of format form in
    let ends : EndsWith format form image frames fault
    = at_none _ (IsBadRecord format form image frames fault) (λ first. fault ≡ first)
    (frame_fault_closed shape (length (text shape frames)) (tally_of frames) (drop (length (text shape frames)) image) (ends_closed shape image frames framed))
    bad in
    let found : IsFrameFault format form image fault = (frames, longest_closed shape image frames framed, ends) in
    at_none (header_fault form.width image) (IsFrameFault (format_in image) form image fault) (λ first. fault ≡ first)
    sound.no_fault (subst (λ f. IsFrameFault f form image fault) (sym sound.names) found)

fault_again : {R : Type 0} (format : Format) (form : Encoding R) (frames : List Frame) (image other : List ℕ)
    (fault : ScanFault)
    → SaysSame format form frames image other → IsFirstFault form image fault
    → IsFirstFault form other fault
fault_again format form frames image other fault says first =
    fault_by_record format form frames other fault says.sound_again says.framed_again
    (bad_again format form frames image other fault says (fault_of_record format form frames image fault says.sound says.framed first))

scan_again : {R : Type 0} (format : Format) (form : Encoding R) (frames : List Frame) (image other : List ℕ)
    (scanned : Scanned R)
    → form.width < 2 ^ 16 → SaysSame format form frames image other → IsScanOf form image scanned
    → IsScanOf form other scanned
scan_again {R} format form frames image other scanned small says scan = record {
  format = format;
  frames = frames;
  vector = record { framed = says.framed_again; read = record { size = read.size; each = λ i lt. says.same i ∙ read.each i lt } };
  version_is = subst (λ f. scanned.version ≡ version_of f) one scan.version_is;
  width_is = scan.width_is;
  frames_are = subst (λ (fs : List Frame). scanned.frames ≡ length fs) same scan.frames_are;
  changes_are = subst (λ fs. scanned.changes ≡ (tally_of fs).changes) same scan.changes_are;
  folded_is = subst (λ fs. scanned.folded ≡ (tally_of fs).folded) same scan.folded_is;
  gate_is = subst (λ f. scanned.gate ≡ length (text (shape_of f form) frames)) one (subst (λ fs. scanned.gate ≡ length (text (shape_of scan.format form) fs)) same scan.gate_is);
}
  where
    one : scan.format ≡ format
    one = sym (sound_header scan.format form.width image scan.frames small scan.vector.framed).names ∙ says.sound.names

    here : HasVector format form image scan.frames scanned.records.items
    here = subst (λ f. HasVector f form image scan.frames scanned.records.items) one scan.vector

    same : scan.frames ≡ frames
    same = one_list (shape_of format form) image scan.frames frames here.framed (longest_closed (shape_of format form) image frames says.framed)

    read : IsVectorOf format form image frames scanned.records.items
    read = subst (λ fs. IsVectorOf format form image fs scanned.records.items) same here.read

-- bytes behind the frames say nothing of a position
record_more : {R : Type 0} (format : Format) (form : Encoding R) (frames : List Frame) (image more : List ℕ)
    → BeginsImage (shape_of format form) image frames → (i : ℕ)
    → record_at format form (image ++ more) frames i ≡ record_at format form image frames i
record_more format form frames image more begins i = by_place (place_of shape frames i) refl
  where
    shape : Shape
    shape = shape_of format form

    by_place : (o : Option ℕ) → place_of shape frames i ≡ o → option_and_then (record_in form (image ++ more)) o ≡ option_and_then (record_in form image) o
    by_place None is = refl
    by_place (Some place) is =
        let b = place_of_between shape frames i place begins.legal is in
        let len = ap length begins.begins.1 ∙ length-append (text shape frames) begins.begins.0 in
        let enough : form.width ≤ length (drop place image) = omega (arith, b.to, length-drop place image) in
        ap form.value_of (ap (take form.width) (drop-append-le place image more (omega (arith, b.to))) ∙ take-append-le form.width (drop place image) more enough)

pub decided_by_gate : {R : Type 0} (format : Format) (form : Encoding R) (frames : List Frame) (image : List ℕ)
    → form.width < 2 ^ 16 → IsSound form.width format image → HasFrames (shape_of format form) image frames
    → IsDecided form image
decided_by_gate {R} format form frames image small sound framed = record {
  scans =
      λ more scanned. (
        scan_again format form frames (image ++ more) image scanned small
            (turned format form frames image (image ++ more) (says more)),
        scan_again format form frames image (image ++ more) scanned small (says more),
      );
  faults =
      λ more fault. (
        fault_again format form frames (image ++ more) image fault
            (turned format form frames image (image ++ more) (says more)),
        fault_again format form frames image (image ++ more) fault (says more),
      );
}
  where
    says : (more : List ℕ) → SaysSame format form frames image (image ++ more)
    says more = record {
      sound = sound;
      framed = framed;
      sound_again = sound_more form.width format image more sound;
      framed_again = frames_more (shape_of format form) image more frames framed;
      same = record_more format form frames image more (longest_closed (shape_of format form) image frames framed).begins;
    }

pub decided_at_end : {R : Type 0} (form : Encoding R) (image : List ℕ) (scanner : Scanner R) → form.width < 2 ^ 16 → HasEnded form image scanner → IsDecided form image
decided_at_end form image scanner small ended =
    let whole = is_whole form image scanner ended in
    decided_by_gate scanner.walk.shape.format form ended.frames image small whole.sound whole.framed

-- ---- an image that is cut short

pub cut_first : {R : Type 0} (form : Encoding R) (image : List ℕ) (p : ℕ) (cause : Cause) → IsRefused form image (damaged p cause) → IsFirstFault form image (damaged p cause)
cut_first form image p cause refused = elim refused [
  | inl first ↦ first
  | inr memory ↦ (let clash : damaged p cause ≡ Memory = memory.0 in absurd cc)
]

pub cut_short : {R : Type 0} (form : Encoding R) (image : List ℕ) (scanner : Scanner R) → GoesOn form image scanner → IsCutShort form image
cut_short form image scanner on = by_pending (length scanner.pending.items) refl
  where
    by_pending : (n : ℕ) → length scanner.pending.items ≡ n → IsCutShort form image
    by_pending zero is = inr (scanner.walk.at, inl (cut_first form image scanner.walk.at NoGate (no_gate form image scanner on is)))
    by_pending (suc n) is = inr (scanner.walk.at, inr (cut_first form image scanner.walk.at ShortFrame (short_frame form image scanner on (omega arith))))
