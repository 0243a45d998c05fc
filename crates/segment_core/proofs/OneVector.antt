-- An image has at most one format, one list of frames and one vector, and where it has one, no fault.
use Rattle.std.proofs.Common.{◌≡◌, ◌≢◌, ℕ, zero, suc, ◌^◌, ◌≤◌, ◌<◌, List, [], ◌∷◌, ◌++◌, length, drop, get_or, Option, None, Result, Ok, Err, refl, sym, ap, subst, ◌∙◌, append_assoc, arith, inl, inr}
use Rattle.std.specs.Prelude.{slice_get, MatchOption, MatchResult}
use Rattle.std.specs.List.{flat_map}
use Rattle.std.specs.Int.{w16, to_le_bytes, from_le_bytes}
use Rattle.std.proofs.lemmas.List.{append-nil, append_cancel_left, length-append}
use Rattle.std.proofs.lemmas.List.Concat.{flat_map-append}
use Rattle.std.proofs.lemmas.Nat.{from_le_bytes-to_le_bytes_2}
use Rattle.record_core.specs.Bytes.{Encoding}
use Rattle.segment_core.specs.declared.fault.ScanFault.{ScanFault}
use Rattle.segment_core.specs.declared.fault.ScanFault.TheVariants.{Memory}
use Rattle.segment_core.specs.declared.format.Format.{Format}
use Rattle.segment_core.specs.declared.format.Shape.{Shape}
use Rattle.segment_core.specs.declared.tally.Tally.{Tally}
use Rattle.segment_core.specs.declared.vector.Scanned.{Scanned}
use Rattle.segment_core.specs.Shape.{version_of, shape_of, format_in}
use Rattle.segment_core.specs.Frame.{Frame, header, frame_text, text}
use Rattle.segment_core.specs.Tally.{nothing, after, tally_of, AreLegalFrom}
use Rattle.segment_core.specs.Image.{HasFrames, IsLongest}
use Rattle.segment_core.specs.Vector.{IsVectorOf, HasVector}
use Rattle.segment_core.specs.Fault.{header_fault, IsSound, frame_fault, IsBadRecord, EndsWith, IsFrameFault, IsRefused}
use Rattle.segment_core.specs.Scanned.{IsScanOf}
use Rattle.segment_core.proofs.Payload.{length-frame_text}
use Rattle.segment_core.proofs.Lines.{frame_fault_closed}
use Rattle.segment_core.proofs.Longest.{same_frame}
use Rattle.segment_core.proofs.Header.{IsSegment, finds_none, format_known, is_version-version_of}
use Rattle.segment_core.proofs.Refusals.{ends_closed, longest_closed}

-- ---- one list of frames

-- every list that begins the bytes is a front of the one that ends at a closed gate
is_front : (shape : Shape) (tally : Tally) (frames others : List Frame) (gate : ℕ) (rest more : List ℕ)
    → gate ≢ 1
    → flat_map (frame_text shape.format) frames ++ gate ∷ rest ≡ flat_map (frame_text shape.format) others ++ more
    → AreLegalFrom shape tally frames → AreLegalFrom shape tally others → (left : List Frame) × (frames ≡ others ++ left)
is_front shape tally frames [] gate rest more closed same legal legal' = (frames, refl)
is_front shape tally [] (other ∷ others) gate rest more closed same legal legal' = absurd (closed (ap (λ (bs : List ℕ). get_or bs 0 0) same))
is_front shape tally (frame ∷ frames) (other ∷ others) gate rest more closed same legal legal' =
    let joined : frame_text shape.format frame ++ (flat_map (frame_text shape.format) frames ++ gate ∷ rest)
    ≡ frame_text shape.format other ++ (flat_map (frame_text shape.format) others ++ more)
    = sym (append_assoc (frame_text shape.format frame) (flat_map (frame_text shape.format) frames) (gate ∷ rest))
    ∙ same
    ∙ append_assoc (frame_text shape.format other) (flat_map (frame_text shape.format) others) more in
    let one = same_frame shape frame other (flat_map (frame_text shape.format) frames ++ gate ∷ rest) (flat_map (frame_text shape.format) others ++ more) legal.0 legal'.0 joined in
    let others_legal : AreLegalFrom shape (after tally frame) others = subst (λ f. AreLegalFrom shape (after tally f) others) (sym one.0) legal'.2 in
    let front = is_front shape (after tally frame) frames others gate rest more closed one.1 legal.2 others_legal in
    (front.0, ap (λ f. f ∷ frames) one.0 ∙ ap (λ (fs : List Frame). other ∷ fs) front.1)

nothing_left : (shape : Shape) (frames others left : List Frame)
    → frames ≡ others ++ left
    → length (flat_map (frame_text shape.format) frames) ≤ length (flat_map (frame_text shape.format) others)
    → frames ≡ others
nothing_left shape frames others [] is short = is ∙ append-nil others
nothing_left shape frames others (frame ∷ left) is short =
    let all =
    ap (λ (fs : List Frame). length (flat_map (frame_text shape.format) fs)) is
    ∙ ap length (flat_map-append (frame_text shape.format) others (frame ∷ left))
    ∙ length-append (flat_map (frame_text shape.format) others) (flat_map (frame_text shape.format) (frame ∷ left)) in
    let one = length-append (frame_text shape.format frame) (flat_map (frame_text shape.format) left) in
    let some = length-frame_text shape.format frame in
    absurd (omega arith)

pub one_list : (shape : Shape) (image : List ℕ) (frames others : List Frame) → HasFrames shape image frames → IsLongest shape image others → frames ≡ others
one_list shape image frames others has longest =
    let gate = has.closed in
    let begins = longest.begins.begins in
    let behind : flat_map (frame_text shape.format) frames ++ gate.0 ∷ gate.1
    ≡ flat_map (frame_text shape.format) others ++ begins.0
    = append_cancel_left (header shape) _ _
    (sym (append_assoc (header shape) (flat_map (frame_text shape.format) frames) (gate.0 ∷ gate.1))
    ∙ sym gate.3
    ∙ begins.1
    ∙ append_assoc (header shape) (flat_map (frame_text shape.format) others) begins.0) in
    let front = is_front shape nothing frames others gate.0 gate.1 begins.0 gate.2 behind has.legal longest.begins.legal in
    let short = longest.longest frames (longest_closed shape image frames has).begins in
    let a = length-append (header shape) (flat_map (frame_text shape.format) frames) in
    let b = length-append (header shape) (flat_map (frame_text shape.format) others) in
    nothing_left shape frames others front.0 front.1 (omega arith)

-- ---- one vector

pub same_items : {R : Type 0} (a b : List R) → length a ≡ length b → ((i : ℕ) → i < length a → slice_get a i ≡ slice_get b i) → a ≡ b
same_items [] [] len each = refl
same_items [] (y ∷ b) len each = absurd (omega arith)
same_items (x ∷ a) [] len each = absurd (omega arith)
same_items {R} (x ∷ a) (y ∷ b) len each =
    let first = each 0 (omega arith) in
    let head : x ≡ y = cc in
    ap (λ z. z ∷ a) head ∙ ap (λ (zs : List R). y ∷ zs) (same_items a b (omega arith) (λ i lt. each (suc i) (omega arith)))

one_vector : {R : Type 0} (format : Format) (form : Encoding R) (image : List ℕ) (frames : List Frame) (a b : List R)
    → IsVectorOf format form image frames a → IsVectorOf format form image frames b
    → a ≡ b
one_vector format form image frames a b p q = same_items a b (p.size ∙ sym q.size) (λ i lt. sym (p.each i lt) ∙ q.each i (let n = p.size in let m = q.size in omega arith))

-- ---- the header of an image that has frames

is_segment : (shape : Shape) (rest : List ℕ) → IsSegment (header shape ++ rest)
is_segment shape rest = record { born = record { some = omega arith; opened = refl }; long = omega arith; magic = refl }

pub sound_header : (format : Format) (width : ℕ) (image : List ℕ) (frames : List Frame)
    → width < 2 ^ 16 → HasFrames (record { format = format; width = width }) image frames
    → IsSound width format image
sound_header format width image frames small has =
    let shape : Shape = record { format = format; width = width } in
    let gate = has.closed in
    let rest : List ℕ = flat_map (frame_text format) frames ++ gate.0 ∷ gate.1 in
    let begins : image ≡ header shape ++ rest = gate.3 ∙ append_assoc (header shape) (flat_map (frame_text format) frames) (gate.0 ∷ gate.1) in
    let wide : from_le_bytes w16 (to_le_bytes w16 width) ≡ width = from_le_bytes-to_le_bytes_2 width small in
    record {
      no_fault =
          ap (header_fault width) begins
          ∙ finds_none width (from_le_bytes w16 (to_le_bytes w16 width)) (header shape ++ rest) (is_segment shape rest) (is_version-version_of format) refl wide;
      names = ap format_in begins ∙ format_known (header shape ++ rest) format refl;
    }

is_some : {R : Type 0} (a : List R) (i : ℕ) → i < length a → slice_get a i ≡ None → ⊥
is_some [] i lt none = absurd (omega arith)
is_some (x ∷ a) zero lt none = absurd cc
is_some (x ∷ a) (suc i) lt none = is_some a i (omega arith) none

pub from_none : {X : Type 0} (o : Option X) (P : Type 0) (Q : X → Type 0) → o ≡ None → MatchOption o P Q → P
from_none {X} o P Q is m = let P' : Option X → Type 0 = λ p. MatchOption p P Q in subst P' is m

-- ---- no fault

pub memory_alone : {R : Type 0} (format : Format) (form : Encoding R) (image : List ℕ) (frames : List Frame)
    (records : List R) (fault : ScanFault)
    → form.width < 2 ^ 16 → HasVector format form image frames records → IsRefused form image fault
    → fault ≡ Memory
memory_alone {R} format form image frames records fault small has refused = elim refused [
  | inl first ↦ (
      let shape : Shape = shape_of format form in
      let sound = sound_header format form.width image frames small has.framed in
      let found =
      subst (λ f. IsFrameFault f form image fault) sound.names
      (from_none (header_fault form.width image) (IsFrameFault (format_in image) form image fault) (λ f. fault ≡ f) sound.no_fault first) in
      let same : frames ≡ found.0 = one_list shape image frames found.0 has.framed found.1 in
      let ends : EndsWith format form image frames fault = subst (λ fs. EndsWith format form image fs fault) (sym same) found.2 in
      let bad = from_none (frame_fault shape (length (text shape frames)) (tally_of frames) (drop (length (text shape frames)) image)) (IsBadRecord format form image frames fault) (λ f. fault ≡ f)
      (frame_fault_closed shape (length (text shape frames)) (tally_of frames) (drop (length (text shape frames)) image) (ends_closed shape image frames has.framed)) ends in
      let inside : bad.0 < length records = let size = has.read.size in let at = bad.2.inside in omega arith in
      absurd (is_some records bad.0 inside (sym (has.read.each bad.0 inside) ∙ bad.2.bad)))
  | inr memory ↦ memory.0
]

-- one image has one vector
pub same_vector : {R : Type 0} (format other : Format) (form : Encoding R) (image : List ℕ)
    (frames others : List Frame) (a b : List R)
    → form.width < 2 ^ 16 → HasVector format form image frames a → HasVector other form image others b
    → a ≡ b
same_vector {R} format other form image frames others a b small has has' =
    let one = sym (sound_header format form.width image frames small has.framed).names ∙ (sound_header other form.width image others small has'.framed).names in
    let here : HasVector format form image others b = subst (λ f. HasVector f form image others b) (sym one) has' in
    let same : frames ≡ others = one_list (shape_of format form) image frames others has.framed (longest_closed (shape_of format form) image others here.framed) in
    one_vector format form image frames a b has.read (subst (λ fs. IsVectorOf format form image fs b) (sym same) here.read)

pub scanned_as : {R : Type 0} (format : Format) (form : Encoding R) (image : List ℕ) (frames : List Frame)
    (records : List R) (scanned : Scanned R)
    → form.width < 2 ^ 16 → HasVector format form image frames records → IsScanOf form image scanned
    → scanned.records.items ≡ records
scanned_as format form image frames records scanned small has scan = sym (same_vector format scan.format form image frames scan.frames records scanned.records.items small has scan.vector)

pub is_scanned : {R : Type 0} (format : Format) (form : Encoding R) (image : List ℕ) (frames : List Frame)
    (records : List R) (answer : Result (Scanned R) ScanFault)
    → form.width < 2 ^ 16
    → HasVector format form image frames records
    → MatchResult answer (IsScanOf form image) (IsRefused form image) → MatchResult answer (λ scanned. scanned.records.items ≡ records) (λ fault. fault ≡ Memory)
is_scanned format form image frames records (Ok scanned) small has found = scanned_as format form image frames records scanned small has found
is_scanned format form image frames records (Err fault) small has refused = memory_alone format form image frames records fault small has refused

-- all that a scan tells of an image that has a vector
pub record TellsOf {R : Type 0} (format : Format) (form : Encoding R) (frames : List Frame) (records : List R) (scanned : Scanned R) : Type 0 where
  pub records_are : scanned.records.items ≡ records
  pub version_is : scanned.version ≡ version_of format
  pub width_is : scanned.width ≡ form.width
  pub frames_are : scanned.frames ≡ length frames
  pub changes_are : scanned.changes ≡ (tally_of frames).changes
  pub folded_is : scanned.folded ≡ (tally_of frames).folded
  pub gate_is : scanned.gate ≡ length (text (shape_of format form) frames)

-- one image has one scan
pub one_scan : {R : Type 0} (format : Format) (form : Encoding R) (image : List ℕ) (frames : List Frame)
    (records : List R) (scanned : Scanned R)
    → form.width < 2 ^ 16 → HasVector format form image frames records → IsScanOf form image scanned
    → TellsOf format form frames records scanned
one_scan {R} format form image frames records scanned small has scan = record {
  records_are = scanned_as format form image frames records scanned small has scan;
  version_is = subst (λ f. scanned.version ≡ version_of f) one scan.version_is;
  width_is = scan.width_is;
  frames_are = subst (λ (fs : List Frame). scanned.frames ≡ length fs) same scan.frames_are;
  changes_are = subst (λ fs. scanned.changes ≡ (tally_of fs).changes) same scan.changes_are;
  folded_is = subst (λ fs. scanned.folded ≡ (tally_of fs).folded) same scan.folded_is;
  gate_is = subst (λ f. scanned.gate ≡ length (text (shape_of f form) frames)) one (subst (λ fs. scanned.gate ≡ length (text (shape_of scan.format form) fs)) same scan.gate_is);
}
  where
    one : scan.format ≡ format
    one = sym (sound_header scan.format form.width image scan.frames small scan.vector.framed).names ∙ (sound_header format form.width image frames small has.framed).names

    here : HasVector format form image scan.frames scanned.records.items
    here = subst (λ f. HasVector f form image scan.frames scanned.records.items) one scan.vector

    same : scan.frames ≡ frames
    same = one_list (shape_of format form) image scan.frames frames here.framed (longest_closed (shape_of format form) image frames has.framed)
