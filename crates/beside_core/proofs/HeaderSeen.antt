-- The header of a pen's file, as it was read.
use Rattle.std.proofs.Common.{◌≡◌, ℕ, ◌+◌, ◌<◌, ◌^◌, List, [], ◌++◌, length, drop, get_or, Some, None, refl, sym, ap, ◌∙◌, arith, length-append, inl, inr}
use Rattle.std.specs.Prelude.{slice_index}
use Rattle.std.specs.List.{flat_map}
use Rattle.std.specs.Int.{w16, to_le_bytes, from_le_bytes}
use Rattle.std.proofs.lemmas.List.{append-nil, nil_from_length, length-drop, get_or_append_left, ext_get_or}
use Rattle.std.proofs.lemmas.Nat.{from_le_bytes-to_le_bytes_2}
use Rattle.disk_core.specs.Shared.{WereThere}
use Rattle.segment_core.specs.declared.fault.ScanFault.{ScanFault}
use Rattle.segment_core.specs.declared.format.Format.{Format}
use Rattle.segment_core.specs.declared.format.Format.TheVariants.{One, Two}
use Rattle.segment_core.specs.declared.format.Shape.{Shape}
use Rattle.segment_core.specs.Shape.{version_of}
use Rattle.segment_core.specs.Frame.{Frame, header, frame_text}
use Rattle.segment_core.specs.Fault.{header_fault, IsHeaderFault}
use Rattle.segment_core.proofs.Header.{IsSegment, finds_none, is_version-version_of}
use Rattle.beside_core.specs.PensFile.{IsPensFile}

-- it is the same at each moment
header_byte : (shape : Shape) (held : ℕ → List ℕ) (frames : ℕ → List Frame) (t j : ℕ) → IsPensFile shape held frames → j < 11 → slice_index (held t) j ≡ slice_index (header shape) j
header_byte shape held frames t j file small =
    let long : length (header shape) ≡ 11 = refl in
    elim (file.stands t j (omega (arith, small, long, length-append (header shape) (flat_map (frame_text shape.format) (frames t))))) [
      | inl same ↦ same ∙ get_or_append_left (header shape) (flat_map (frame_text shape.format) (frames t)) 0 j (omega (arith, small, long))
      | inr differs ↦ absurd (omega (arith, differs.1, small))
    ]

pub header_read : (shape : Shape) (held : ℕ → List ℕ) (frames : ℕ → List Frame) (from to : ℕ) (bytes : List ℕ) → IsPensFile shape held frames → length bytes ≡ 11
    → WereThere held from to 0 bytes → bytes ≡ header shape
header_read shape held frames from to bytes file long there =
    ext_get_or 0 bytes (header shape) long (λ j lt. (
    let was = there j lt in
    let place : 0 + j ≡ j = omega arith in
    was.stood ∙ ap (slice_index (held was.moment)) place ∙ header_byte shape held frames was.moment j file (omega (arith, lt, long))))

same_format : (a b : Format) → version_of a ≡ version_of b → a ≡ b
same_format One One is = refl
same_format One Two is = absurd (omega (arith, is))
same_format Two One is = absurd (omega (arith, is))
same_format Two Two is = refl

-- headers that are the same say the same
pub header_same : (a b : Shape) → a.width < 2 ^ 16 → b.width < 2 ^ 16 → header a ≡ header b → a ≡ b
header_same a b narrow narrow' is =
    let format : a.format ≡ b.format = same_format a.format b.format (ap (λ (bs : List ℕ). get_or bs 8 0) is) in
    let width : a.width ≡ b.width
    = sym (from_le_bytes-to_le_bytes_2 a.width narrow) ∙ ap (λ (bs : List ℕ). from_le_bytes w16 (drop 9 bs)) is ∙ from_le_bytes-to_le_bytes_2 b.width narrow' in
    ap (λ f. record { format = f; width = a.width }) format ∙ ap (λ w. record { format = b.format; width = w }) width

pub header_spelled : (a b : Shape) (bytes : List ℕ) → a.width < 2 ^ 16 → b.width < 2 ^ 16 → length bytes ≡ 11 → bytes ≡ header b → bytes ≡ header a ++ drop 11 bytes → a ≡ b
header_spelled a b bytes narrow narrow' long is spelled =
    let none : drop 11 bytes ≡ [] = nil_from_length (drop 11 bytes) (omega (arith, length-drop 11 bytes, long)) in
    header_same a b narrow narrow' (sym (spelled ∙ ap (λ (bs : List ℕ). header a ++ bs) none ∙ append-nil (header a)) ∙ is)

-- and have no fault
pub header_sound : (shape : Shape) → shape.width < 2 ^ 16 → header_fault shape.width (header shape) ≡ None
header_sound shape small =
    let segment : IsSegment (header shape) = record { born = record { some = omega arith; opened = refl }; long = omega arith; magic = refl } in
    finds_none shape.width (from_le_bytes w16 (to_le_bytes w16 shape.width)) (header shape) segment (is_version-version_of shape.format) refl (from_le_bytes-to_le_bytes_2 shape.width small)

pub never_faulty : (shape : Shape) (fault : ScanFault) (bytes : List ℕ) → 0 < shape.width → shape.width < 2 ^ 16 → bytes ≡ header shape → IsHeaderFault bytes fault → ⊥
never_faulty shape fault bytes wide narrow is faulty =
    let clash : Some fault ≡ None = sym (faulty shape.width wide) ∙ ap (header_fault shape.width) is ∙ header_sound shape narrow in
    absurd cc
