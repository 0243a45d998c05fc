-- What the definitions that are computed nowhere say of worked images: their frames, vector, scan, homes and first
-- fault, each with what they say of none.
use Rattle.std.proofs.Common.{◌≡◌, ℕ, zero, suc, ◌+◌, ◌<◌, inl, inr, List, [], ◌∷◌, ◌++◌, length, drop, Some, None, refl, sym, ap, subst, ◌∙◌, arith, length-append}
use Rattle.std.specs.Prelude.{◌↔◌, slice_get}
use Rattle.std.proofs.lemmas.List.{drop_at}
use Rattle.std.specs.Int.{w64, to_le_bytes}
use Rattle.record_core.specs.Bytes.{Encoding, unsigned, flagged}
use Rattle.segment_core.specs.declared.fault.Cause.{Cause}
use Rattle.segment_core.specs.declared.fault.Cause.TheVariants.{NoGate, ShortFrame, Kind, BadRecord}
use Rattle.segment_core.specs.declared.fault.ScanFault.{ScanFault}
use Rattle.segment_core.specs.declared.format.Format.TheVariants.{One}
use Rattle.segment_core.specs.declared.format.Shape.{Shape}
use Rattle.segment_core.specs.declared.vector.Scanned.{Scanned}
use Rattle.segment_core.specs.Shape.{shape_of}
use Rattle.segment_core.specs.Frame.{Frame, Group, Change, text}
use Rattle.segment_core.specs.Layout.{u32_at, u64_at, is_group_layout, is_change_layout}
use Rattle.segment_core.specs.Tally.{tally_of, AreLegal}
use Rattle.segment_core.specs.Image.{HasFrames}
use Rattle.segment_core.specs.Vector.{place_of, record_at, HasVector}
use Rattle.segment_core.specs.Fault.{header_lines, frame_fault, frame_lines, order_lines, damaged, IsSound, IsFirstFault}
use Rattle.segment_core.specs.Scanned.{IsScanOf}
use Rattle.segment_core.specs.Scanner.{IsDecided, IsCutShort}
use Rattle.segment_core.proofs.Longest.{NoFrame_fault, is_longest}
use Rattle.segment_core.proofs.Refusals.{refused_by_frame}
use Rattle.segment_core.proofs.OneVector.{one_list, one_scan, TellsOf}
use Rattle.segment_core.proofs.Decided.{cut_first, one_fault, fault_of_record, fault_by_record, decided_by_gate}

abbrev pub numbers : Encoding ℕ
numbers = unsigned w64

abbrev pub one : Shape
one = shape_of One numbers

abbrev pub number : ℕ → List ℕ
number n = to_le_bytes w64 n

abbrev pub grown : List Frame
grown = Group (1 ∷ []) (number 5) ∷ []

-- a growth of 5, and a change of it to 7
abbrev pub changed : List Frame
changed = Group (1 ∷ []) (number 5) ∷ Change (record { start = 0; count = 1 } ∷ []) (number 7) ∷ []

abbrev pub changed_file : List ℕ
changed_file = text one changed ++ 0 ∷ []

pub differ : (a b : ℕ) → a < b → a ≡ b → ⊥
differ a b lt is = absurd (omega arith)

pub of_some : (a b : ℕ) → Some a ≡ Some b → a ≡ b
of_some a b same = cc

-- ---- frames, and the vector

grown_legal : AreLegal one grown
grown_legal = (
  record {
    wide = omega arith;
    small = omega arith;
    layout = (omega arith, ((omega arith, omega arith), tt), refl);
  },
  record { ordered = refl; inside = refl; folded = refl; counted = refl; short = refl },
  tt,
)

pub changed_legal : AreLegal one changed
changed_legal = (
  record { wide = omega arith; small = omega arith; layout = (omega arith, ((omega arith, omega arith), tt), refl) },
  record { ordered = refl; inside = refl; folded = refl; counted = refl; short = refl },
  (
    record { wide = omega arith; small = omega arith; layout = (refl, ((omega arith, (omega arith, omega arith)), tt), refl) },
    record { ordered = refl; inside = refl; folded = refl; counted = refl; short = refl },
    tt,
  ),
)

changed_frames : HasFrames one changed_file changed
changed_frames = record { legal = changed_legal; closed = (0, [], differ 0 1 (omega arith), refl) }

changed_sound : IsSound 8 One changed_file
unfolding header_lines
changed_sound = record { no_fault = refl; names = refl }

pub only_first : (P : ℕ → Type 0) → P 0 → (i : ℕ) → i < 1 → P i
only_first P first zero lt = first
only_first P first (suc i) lt = absurd (omega arith)

changed_record : record_at One numbers changed_file changed 0 ≡ Some 7
unfolding place_of
changed_record = refl

changed_vector : HasVector One numbers changed_file changed (7 ∷ [])
changed_vector = record { framed = changed_frames; read = record { size = refl; each = only_first (λ i. record_at One numbers changed_file changed i ≡ slice_get (7 ∷ []) i) changed_record } }

-- what the homes say isn't the vector, and neither is a longer list
not_the_home : HasVector One numbers changed_file changed (5 ∷ []) → ⊥
not_the_home has = differ 5 7 (omega arith) (sym (of_some 7 5 (sym changed_record ∙ has.read.each 0 (omega arith))))

no_longer_vector : HasVector One numbers changed_file changed (7 ∷ 7 ∷ []) → ⊥
no_longer_vector has = differ 1 2 (omega arith) (sym has.read.size)

no_gate_at_55 : frame_fault one 55 (tally_of changed) [] ≡ Some (damaged 55 NoGate)
unfolding frame_fault frame_lines
no_gate_at_55 = refl

-- without a gate no frames end
not_ended : (frames : List Frame) → HasFrames one (text one changed) frames → ⊥
not_ended frames has =
    let longest = is_longest one changed (text one changed) [] changed_legal refl (NoFrame_fault one 55 (tally_of changed) [] (damaged 55 NoGate) no_gate_at_55) in
    let same : frames ≡ changed = one_list one (text one changed) frames changed has longest in
    let size : length (text one changed) ≡ length (text one frames) + suc (length has.closed.1) = ap length has.closed.3 ∙ length-append (text one frames) (has.closed.0 ∷ has.closed.1) in
    let again : length (text one frames) ≡ length (text one changed) = ap (λ fs. length (text one fs)) same in
    absurd (omega arith)

-- ---- the scan

changed_scan : (scanned : Scanned ℕ) → TellsOf One numbers changed (7 ∷ []) scanned ↔ IsScanOf numbers changed_file scanned
changed_scan scanned = (
  λ tells. record {
    format = One;
    frames = changed;
    vector = subst (λ records. HasVector One numbers changed_file changed records) (sym tells.records_are) changed_vector;
    version_is = tells.version_is;
    width_is = tells.width_is;
    frames_are = tells.frames_are;
    changes_are = tells.changes_are;
    folded_is = tells.folded_is;
    gate_is = tells.gate_is;
  },
  one_scan One numbers changed_file changed (7 ∷ []) scanned (omega arith) changed_vector,
)

-- in numbers
changed_told : (scanned : Scanned ℕ)
    → IsScanOf numbers changed_file scanned
    → (scanned.records.items ≡ 7 ∷ [])
    × (scanned.version ≡ 1)
    × (scanned.width ≡ 8)
    × (scanned.frames ≡ 2)
    × (scanned.changes ≡ 1)
    × (scanned.folded ≡ 0)
    × (scanned.gate ≡ 55)
changed_told scanned scan = let tells = (changed_scan scanned).1 scan in (tells.records_are, tells.version_is, tells.width_is, tells.frames_are, tells.changes_are, tells.folded_is, tells.gate_is)

-- ---- the first fault

-- a file that ends where a gate has to stand
gate_sound : IsSound 8 One (text one changed)
unfolding header_lines
gate_sound = record { no_fault = refl; names = refl }

-- the one fault of an image whose frames end at it
fault_at_end : {R : Type 0} (form : Encoding R) (frames : List Frame) (rest : List ℕ) (at : ℕ) (cause : Cause)
    → IsSound form.width One (text (shape_of One form) frames ++ rest) → AreLegal (shape_of One form) frames
    → frame_fault (shape_of One form) (length (text (shape_of One form) frames)) (tally_of frames) rest ≡ Some (damaged at cause)
    → (fault : ScanFault)
    → IsFirstFault form (text (shape_of One form) frames ++ rest) fault ↔ fault ≡ damaged at cause
fault_at_end form frames rest at cause sound legal here fault =
    let shape : Shape = shape_of One form in
    let p : ℕ = length (text shape frames) in
    let image : List ℕ = text shape frames ++ rest in
    let longest = is_longest shape frames image rest legal refl (NoFrame_fault shape p (tally_of frames) rest (damaged at cause) here) in
    let there : frame_fault shape p (tally_of frames) (drop p image) ≡ Some (damaged at cause)
    = ap (frame_fault shape p (tally_of frames)) (drop_at (text shape frames) rest p refl) ∙ here in
    let first = cut_first form image at cause (refused_by_frame form One image frames (damaged at cause) sound longest there) in
    (λ is. one_fault form image fault (damaged at cause) is first, λ is. subst (IsFirstFault form image) (sym is) first)

gate_fault : (fault : ScanFault) → IsFirstFault numbers (text one changed) fault ↔ fault ≡ damaged 55 NoGate
gate_fault = fault_at_end numbers changed [] 55 NoGate gate_sound changed_legal no_gate_at_55

-- a frame of another kind behind a growth
abbrev other_kind : List ℕ
other_kind = 1 ∷ 5 ∷ 0 ∷ 0 ∷ 0 ∷ 0 ∷ 0 ∷ []

kind_at_34 : frame_fault one 33 (tally_of grown) other_kind ≡ Some (damaged 34 (Kind 5))
unfolding frame_fault frame_lines order_lines is_group_layout is_change_layout u32_at u64_at
kind_at_34 = refl

abbrev kind_file : List ℕ
kind_file = text one grown ++ other_kind

kind_sound : IsSound 8 One kind_file
unfolding header_lines
kind_sound = record { no_fault = refl; names = refl }

kind_fault : (fault : ScanFault) → IsFirstFault numbers kind_file fault ↔ fault ≡ damaged 34 (Kind 5)
kind_fault = fault_at_end numbers grown other_kind 34 (Kind 5) kind_sound grown_legal kind_at_34

-- ---- records that are none: two of flag 2

abbrev flags : Shape
flags = shape_of One flagged

abbrev bad_bytes : List ℕ
bad_bytes = 5 ∷ 0 ∷ 0 ∷ 0 ∷ 0 ∷ 0 ∷ 0 ∷ 0 ∷ 2 ∷ 6 ∷ 0 ∷ 0 ∷ 0 ∷ 0 ∷ 0 ∷ 0 ∷ 0 ∷ 2 ∷ []

abbrev bad : List Frame
bad = Group (2 ∷ []) bad_bytes ∷ []

abbrev bad_file : List ℕ
bad_file = text flags bad ++ 0 ∷ []

bad_legal : AreLegal flags bad
bad_legal = (
  record {
    wide = omega arith;
    small = omega arith;
    layout = (omega arith, ((omega arith, omega arith), tt), refl);
  },
  record { ordered = refl; inside = refl; folded = refl; counted = refl; short = refl },
  tt,
)

bad_frames : HasFrames flags bad_file bad
bad_frames = record { legal = bad_legal; closed = (0, [], differ 0 1 (omega arith), refl) }

bad_record : record_at One flagged bad_file bad 0 ≡ None
unfolding place_of
bad_record = refl

bad_place : place_of flags bad 0 ≡ Some 25
unfolding place_of
bad_place = refl

bad_sound : IsSound 9 One bad_file
unfolding header_lines
bad_sound = record { no_fault = refl; names = refl }

-- the least position is told
bad_fault : (fault : ScanFault) → IsFirstFault flagged bad_file fault ↔ fault ≡ damaged 25 BadRecord
bad_fault fault = (λ is. one_fault flagged bad_file fault (damaged 25 BadRecord) is here, λ is. subst (IsFirstFault flagged bad_file) (sym is) here)
  where
    here : IsFirstFault flagged bad_file (damaged 25 BadRecord)
    here =
        fault_by_record One flagged bad bad_file (damaged 25 BadRecord) bad_sound bad_frames
        (0, 25, record { inside = omega arith; bad = bad_record; before = λ k lt. absurd (omega arith) }, bad_place, refl)

-- a frame's fault is told before a bad record in front of it
bad_kind_at_44 : frame_fault flags 43 (tally_of bad) other_kind ≡ Some (damaged 44 (Kind 5))
unfolding frame_fault frame_lines order_lines is_group_layout is_change_layout u32_at u64_at
bad_kind_at_44 = refl

abbrev bad_kind_file : List ℕ
bad_kind_file = text flags bad ++ other_kind

bad_kind_sound : IsSound 9 One bad_kind_file
unfolding header_lines
bad_kind_sound = record { no_fault = refl; names = refl }

frame_before_record : (fault : ScanFault) → IsFirstFault flagged bad_kind_file fault ↔ fault ≡ damaged 44 (Kind 5)
frame_before_record = fault_at_end flagged bad other_kind 44 (Kind 5) bad_kind_sound bad_legal bad_kind_at_44

-- a file that has a vector has no fault
no_fault : (fault : ScanFault) → IsFirstFault numbers changed_file fault → ⊥
no_fault fault first =
    let bad = fault_of_record One numbers changed changed_file fault changed_sound changed_frames first in
    not_bad bad.0 bad.2.inside bad.2.bad
  where
    not_bad : (i : ℕ) → i < 1 → record_at One numbers changed_file changed i ≡ None → ⊥
    not_bad = only_first (λ i. record_at One numbers changed_file changed i ≡ None → ⊥) (λ none. (let clash : Some 7 ≡ None = sym changed_record ∙ none in absurd cc))

-- ---- what is decided

changed_decided : IsDecided numbers changed_file
changed_decided = decided_by_gate One numbers changed changed_file (omega arith) changed_sound changed_frames

-- where a gate has to stand another frame may still come
not_decided : IsDecided numbers (text one changed) → ⊥
not_decided decided = no_fault (damaged 55 NoGate) ((decided.faults (0 ∷ []) (damaged 55 NoGate)).1 ((gate_fault (damaged 55 NoGate)).1 refl))

gate_is_missing : IsCutShort numbers (text one changed)
gate_is_missing = inr (55, inl ((gate_fault (damaged 55 NoGate)).1 refl))

not_cut_short : IsCutShort numbers kind_file → ⊥
not_cut_short (inl short) = absurd (omega arith)
not_cut_short (inr (p, inl first)) = (let clash : damaged p NoGate ≡ damaged 34 (Kind 5) = (kind_fault (damaged p NoGate)).0 first in absurd cc)
not_cut_short (inr (p, inr first)) = (let clash : damaged p ShortFrame ≡ damaged 34 (Kind 5) = (kind_fault (damaged p ShortFrame)).0 first in absurd cc)
