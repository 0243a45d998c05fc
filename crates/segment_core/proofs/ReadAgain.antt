-- The file of growths has the vector of their records.
use Rattle.std.proofs.Common.{◌≡◌, ℕ, ◌+◌, ◌*◌, ◌^◌, ◌≤◌, ◌<◌, List, [], ◌∷◌, ◌++◌, length, map, sum, refl, sym, ap, subst, ◌∙◌, append_assoc, arith}
use Rattle.std.specs.List.{flat_map, AllByRecursion}
use Rattle.std.proofs.lemmas.Bool.{le-ltb}
use Rattle.std.proofs.lemmas.List.{append-nil, length-append, length-map}
use Rattle.record_core.specs.Cells.{AreReadAgain}
use Rattle.record_core.proofs.Cells.{length-flat_map_bytes, AreRecords_written}
use Rattle.record_core.specs.Bytes.{Encoding}
use Rattle.segment_core.specs.declared.format.Format.{Format}
use Rattle.segment_core.specs.declared.format.Format.TheVariants.{One}
use Rattle.segment_core.specs.declared.format.Shape.{Shape}
use Rattle.segment_core.specs.declared.tally.Tally.{Tally}
use Rattle.segment_core.specs.Shape.{limit_of, shape_of}
use Rattle.segment_core.specs.Frame.{Frame, header, frame_text, text}
use Rattle.segment_core.specs.Layout.{IsLength, IsFrame}
use Rattle.segment_core.specs.Tally.{tally_of, MayFollow, AreLegal}
use Rattle.segment_core.specs.Vector.{IsVectorOf, HasVector}
use Rattle.segment_core.specs.Written.{joined, all_records, group_frame, file_of, payload_len, AllFit, AreFilled}
use Rattle.segment_core.proofs.Payload.{limit_small}
use Rattle.segment_core.proofs.Push.{text_push, Begins_push}
use Rattle.segment_core.proofs.OneMore.{IsVectorOf_group}
use Rattle.segment_core.proofs.Written.{sum-lengths, length-group_frame, long_growth}

-- ---- a group's frame keeps the rules

are_lengths : {R : Type 0} (width limit : ℕ) (growths : List (List R))
    → 1 ≤ width → AllByRecursion (λ growth. 0 < length growth) growths → length (joined growths) * width ≤ limit
    → limit < 2 ^ 32
    → AllByRecursion IsLength (map length growths)
are_lengths width limit [] wide some fits small = tt
are_lengths width limit (growth ∷ growths) wide some fits small =
    let all = length-append growth (joined growths) in
    let product : length (joined (growth ∷ growths)) * width ≡ (length growth + length (joined growths)) * width = ap (λ n. n * width) all in
    let long = long_growth width (length growth) wide in
    ((some.0, omega arith), are_lengths width limit growths wide some.1 (omega arith) small)

pub is_frame : {R : Type 0} (format : Format) (form : Encoding R) (growths : List (List R))
    → 1 ≤ form.width → ((r : R) → length (form.bytes_of r) ≡ form.width) → 0 < length growths
    → AllByRecursion (λ growth. 0 < length growth) growths
    → payload_len form.width growths ≤ limit_of format
    → IsFrame (shape_of format form) (group_frame form growths)
is_frame format form growths wide bytes some each fits =
    let limit = limit_small format in
    let lengths = length-map growths length in
    record {
      wide = wide;
      small = let n = length-group_frame format form growths bytes in omega arith;
      layout = (
        omega arith,
        are_lengths form.width (limit_of format) growths wide each (omega arith) (omega arith),
        length-flat_map_bytes form (joined growths) bytes ∙ ap (λ n. n * form.width) (sum-lengths growths),
      );
    }

pub may_follow : {R : Type 0} (form : Encoding R) (tally : Tally) (growths : List (List R)) → tally.size + length (joined growths) ≤ 2 ^ 32 → MayFollow tally (group_frame form growths)
may_follow form tally growths small =
    let count = sum-lengths growths in
    record { ordered = refl; inside = refl; folded = refl; counted = refl; short = le-ltb (2 ^ 32) (tally.size + sum (map length growths)) (omega arith) }

-- ---- group behind group

AreReadAgain_first : {R : Type 0} (form : Encoding R) (a b : List R) → AreReadAgain form (a ++ b) → AreReadAgain form a × AreReadAgain form b
AreReadAgain_first form [] b again = (tt, again)
AreReadAgain_first form (r ∷ a) b again = let more = AreReadAgain_first form a b again.1 in ((again.0, more.0), more.1)

reads_groups : {R : Type 0} (format : Format) (form : Encoding R) (image rest : List ℕ) (frames : List Frame)
    (records : List R) (groups : List (List (List R)))
    → 1 ≤ form.width
    → ((r : R) → length (form.bytes_of r) ≡ form.width)
    → AreFilled groups
    → AllByRecursion (λ group. payload_len form.width group ≤ limit_of format) groups
    → AreReadAgain form (all_records groups)
    → length records + length (all_records groups) ≤ 2 ^ 32
    → AreLegal (shape_of format form) frames → IsVectorOf format form image frames records
    → image ≡ text (shape_of format form) frames ++ (flat_map (frame_text format) (map (group_frame form) groups) ++ rest)
    → AreLegal (shape_of format form) (frames ++ map (group_frame form) groups) × IsVectorOf format form image (frames ++ map (group_frame form) groups) (records ++ all_records groups)
reads_groups {R} format form image rest frames records [] wide bytes filled fit again small legal read is = (
  subst (λ fs. AreLegal (shape_of format form) fs) (sym (append-nil frames)) legal,
  subst (λ fs. IsVectorOf format form image fs (records ++ [])) (sym (append-nil frames)) (subst (λ (rs : List R). IsVectorOf format form image frames rs) (sym (append-nil records)) read),
)
reads_groups {R} format form image rest frames records (group ∷ groups) wide bytes filled fit again small legal read is =
    let shape : Shape = shape_of format form in
    let frame : Frame = group_frame form group in
    let others : List Frame = map (group_frame form) groups in
    let behind : List ℕ = flat_map (frame_text format) others ++ rest in
    let parts = AreReadAgain_first form (joined group) (all_records groups) again in
    let all = length-append (joined group) (all_records groups) in
    let so_far = length-append records (joined group) in
    let size = read.size in
    let here : image ≡ text shape frames ++ (frame_text format frame ++ behind)
    = is
    ∙ ap (λ (bs : List ℕ). text shape frames ++ bs) (append_assoc (frame_text format frame) (flat_map (frame_text format) others) rest) in
    let begins = Begins_push shape image frames frame behind legal (is_frame format form group wide bytes filled.0.0 filled.0.1 fit.0) (may_follow form (tally_of frames) group (omega arith)) here in
    let told =
    IsVectorOf_group format form image frames records read (map length group)
    (flat_map form.bytes_of (joined group)) (joined group) begins
    (AreRecords_written form (joined group) bytes parts.0) in
    let next : image ≡ text shape (frames ++ frame ∷ []) ++ behind
    = here
    ∙ sym (append_assoc (text shape frames) (frame_text format frame) behind)
    ∙ ap (λ (bs : List ℕ). bs ++ behind) (sym (text_push shape frames frame)) in
    let more = reads_groups format form image rest (frames ++ frame ∷ []) (records ++ joined group) groups wide bytes filled.1 fit.1 parts.1 (omega arith) begins.legal told next in
    let one_by_one = append_assoc frames (frame ∷ []) others in (
      subst (λ fs. AreLegal shape fs) one_by_one more.0,
      subst (λ fs. IsVectorOf format form image fs (records ++ all_records (group ∷ groups))) one_by_one
          (subst (λ (rs : List R). IsVectorOf format form image ((frames ++ frame ∷ []) ++ others) rs) (append_assoc records (joined group) (all_records groups)) more.1),
    )

pub has_vector : {R : Type 0} (form : Encoding R) (file : List ℕ) (groups : List (List (List R)))
    → 1 ≤ form.width → ((r : R) → length (form.bytes_of r) ≡ form.width) → AreFilled groups
    → AllFit form.width groups
    → file ≡ file_of form groups
    → AreReadAgain form (all_records groups) → length (all_records groups) ≤ 2 ^ 32
    → HasVector One form file (map (group_frame form) groups) (all_records groups)
has_vector {R} form file groups wide bytes filled fit is again small =
    let shape : Shape = shape_of One form in
    let behind : List ℕ = flat_map (frame_text One) (map (group_frame form) groups) in
    let none : List R = [] in
    let start : file ≡ text shape [] ++ (behind ++ 0 ∷ [])
    = is
    ∙ append_assoc (header shape) behind (0 ∷ [])
    ∙ ap (λ (bs : List ℕ). bs ++ (behind ++ 0 ∷ [])) (sym (append-nil (header shape))) in
    let told = reads_groups One form file (0 ∷ []) [] none groups wide bytes filled fit again (omega arith) tt (record { size = refl; each = λ i lt. absurd (omega arith) }) start in
    record {
      framed = record { legal = told.0; closed = (0, [], λ (one : 0 ≡ 1). absurd (omega arith), is) };
      read = told.1;
    }
