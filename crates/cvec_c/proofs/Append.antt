-- A group's frame behind a file, as C writes it: while the gate is shut the file is the one from before, and with the frame
-- there it has the group's records too. And what is answered where these come as bytes.
use Rattle.std.proofs.Common.{◌≡◌, ◌≢◌, ◌⊎◌, ℕ, ◌+◌, ◌*◌, ◌/◌, ◌^◌, ◌≤◌, ◌<◌, List, [], ◌∷◌, ◌++◌, length, take, drop, get_or, map, Bool, true, false, None, MatchOption, inl, inr, refl, sym, ap, subst, ◌∙◌, append_assoc, arith}
use Rattle.std.specs.Prelude.{◌==◌}
use Rattle.std.specs.List.{flat_map}
use Rattle.std.proofs.lemmas.Bool.{cases_lt, ltb-false, leb-false, eqb-false}
use Rattle.std.proofs.lemmas.List.{append-nil, length-append, take-append-drop, take_at}
use Rattle.std.proofs.Math.Nat.{mul-div_cancel}
use Rattle.record_core.specs.Bytes.{Encoding}
use Rattle.record_core.specs.Cells.{AreReadAgain, AreRecords}
use Rattle.record_core.proofs.Cells.{AreRecords_written}
use Rattle.segment_core.specs.declared.format.Format.{Format}
use Rattle.segment_core.specs.declared.format.Format.TheVariants.{One, Two}
use Rattle.segment_core.specs.declared.format.Shape.{Shape}
use Rattle.segment_core.specs.Shape.{version_of, limit_of, shape_of}
use Rattle.segment_core.specs.Frame.{Frame, header, frame_text, text}
use Rattle.segment_core.specs.Tally.{nothing, tally_of}
use Rattle.segment_core.specs.Image.{BeginsImage}
use Rattle.segment_core.specs.Vector.{IsVectorOf}
use Rattle.segment_core.specs.Written.{group_frame, joined, payload_len}
use Rattle.segment_core.proofs.Payload.{length-frame_text}
use Rattle.segment_core.proofs.Push.{text_push, tally_from_push, Begins_push, HasFrames_begins, HasFrames_closed}
use Rattle.segment_core.proofs.OneMore.{IsVectorOf_begins, IsVectorOf_group}
use Rattle.segment_core.proofs.ReadAgain.{is_frame, may_follow}
use Rattle.segment_core.proofs.Written.{length-group_frame}
use Rattle.c_core.specs.declared.refusal.Refusal.{Refusal}
use Rattle.c_core.specs.Records.{AreNone}
use Rattle.c_core.specs.Refusal.{code_of}
use Rattle.cvec_c.specs.declared.stat.CvecStat.{CvecStat}
use Rattle.cvec_c.specs.Stat.{HasStat}
use Rattle.cvec_c.specs.Append.{first_refusal, append_lines, IsSameTo, IsShutAt, limit_in, append_len, AnswersFor}

-- ---- tests

abbrev AreClear : List (Bool × Refusal) → Type 0
AreClear [] = Unit {0}
AreClear (line ∷ lines) = (line.0 ≡ false) × AreClear lines

clear_by_none : (lines : List (Bool × Refusal)) → first_refusal lines ≡ None → AreClear lines
clear_by_none [] is = tt
clear_by_none ((true, status) ∷ lines) is = absurd cc
clear_by_none ((false, status) ∷ lines) is = (refl, clear_by_none lines is)

-- what holds where none of the tests does
pub record IsAllowed (width : ℕ) (stat : CvecStat) (records : ℕ) : Type 0 where
  pub some : 0 < records
  pub short : stat.size + records ≤ 2 ^ 32
  pub fits : 8 + records * width ≤ limit_in stat.version
  pub placed : stat.gate < 2 ^ 48

positive : (n : ℕ) → (n == 0) ≡ false → 0 < n
positive n is = elim (cases_lt 0 n) [
  | inl more ↦ more
  | inr none ↦ (let never = eqb-false n 0 is in absurd (never (omega arith)))
]

pub allowed : (width : ℕ) (stat : CvecStat) (records room : ℕ) → first_refusal (append_lines width stat records room) ≡ None → IsAllowed width stat records
allowed width stat records room is =
    let clear = clear_by_none (append_lines width stat records room) is in
    let behind = clear.1.1 in
    let below = leb-false (2 ^ 48) (stat.gate + 14 + records * width) behind.1.1.1.0 in
    record {
      some = positive records behind.0;
      short = ltb-false (2 ^ 32) (stat.size + records) behind.1.0;
      fits = ltb-false (limit_in stat.version) (8 + records * width) behind.1.1.0;
      placed = omega arith;
    }

-- ---- one growth

pub joined_one : {R : Type 0} (new : List R) → joined (new ∷ []) ≡ new
joined_one new = append-nil new

pub payload_one : {R : Type 0} (width : ℕ) (new : List R) → payload_len width (new ∷ []) ≡ 8 + length new * width
payload_one width new = ap (λ n. 8 + n * width) (ap length (joined_one new))

pub length-one : {R : Type 0} (format : Format) (form : Encoding R) (new : List R)
    → ((r : R) → length (form.bytes_of r) ≡ form.width)
    → length (frame_text format (group_frame form (new ∷ []))) ≡ 14 + length new * form.width
length-one format form new wide =
    let a = length-frame_text format (group_frame form (new ∷ [])) in
    let b = length-group_frame format form (new ∷ []) wide in
    let d = payload_one form.width new in
    omega arith

pub length-bytes_of_one : {R : Type 0} (format : Format) (form : Encoding R) (new : List R) (bytes : List ℕ)
    → ((r : R) → length (form.bytes_of r) ≡ form.width)
    → bytes ≡ frame_text format (group_frame form (new ∷ [])) ++ 0 ∷ []
    → length bytes ≡ append_len form.width (length new)
length-bytes_of_one format form new bytes wide is =
    let whole = ap length is ∙ length-append (frame_text format (group_frame form (new ∷ []))) (0 ∷ []) in
    let one = length-one format form new wide in
    omega arith

-- ---- frames

few_in : (format : Format) (frames : List Frame) → length frames ≤ length (flat_map (frame_text format) frames)
few_in format [] = omega arith
few_in format (frame ∷ frames) =
    let rest = few_in format frames in
    let first = length-frame_text format frame in
    let both = length-append (frame_text format frame) (flat_map (frame_text format) frames) in
    omega arith

-- each frame has a byte
pub few_frames : (shape : Shape) (frames : List Frame) → length frames ≤ length (text shape frames)
few_frames shape frames =
    let inside = few_in shape.format frames in
    let both = length-append (header shape) (flat_map (frame_text shape.format) frames) in
    omega arith

pub limit_by_version : (format : Format) (version : ℕ) → version ≡ version_of format → limit_in version ≡ limit_of format
limit_by_version One version is = rw is refl
limit_by_version Two version is = rw is refl

-- ---- an image that has the same bytes before its gate

module _ {R : Type 0} (form : Encoding R) (old : CvecStat) (image other : List ℕ) (records : List R) (stat : HasStat form image records old) (same : IsSameTo old.gate image other) where
  abbrev shape : Shape
  shape = shape_of stat.format form

  abbrev gate : ℕ
  gate = length (text shape stat.frames)

  image_begins : BeginsImage shape image stat.frames
  image_begins = HasFrames_begins shape image stat.frames stat.vector.framed

  front : take old.gate other ≡ text shape stat.frames
  front = same ∙ ap (take old.gate) (image_begins.begins.1) ∙ take_at (text shape stat.frames) (image_begins.begins.0) old.gate (sym stat.gate_is)

  there : other ≡ text shape stat.frames ++ drop old.gate other
  there = sym (take-append-drop old.gate other) ∙ ap (λ (bs : List ℕ). bs ++ drop old.gate other) front

  other_begins : BeginsImage shape other stat.frames
  other_begins = record { legal = image_begins.legal; begins = (drop old.gate other, there) }

  pub stays : IsShutAt other old.gate → HasStat form other records old
  stays shut = record {
    format = stat.format;
    frames = stat.frames;
    vector = record {
      framed = HasFrames_closed shape other stat.frames other_begins (subst (λ n. n < length other) stat.gate_is shut.0) (subst (λ n. get_or other n 0 ≢ 1) stat.gate_is shut.1);
      read = IsVectorOf_begins stat.format form image other stat.frames records image_begins other_begins stat.vector.read;
    };
    version_is = stat.version_is;
    width_is = stat.width_is;
    size_is = stat.size_is;
    frames_are = stat.frames_are;
    changes_are = stat.changes_are;
    folded_is = stat.folded_is;
    gate_is = stat.gate_is;
  }

  module _ (new : List R) (bytes : List ℕ) (next : CvecStat) (wide : 1 ≤ form.width)
      (sized : (r : R) → length (form.bytes_of r) ≡ form.width) (some : 0 < length new)
      (spelled : (format : Format) → bytes ≡ frame_text format (group_frame form (new ∷ [])) ++ 0 ∷ [])
      (again : AreReadAgain form new) (short : old.size + length new ≤ 2 ^ 32)
      (fits : 8 + length new * form.width ≤ limit_in old.version)
      (stands : take (length bytes) (drop old.gate other) ≡ bytes) where
    abbrev frame : Frame
    frame = group_frame form (new ∷ [])

    abbrev rest : List ℕ
    rest = drop (length bytes) (drop old.gate other)

    behind : drop old.gate other ≡ frame_text stat.format frame ++ (0 ∷ rest)
    behind =
        sym (take-append-drop (length bytes) (drop old.gate other))
        ∙ ap (λ (bs : List ℕ). bs ++ rest) (stands ∙ spelled stat.format)
        ∙ append_assoc (frame_text stat.format frame) (0 ∷ []) rest

    whole : other ≡ text shape stat.frames ++ (frame_text stat.format frame ++ (0 ∷ rest))
    whole = there ∙ ap (λ (bs : List ℕ). text shape stat.frames ++ bs) behind

    small : payload_len form.width (new ∷ []) ≤ limit_of stat.format
    small = let one = payload_one form.width new in let limit = limit_by_version stat.format old.version stat.version_is in omega arith

    grown : BeginsImage shape other (stat.frames ++ frame ∷ [])
    grown = Begins_push shape other stat.frames frame (0 ∷ rest) image_begins.legal
        (is_frame stat.format form (new ∷ []) wide sized (omega arith) (some, tt) small)
        (may_follow form (tally_of stat.frames) (new ∷ []) (let size = stat.size_is in let vector = stat.vector.read.size in let one = ap length (joined_one new) in omega arith))
        whole

    again_one : AreReadAgain form (joined (new ∷ []))
    again_one = subst (λ (rs : List R). AreReadAgain form rs) (sym (joined_one new)) again

    read_one : IsVectorOf stat.format form other (stat.frames ++ frame ∷ []) (records ++ joined (new ∷ []))
    read_one = IsVectorOf_group stat.format form other stat.frames records (IsVectorOf_begins stat.format form image other stat.frames records image_begins other_begins stat.vector.read)
        (map length (new ∷ [])) (flat_map form.bytes_of (joined (new ∷ []))) (joined (new ∷ [])) grown (AreRecords_written form (joined (new ∷ [])) sized again_one)

    read_all : IsVectorOf stat.format form other (stat.frames ++ frame ∷ []) (records ++ new)
    read_all = subst (λ (rs : List R). IsVectorOf stat.format form other (stat.frames ++ frame ∷ []) (records ++ rs)) (joined_one new) read_one

    closed : other ≡ text shape (stat.frames ++ frame ∷ []) ++ (0 ∷ rest)
    closed = whole ∙ sym (append_assoc (text shape stat.frames) (frame_text stat.format frame) (0 ∷ rest)) ∙ ap (λ (bs : List ℕ). bs ++ (0 ∷ rest)) (sym (text_push shape stat.frames frame))

    pub has_grown :
        next.version ≡ old.version
        → next.width ≡ old.width → next.changes ≡ old.changes → next.folded ≡ old.folded
        → next.size ≡ old.size + length new → (old.frames < 2 ^ 48 → next.frames ≡ old.frames + 1)
        → old.gate < 2 ^ 48
        → next.gate + 1 ≡ old.gate + length bytes → HasStat form other (records ++ new) next
    has_grown version width changes folded size count placed gate_is = record {
      format = stat.format;
      frames = stat.frames ++ frame ∷ [];
      vector = record {
        framed = record { legal = grown.legal; closed = (0, rest, λ (one : 0 ≡ 1). absurd (omega arith), closed) };
        read = read_all;
      };
      version_is = version ∙ stat.version_is;
      width_is = width ∙ stat.width_is;
      size_is = let was = stat.size_is in let both = length-append records new in omega arith;
      frames_are =
          (let was = stat.frames_are in
          let few = few_frames shape stat.frames in
          let at = stat.gate_is in
          let more = count (omega arith) in let both = length-append stat.frames (frame ∷ []) in omega arith);
      changes_are = changes ∙ stat.changes_are ∙ sym (ap (λ t. t.changes) (tally_from_push nothing stat.frames frame));
      folded_is = folded ∙ stat.folded_is ∙ sym (ap (λ t. t.folded) (tally_from_push nothing stat.frames frame));
      gate_is = (
          let was = stat.gate_is in
          let ended = ap length (text_push shape stat.frames frame) ∙ length-append (text shape stat.frames) (frame_text stat.format frame) in
          let long = ap length (spelled stat.format) ∙ length-append (frame_text stat.format frame) (0 ∷ []) in
          omega arith
          );
    }

-- ---- records that come as bytes

-- of bytes that are records the same is answered as of these
pub answered : {R : Type 0} (form : Encoding R) (stat : CvecStat) (bytes : List ℕ) (room answer : ℕ) (records : List R)
    → 0 < form.width → AreRecords form bytes records
    → first_refusal (append_lines form.width stat (length bytes / form.width) room) ≡ None
    → MatchOption (first_refusal (append_lines form.width stat (length records) room)) ((answer ≡ 0) ⊎ (answer ≡ 6)) (λ refusal. answer ≡ code_of refusal)
    → AnswersFor stat bytes room answer R form
answered form stat bytes room answer records wide are none so =
    let count : length bytes / form.width ≡ length records = ap (λ n. n / form.width) are.filled ∙ mul-div_cancel (length records) wide in
    let there = subst (λ n. MatchOption (first_refusal (append_lines form.width stat n room)) ((answer ≡ 0) ⊎ (answer ≡ 6)) (λ refusal. answer ≡ code_of refusal)) (sym count) so in
    let either : (answer ≡ 0) ⊎ (answer ≡ 6) = subst (λ s. MatchOption s ((answer ≡ 0) ⊎ (answer ≡ 6)) (λ refusal. answer ≡ code_of refusal)) none there in
    let any : (answer ≡ 0) ⊎ ((answer ≡ 6) ⊎ ((answer ≡ 13) × AreNone form bytes)) = (elim either [
      | inl done ↦ inl done
      | inr memory ↦ inr (inl memory)
    ]) in
    subst (λ s. MatchOption s ((answer ≡ 0) ⊎ ((answer ≡ 6) ⊎ ((answer ≡ 13) × AreNone form bytes))) (λ refusal. answer ≡ code_of refusal)) (sym none) any
