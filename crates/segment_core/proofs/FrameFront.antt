-- What stands before the records of a frame tells the frame, whichever bytes stand for these.
use Rattle.std.proofs.Common.{◌≡◌, ℕ, zero, suc, ◌+◌, ◌-◌, ◌*◌, ◌/◌, ◌^◌, ◌≤◌, ◌<◌, false, Bool, List, [], ◌∷◌, ◌++◌, length, take, drop, sum, refl, sym, ap, subst, ◌∙◌}
use Rattle.std.proofs.Common.{append_assoc, arith, inl, inr, ◌⊎◌}
use Rattle.std.specs.Prelude.{slice_index, min, not, nat_lt, nat_le, ◌==◌, ◌&&◌}
use Rattle.std.specs.List.{list_all, flat_map}
use Rattle.std.specs.Int.{w32, to_le_bytes}
use Rattle.std.proofs.lemmas.Bool.{ne_eqb, le-ltb, cases_lt}
use Rattle.std.proofs.lemmas.List.{length-append, length-drop, length-take-le, drop-append-le, take_at, get_or_append_left}
use Rattle.segment_core.specs.declared.fault.ScanFault.{ScanFault}
use Rattle.segment_core.specs.declared.fault.Cause.TheVariants.{NoGate, ShortFrame, Kind, TooLarge, Layout}
use Rattle.segment_core.specs.declared.format.Format.{Format}
use Rattle.segment_core.specs.declared.format.Format.TheVariants.{One, Two}
use Rattle.segment_core.specs.declared.format.FrameKind.{FrameKind}
use Rattle.segment_core.specs.declared.format.FrameKind.TheVariants as kinds
use Rattle.segment_core.specs.declared.format.Shape.{Shape}
use Rattle.segment_core.specs.Shape.{limit_of}
use Rattle.segment_core.specs.Frame.{Run, Frame, Group, Change, Shrink, Fold, kind_of, number_len, run_text, runs_len, records_of_runs, payload_of, frame_text}
use Rattle.segment_core.specs.Kind.{kind_byte}
use Rattle.segment_core.specs.Layout.{IsFrame, HasRuns, u32_at, u64_at, number_at, numbers_in, count_in, lengths_in, homes_in}
use Rattle.segment_core.specs.Layout.{runs_from, run_count_in, runs_in, new_in, is_layout, is_group_layout, is_change_layout}
use Rattle.segment_core.specs.Fault.{frame_lines, damaged, is_kind, is_closed, kind_in, payload_len_in, payload_in}
use Rattle.segment_core.specs.Reading.{BeginsWith, record_bytes_of, head_len}
use Rattle.segment_core.specs.FrameWalk.{with_records, heads_in, heads_len, IsFrameFront}
use Rattle.segment_core.proofs.Numbers.{u32_at-drop, u32_at_first, second_false}
use Rattle.segment_core.proofs.RunRows.{number_at-drop}
use Rattle.segment_core.proofs.WithRecords.{begins_with_records}
use Rattle.segment_core.proofs.Payload.{limit_small, length-group_payload, length-change_payload, length-homes_in, length-new_in, payload_len_in-frame_text, length-frame_text, small_payload}
use Rattle.segment_core.proofs.FrameParts.{front_text, length-front_text, frame_parts, length-payload_of}
use Rattle.segment_core.proofs.Fronts.{u32_more, u64_more}

-- ---- numbers in the front

numbers_in_front : (n : ℕ) (front rest : List ℕ) → n * 4 ≤ length front → numbers_in n (front ++ rest) ≡ numbers_in n front
numbers_in_front zero front rest long = refl
numbers_in_front (suc n) front rest long =
    let l = length-drop 4 front in
    ap (λ k. k ∷ numbers_in n (drop 4 (front ++ rest))) (u32_more front rest 0 (omega arith))
    ∙ ap (λ (bs : List ℕ). u32_at front 0 ∷ numbers_in n bs) (drop-append-le 4 front rest (omega arith))
    ∙ ap (λ (ns : List ℕ). u32_at front 0 ∷ ns) (numbers_in_front n (drop 4 front) rest (omega arith))

number_at_front : (format : Format) (given : ℕ) (front rest : List ℕ) (i : ℕ) → i + number_len format ≤ length front → number_at format given (front ++ rest) i ≡ number_at format given front i
number_at_front One given front rest i long = refl
number_at_front Two given front rest i long = u32_more front rest i long

runs_from_front : (format : Format) (filling n : ℕ) (front rest : List ℕ) → n * (8 + number_len format) ≤ length front → runs_from format filling n (front ++ rest) ≡ runs_from format filling n front
runs_from_front format filling zero front rest long = refl
runs_from_front format filling (suc n) front rest long =
    let size : ℕ = 8 + number_len format in
    let l = length-drop size front in
    let more : suc n * size ≡ size + n * size = omega arith in
    let first : Run = record { start = u64_at front 0; count = number_at format filling front 8 } in
    let same : record { start = u64_at (front ++ rest) 0; count = number_at format filling (front ++ rest) 8 } ≡ first
    = ap (λ k. record { start = k; count = number_at format filling (front ++ rest) 8 }) (u64_more front rest 0 (omega arith))
    ∙ ap (λ k. record { start = u64_at front 0; count = k }) (number_at_front format filling front rest 8 (omega arith)) in
    ap (λ (run : Run). run ∷ runs_from format filling n (drop size (front ++ rest))) same
    ∙ ap (λ (bs : List ℕ). first ∷ runs_from format filling n bs) (drop-append-le size front rest (omega arith))
    ∙ ap (λ (rs : List Run). first ∷ rs) (runs_from_front format filling n (drop size front) rest (omega arith))

-- ---- two payloads that begin alike

-- the payload's first bytes hold all growths' lengths, or all runs
abbrev HoldsHeads : Format → FrameKind → List ℕ → Type 0
HoldsHeads format kinds.Group a = 4 + u32_at a 0 * 4 ≤ length a
HoldsHeads format kinds.Change a = runs_len format (number_at format 1 a 0) ≤ length a
HoldsHeads format kinds.Shrink a = Unit {0}
HoldsHeads format kinds.Fold a = Unit {0}

abbrev group_tests : ℕ → ℕ → ℕ → List ℕ → ℕ → Bool
group_tests width n c ls h = nat_le 4 n && (nat_lt 0 c && (nat_le (4 + c * 4) n && (list_all (nat_lt 0) ls && (h == sum ls * width))))

abbrev change_tests : Shape → ℕ → ℕ → List Run → ℕ → Bool
change_tests shape n c rs h =
    nat_le (number_len shape.format) n && (nat_lt 0 c && (nat_le (runs_len shape.format c) n && (list_all (λ run. nat_lt 0 run.count) rs && (h == records_of_runs rs * shape.width))))

module _ (shape : Shape) (a r s : List ℕ) (same : length r ≡ length s) where
  size : length (a ++ r) ≡ length (a ++ s)
  size = length-append a r ∙ ap (λ n. length a + n) same ∙ sym (length-append a s)

  lengths_front : (rest : List ℕ) → 4 + u32_at a 0 * 4 ≤ length a → lengths_in (a ++ rest) ≡ numbers_in (u32_at a 0) (drop 4 a)
  lengths_front rest long =
      let l = length-drop 4 a in
      ap (λ n. numbers_in n (drop 4 (a ++ rest))) (u32_more a rest 0 (omega arith))
      ∙ ap (numbers_in (u32_at a 0)) (drop-append-le 4 a rest (omega arith))
      ∙ numbers_in_front (u32_at a 0) (drop 4 a) rest (omega arith)

  same_group : 4 + u32_at a 0 * 4 ≤ length a → is_group_layout shape.width (a ++ r) ≡ is_group_layout shape.width (a ++ s)
  unfolding is_group_layout
  same_group long =
      let count : count_in (a ++ r) ≡ count_in (a ++ s) = u32_more a r 0 (omega arith) ∙ sym (u32_more a s 0 (omega arith)) in
      let lengths : lengths_in (a ++ r) ≡ lengths_in (a ++ s) = lengths_front r long ∙ sym (lengths_front s long) in
      let homes : length (homes_in (a ++ r)) ≡ length (homes_in (a ++ s))
      = length-homes_in (a ++ r) (count_in (a ++ r)) refl
      ∙ ap (λ n. n - (4 + count_in (a ++ r) * 4)) size
      ∙ ap (λ c. length (a ++ s) - (4 + c * 4)) count
      ∙ sym (length-homes_in (a ++ s) (count_in (a ++ s)) refl) in
      ap (λ n. group_tests shape.width n (count_in (a ++ r)) (lengths_in (a ++ r)) (length (homes_in (a ++ r)))) size
      ∙ ap (λ n. group_tests shape.width (length (a ++ s)) n (lengths_in (a ++ r)) (length (homes_in (a ++ r)))) count
      ∙ ap (λ (ls : List ℕ). group_tests shape.width (length (a ++ s)) (count_in (a ++ s)) ls (length (homes_in (a ++ r)))) lengths
      ∙ ap (λ n. group_tests shape.width (length (a ++ s)) (count_in (a ++ s)) (lengths_in (a ++ s)) n) homes

  abbrev filling : List ℕ → ℕ
  filling rest = (length (a ++ rest) - 8) / shape.width

  runs_front : (rest : List ℕ) → runs_len shape.format (number_at shape.format 1 a 0) ≤ length a
      → runs_in shape (a ++ rest) ≡ runs_from shape.format (filling rest) (number_at shape.format 1 a 0) (drop (number_len shape.format) a)
  runs_front rest long =
      let l = length-drop (number_len shape.format) a in
      ap (λ n. runs_from shape.format (filling rest) n (drop (number_len shape.format) (a ++ rest))) (number_at_front shape.format 1 a rest 0 (omega arith))
      ∙ ap (runs_from shape.format (filling rest) (number_at shape.format 1 a 0)) (drop-append-le (number_len shape.format) a rest (omega arith))
      ∙ runs_from_front shape.format (filling rest) (number_at shape.format 1 a 0) (drop (number_len shape.format) a) rest (omega arith)

  same_change : runs_len shape.format (number_at shape.format 1 a 0) ≤ length a → is_change_layout shape (a ++ r) ≡ is_change_layout shape (a ++ s)
  unfolding is_change_layout
  same_change long =
      let count : run_count_in shape.format (a ++ r) ≡ run_count_in shape.format (a ++ s)
      = number_at_front shape.format 1 a r 0 (omega arith) ∙ sym (number_at_front shape.format 1 a s 0 (omega arith)) in
      let runs : runs_in shape (a ++ r) ≡ runs_in shape (a ++ s)
      = runs_front r long
      ∙ ap (λ n. runs_from shape.format ((n - 8) / shape.width) (number_at shape.format 1 a 0) (drop (number_len shape.format) a)) size
      ∙ sym (runs_front s long) in
      let new : length (new_in shape.format (a ++ r)) ≡ length (new_in shape.format (a ++ s))
      = length-new_in shape.format (a ++ r) (run_count_in shape.format (a ++ r)) refl
      ∙ ap (λ n. n - runs_len shape.format (run_count_in shape.format (a ++ r))) size
      ∙ ap (λ c. length (a ++ s) - runs_len shape.format c) count
      ∙ sym (length-new_in shape.format (a ++ s) (run_count_in shape.format (a ++ s)) refl) in
      ap (λ n. change_tests shape n (run_count_in shape.format (a ++ r)) (runs_in shape (a ++ r)) (length (new_in shape.format (a ++ r)))) size
      ∙ ap (λ n. change_tests shape (length (a ++ s)) n (runs_in shape (a ++ r)) (length (new_in shape.format (a ++ r)))) count
      ∙ ap (λ (rs : List Run). change_tests shape (length (a ++ s)) (run_count_in shape.format (a ++ s)) rs (length (new_in shape.format (a ++ r)))) runs
      ∙ ap (λ n. change_tests shape (length (a ++ s)) (run_count_in shape.format (a ++ s)) (runs_in shape (a ++ s)) n) new

  same_layout : (kind : FrameKind) → HoldsHeads shape.format kind a → is_layout shape (kind_byte kind) (a ++ r) ≡ is_layout shape (kind_byte kind) (a ++ s)
  same_layout kinds.Group long = same_group long
  same_layout kinds.Change long = same_change long
  same_layout kinds.Shrink long = ap (λ n. n == 8) size
  same_layout kinds.Fold long = ap (λ n. n == 8) size

-- ---- the heads that a front tells

-- the number that stands at byte 6 of a front, if the text of the frame has it there
abbrev TellsNumber : List ℕ → List ℕ → Type 0
TellsNumber front text = (n : ℕ) (more : List ℕ) → n < 2 ^ 32 → 10 ≤ length front → drop 6 text ≡ to_le_bytes w32 n ++ more → u32_at front 6 ≡ n

runs_told : (format : Format) (runs : List Run) (bytes front : List ℕ) (len : ℕ)
    → HasRuns format runs → length runs < 2 ^ 32 → len ≡ runs_len format (length runs) + length bytes
    → length front ≡ 6 + min len (runs_len format (number_at format 1 front 6)) → TellsNumber front (frame_text format (Change runs bytes))
    → runs_len format (number_at format 1 front 6) ≡ runs_len format (length runs)
runs_told One runs bytes front len has few all size tells = ap (runs_len One) (sym has)
runs_told Two runs bytes front len has few all size tells =
    ap (runs_len Two)
    (tells (length runs) (flat_map (run_text Two) runs ++ bytes) few (omega arith) (append_assoc (to_le_bytes w32 (length runs)) (flat_map (run_text Two) runs) bytes))

heads_told : (shape : Shape) (kind : FrameKind) (f : Frame) (front : List ℕ) (len : ℕ)
    → IsFrame shape f → kind_byte kind ≡ kind_of f → len ≡ length (payload_of shape.format f)
    → length front ≡ 6 + min len (heads_len shape.format kind (heads_in shape.format kind front)) → TellsNumber front (frame_text shape.format f)
    → heads_len shape.format kind (heads_in shape.format kind front) ≡ head_len shape.format f
heads_told shape kinds.Group (Group lengths bytes) front len whole same all size tells =
    let l = length-group_payload shape.format lengths bytes in
    let limit = limit_small shape.format in
    let small = whole.small in
    let is = tells (length lengths) (flat_map (to_le_bytes w32) lengths ++ bytes) (omega arith) (omega arith) refl in
    ap (λ n. 4 + n * 4) is
heads_told shape kinds.Change (Change runs bytes) front len whole same all size tells =
    let l = length-change_payload shape.format runs bytes in
    let limit = limit_small shape.format in
    let small = whole.small in
    let product : length runs * 8 ≤ length runs * (8 + number_len shape.format) = omega arith in
    runs_told shape.format runs bytes front len whole.layout.0 (omega arith) (all ∙ l) size tells
heads_told shape kinds.Shrink (Shrink n) front len whole same all size tells = refl
heads_told shape kinds.Fold (Fold count) front len whole same all size tells = refl
heads_told shape kinds.Group (Change runs bytes) front len whole same all size tells = absurd (omega arith)
heads_told shape kinds.Group (Shrink n) front len whole same all size tells = absurd (omega arith)
heads_told shape kinds.Group (Fold count) front len whole same all size tells = absurd (omega arith)
heads_told shape kinds.Change (Group lengths bytes) front len whole same all size tells = absurd (omega arith)
heads_told shape kinds.Change (Shrink n) front len whole same all size tells = absurd (omega arith)
heads_told shape kinds.Change (Fold count) front len whole same all size tells = absurd (omega arith)
heads_told shape kinds.Shrink (Group lengths bytes) front len whole same all size tells = absurd (omega arith)
heads_told shape kinds.Shrink (Change runs bytes) front len whole same all size tells = absurd (omega arith)
heads_told shape kinds.Shrink (Fold count) front len whole same all size tells = absurd (omega arith)
heads_told shape kinds.Fold (Group lengths bytes) front len whole same all size tells = absurd (omega arith)
heads_told shape kinds.Fold (Change runs bytes) front len whole same all size tells = absurd (omega arith)
heads_told shape kinds.Fold (Shrink n) front len whole same all size tells = absurd (omega arith)

-- ---- a front of a frame

take_past : (n : ℕ) (xs ys : List ℕ) → length xs ≤ n → take n (xs ++ ys) ≡ xs ++ take (n - length xs) ys
take_past n [] ys le = let same : n - 0 ≡ n = omega arith in ap (λ m. take m ys) (sym same)
take_past zero (x ∷ xs) ys le = absurd (omega arith)
take_past (suc n) (x ∷ xs) ys le =
    let same : n - length xs ≡ suc n - length (x ∷ xs) = omega arith in
    ap (λ (zs : List ℕ). x ∷ zs) (take_past n xs ys (omega arith)) ∙ ap (λ m. x ∷ (xs ++ take m ys)) same

no_bytes : (xs : List ℕ) → length xs ≡ 0 → xs ≡ []
no_bytes [] none = refl
no_bytes (x ∷ xs) none = absurd (omega arith)

-- what the front of frame tells of bytes that begin with it
abbrev lines_by : Shape → ℕ → Bool → Bool → ℕ → ℕ → Bool → Bool → List (Bool × ScanFault)
lines_by shape p none short kind len cut formed =
    (none, damaged p NoGate) ∷ (short, damaged p ShortFrame) ∷ (not (is_kind kind), damaged (p + 1) (Kind kind)) ∷ (nat_lt (limit_of shape.format) len, damaged (p + 2) TooLarge)
    ∷ (cut, damaged p ShortFrame) ∷ (not formed, damaged (p + 6) Layout) ∷ []

module _ (shape : Shape) (kind : FrameKind) (len : ℕ) (front : List ℕ) (is : IsFrameFront shape.format kind len front) where
  abbrev payload_len : ℕ
  payload_len = payload_len_in front

  abbrev heads : ℕ
  heads = heads_in shape.format kind front

  long : 6 ≤ length front
  long = let size = is.size in omega arith

  pub inside : length front ≤ len
  inside = let size = is.size in let all = is.len_is in omega arith

  -- the head, whatever follows
  kind_here : (rest : List ℕ) → kind_in (front ++ rest) ≡ kind_byte kind
  kind_here rest = let l = long in get_or_append_left front rest 0 1 (omega arith) ∙ is.kind_is

  pub opened_here : (rest : List ℕ) → slice_index (front ++ rest) 0 ≡ 1
  opened_here rest = let l = long in get_or_append_left front rest 0 0 (omega arith) ∙ is.opened

  len_here : (rest : List ℕ) → payload_len_in (front ++ rest) ≡ payload_len
  len_here rest = u32_more front rest 2 (let l = long in omega arith)

  -- the payload: what is left of the front, and as many bytes as are missing
  abbrev left : ℕ
  left = payload_len - length (drop 6 front)

  payload_here : (rest : List ℕ) → payload_in (front ++ rest) ≡ drop 6 front ++ take left rest
  payload_here rest =
      let l = length-drop 6 front in
      let in_len = inside in
      let all = is.len_is in
      ap (λ n. take n (drop 6 (front ++ rest))) (len_here rest)
      ∙ ap (take payload_len) (drop-append-le 6 front rest long)
      ∙ take_past payload_len (drop 6 front) rest (omega arith)

  holds : (left ≡ 0) ⊎ HoldsHeads shape.format kind (drop 6 front)
  holds = elim (cases_lt left 1) [
    | inl none ↦ inl (omega arith)
    | inr some ↦ inr (by_kind kind is.size some)
  ]
    where
      by_kind : (k : FrameKind) → length front ≡ 6 + min payload_len (heads_len shape.format k (heads_in shape.format k front)) → 1 ≤ left
          → HoldsHeads shape.format k (drop 6 front)
      by_kind kinds.Group size some =
          let l = length-drop 6 front in
          let at = u32_at-drop front 6 0 in
          omega arith
      by_kind kinds.Change size some =
          let l = length-drop 6 front in
          subst (λ n. runs_len shape.format n ≤ length (drop 6 front)) (sym (number_at-drop shape.format 1 front 6 0)) (omega arith)
      by_kind kinds.Shrink size some = tt
      by_kind kinds.Fold size some = tt

  -- two images in which the whole frame stands have the same lines
  layout_here : (r s : List ℕ) → len ≤ length (front ++ r) → len ≤ length (front ++ s)
      → is_layout shape (kind_byte kind) (payload_in (front ++ r)) ≡ is_layout shape (kind_byte kind) (payload_in (front ++ s))
  layout_here r s whole_r whole_s =
      let a : List ℕ = drop 6 front in
      let l = length-drop 6 front in
      let all = is.len_is in
      let long_r = length-append front r in
      let long_s = length-append front s in
      let first = long in
      let len_r : length (take left r) ≡ left = length-take-le left r (omega arith) in
      let len_s : length (take left s) ≡ left = length-take-le left s (omega arith) in
      ap (is_layout shape (kind_byte kind)) (payload_here r)
      ∙ (elim holds [
        | inl none ↦ ap (λ (bs : List ℕ). is_layout shape (kind_byte kind) (a ++ bs)) (no_bytes (take left r) (len_r ∙ none) ∙ sym (no_bytes (take left s) (len_s ∙ none)))
        | inr heads ↦ same_layout shape a (take left r) (take left s) (len_r ∙ sym len_s) kind heads
      ])
      ∙ sym (ap (is_layout shape (kind_byte kind)) (payload_here s))

  lines_here : (p : ℕ) (rest : List ℕ) → len ≤ length (front ++ rest)
      → frame_lines shape p (front ++ rest) ≡ lines_by shape p false false (kind_byte kind) payload_len false (is_layout shape (kind_byte kind) (payload_in (front ++ rest)))
  unfolding frame_lines
  lines_here p rest whole =
      let bytes : List ℕ = front ++ rest in
      let all = is.len_is in
      let told = len_here rest in
      let none : (length bytes == 0) ≡ false = ne_eqb (length bytes) 0 (λ (e : length bytes ≡ 0). absurd (omega arith)) in
      let short : nat_lt (length bytes) 6 ≡ false = le-ltb (length bytes) 6 (omega arith) in
      let cut : nat_lt (length bytes) (6 + payload_len_in bytes) ≡ false = le-ltb (length bytes) (6 + payload_len_in bytes) (omega arith) in
      ap (λ b. lines_by shape p b (nat_lt (length bytes) 6) (kind_in bytes) (payload_len_in bytes) (nat_lt (length bytes) (6 + payload_len_in bytes))
      (is_layout shape (kind_in bytes) (payload_in bytes))) none
      ∙ ap (λ b. lines_by shape p false b (kind_in bytes) (payload_len_in bytes) (nat_lt (length bytes) (6 + payload_len_in bytes)) (is_layout shape (kind_in bytes) (payload_in bytes))) short
      ∙ ap (λ b. lines_by shape p false false (kind_in bytes) (payload_len_in bytes) b (is_layout shape (kind_in bytes) (payload_in bytes))) cut
      ∙ ap (λ k. lines_by shape p false false k (payload_len_in bytes) false (is_layout shape k (payload_in bytes))) (kind_here rest)
      ∙ ap (λ n. lines_by shape p false false (kind_byte kind) n false (is_layout shape (kind_byte kind) (payload_in bytes))) told

  pub same_lines : (p : ℕ) (r s : List ℕ) → len ≤ length (front ++ r) → len ≤ length (front ++ s) → frame_lines shape p (front ++ r) ≡ frame_lines shape p (front ++ s)
  same_lines p r s whole_r whole_s =
      lines_here p r whole_r
      ∙ ap (lines_by shape p false false (kind_byte kind) payload_len false) (layout_here r s whole_r whole_s)
      ∙ sym (lines_here p s whole_s)

  pub open_here : (rest : List ℕ) → is_closed (front ++ rest) ≡ false
  open_here rest = second_false (nat_lt 0 (length (front ++ rest))) _ (ap (λ n. not (n == 1)) (opened_here rest))

  -- ---- the frame that was read

  module _ (rest : List ℕ) (f : Frame) (begins : BeginsWith shape (front ++ rest) f) where
    abbrev text : List ℕ
    text = frame_text shape.format f

    payload_told : payload_len ≡ length (payload_of shape.format f)
    payload_told =
        sym (len_here rest) ∙ ap payload_len_in begins.text.1
        ∙ payload_len_in-frame_text shape.format f begins.text.0 (small_payload shape f begins.whole)

    kind_told : kind_byte kind ≡ kind_of f
    kind_told = sym (kind_here rest) ∙ ap kind_in begins.text.1

    -- the number that begins the payload
    number_told : TellsNumber front text
    number_told n more few ten is_text =
        sym (u32_more front rest 6 ten) ∙ ap (λ (bs : List ℕ). u32_at bs 6) begins.text.1
        ∙ sym (u32_at-drop (text ++ begins.text.0) 6 0)
        ∙ ap (λ (bs : List ℕ). u32_at bs 0)
        (drop-append-le 6 text begins.text.0 (let l = length-frame_text shape.format f in omega arith)
        ∙ ap (λ (bs : List ℕ). bs ++ begins.text.0) is_text ∙ append_assoc (to_le_bytes w32 n) more begins.text.0)
        ∙ u32_at_first n (more ++ begins.text.0) few

    front_told : front ≡ front_text shape.format f
    front_told =
        let told = heads_told shape kind f front payload_len begins.whole kind_told payload_told is.size number_told in
        let parts = length-payload_of shape.format f in
        let all = payload_told in
        let size = is.size in
        let same : length (front_text shape.format f) ≡ length front = length-front_text shape.format f ∙ omega arith in
        sym (take_at front rest (length front) refl)
        ∙ ap (take (length front))
        (begins.text.1 ∙ ap (λ (bs : List ℕ). bs ++ begins.text.0) (frame_parts shape.format f) ∙ append_assoc (front_text shape.format f) (record_bytes_of f) begins.text.0)
        ∙ take_at (front_text shape.format f) (record_bytes_of f ++ begins.text.0) (length front) same

    pub front_long : length front ≡ 6 + head_len shape.format f
    front_long = ap length front_told ∙ length-front_text shape.format f

    pub len_told : len ≡ length text
    len_told = is.len_is ∙ ap (λ n. 6 + n) payload_told ∙ sym (length-frame_text shape.format f)

    -- the frame that begins others bytes that begin so
    pub begins_there : (others : List ℕ) → len ≤ length (front ++ others)
        → BeginsWith shape (front ++ others) (with_records f (take (length (record_bytes_of f)) others))
    begins_there others whole =
        let parts = length-payload_of shape.format f in
        let all = len_told in
        let l = length-frame_text shape.format f in
        let first = front_long in
        let both = length-append front others in
        subst (λ (bs : List ℕ). BeginsWith shape (bs ++ others) (with_records f (take (length (record_bytes_of f)) others))) (sym front_told)
        (begins_with_records shape f others begins.whole (omega arith))
