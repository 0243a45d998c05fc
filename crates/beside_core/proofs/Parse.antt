-- Bytes that are the text of frames, but for those that may differ, are the text of frames that were read: they differ in
-- home bytes of positions that a later change covers.
use Rattle.std.proofs.Common.{◌≡◌, ◌⊎◌, ℕ, zero, suc, ◌+◌, ◌-◌, ◌*◌, ◌≤◌, ◌<◌, List, [], ◌∷◌, ◌++◌, length, take, drop, sum, get_or, Some, refl, sym, ap, subst, ◌∙◌, arith, inl, inr, append_assoc}
use Rattle.std.specs.Prelude.{slice_get}
use Rattle.std.specs.List.{flat_map}
use Rattle.std.specs.Int.{w32, to_le_bytes}
use Rattle.std.proofs.lemmas.List.{length-append, length-drop, length-take-le, get_or-take, get_or-drop, get_or_append_left, get_or-append-add, take-append-drop, drop-drop, ext_get_or}
use Rattle.std.proofs.lemmas.Bool.{cases_lt}
use Rattle.std.proofs.lemmas.Nat.{row_fits}
use Rattle.segment_core.specs.declared.format.Format.{Format}
use Rattle.segment_core.specs.declared.format.Shape.{Shape}
use Rattle.segment_core.specs.declared.tally.Tally.{Tally}
use Rattle.segment_core.specs.Frame.{Frame, Group, Change, Shrink, Fold, frame_text, payload_of}
use Rattle.segment_core.specs.Layout.{IsFrame}
use Rattle.segment_core.specs.Tally.{after, AreLegalFrom}
use Rattle.segment_core.specs.Raw.{cells_in}
use Rattle.segment_core.proofs.FrameParts.{head_text, front_text, length-front_text, frame_parts, length-payload_of}
use Rattle.segment_core.proofs.Loose.{take_same}
use Rattle.segment_core.proofs.Raw.{slice_get-cells_in}
use Rattle.beside_core.specs.MayDiffer.{WillChange, size_after, MayDifferIn, MayDiffer}
use Rattle.beside_core.proofs.Read.{AreTextThatMayDiffer, AreTextOfRead}

-- each of the first n is so, or something else holds
all_or : {P : ℕ → Type 0} {Q : Type 0} (n : ℕ) → ((j : ℕ) → j < n → P j ⊎ Q) → ((j : ℕ) → j < n → P j) ⊎ Q
all_or zero each = inl (λ j lt. absurd (omega arith))
all_or {P} {Q} (suc n) each = elim (all_or {P = P} {Q = Q} n (λ j lt. each j (omega arith))) [
  | inl all ↦ elim (each n (omega arith)) [
    | inl last ↦ inl (λ j lt. elim (cases_lt j n) [ inl below ↦ all j below | inr here ↦ (let is : n ≡ j = omega arith in subst P is last) ])
    | inr q ↦ inr q
  ]
  | inr q ↦ inr q
]

-- a byte lies in one row
one_row : (width i j x : ℕ) → i * width ≤ x → x < i * width + width → j * width ≤ x → x < j * width + width → i ≡ j
one_row width i j x a b c d = elim (cases_lt i j) [
  | inl lt ↦ (let fits = row_fits i width j width lt (omega arith) in absurd (omega arith))
  | inr ge ↦ elim (cases_lt j i) [
    | inl lt ↦ (let fits = row_fits j width i width lt (omega arith) in absurd (omega arith))
    | inr le ↦ omega arith
  ]
]

module _ (shape : Shape) (size : ℕ) (frame : Frame) (later : List Frame) (got : List ℕ) (are : AreTextThatMayDiffer shape size (frame ∷ later) got) where
  abbrev format : Format
  format = shape.format

  abbrev own : List ℕ
  own = frame_text format frame

  abbrev behind : List ℕ
  behind = flat_map (frame_text format) later

  all_long : length got ≡ length own + length behind
  all_long = are.long ∙ length-append own behind

  -- a byte of the first frame
  own_byte : (j : ℕ) → j < length own → (get_or got j 0 ≡ get_or own j 0) ⊎ MayDifferIn shape size later frame j
  own_byte j lt = elim (are.each j (omega (arith, all_long, lt))) [
    | inl same ↦ inl (same ∙ get_or_append_left own behind 0 j lt)
    | inr differs ↦ elim differs [
      | inl here ↦ inr here
      | inr there ↦ absurd (omega (arith, there.0, lt))
    ]
  ]

  -- the bytes behind it
  rest_are : ((j : ℕ) → MayDifferIn shape size later frame j → j < length own) → AreTextThatMayDiffer shape (size_after size frame) later (drop (length own) got)
  rest_are inside = record {
    long = omega (arith, length-drop (length own) got, all_long);
    each = λ j lt. (
        let small : length own + j < length got = omega (arith, lt, length-drop (length own) got) in
        let is : length own + j - length own ≡ j = omega arith in
        elim (are.each (length own + j) small) [
          | inl same ↦ inl (get_or-drop (length own) got j 0 ∙ same ∙ get_or-append-add own behind j 0)
          | inr differs ↦ elim differs [
            | inl here ↦ (let lt' = inside (length own + j) here in absurd (omega arith))
            | inr there ↦ inr (subst (λ k. MayDiffer shape (size_after size frame) later k) is there.1)
          ]
        ]);
  }

  -- a frame that has no home bytes
  own_stays : ((j : ℕ) → MayDifferIn shape size later frame j → ⊥) → take (length own) got ≡ own
  own_stays none =
      let long = length-take-le (length own) got (omega (arith, all_long)) in
      ext_get_or 0 (take (length own) got) own long (λ j lt.
      let small : j < length own = omega (arith, lt, long) in
      get_or-take (length own) got j 0 small ∙ elim (own_byte j small) [ inl same ↦ same | inr differs ↦ absurd (none j differs) ])

  got_is : take (length own) got ≡ own → got ≡ own ++ drop (length own) got
  got_is same = sym (take-append-drop (length own) got) ∙ ap (λ (bs : List ℕ). bs ++ drop (length own) got) same

-- the text of a group with other home bytes
group_text : (format : Format) (lengths bytes new : List ℕ) → length new ≡ length bytes → frame_text format (Group lengths new) ≡ front_text format (Group lengths bytes) ++ new
group_text format lengths bytes new same =
    let payloads : length (payload_of format (Group lengths new)) ≡ length (payload_of format (Group lengths bytes)) = length-payload_of format (Group lengths new)
    ∙ ap (λ n. 4 + length lengths * 4 + n) same ∙ sym (length-payload_of format (Group lengths bytes)) in
    frame_parts format (Group lengths new) ∙ ap (λ n. (1 ∷ 1 ∷ to_le_bytes w32 n) ++ head_text format (Group lengths new) ++ new) payloads

-- ---- one group

module _ (shape : Shape) (size : ℕ) (lengths bytes : List ℕ) (later : List Frame) (got : List ℕ) (whole : IsFrame shape (Group lengths bytes)) (are : AreTextThatMayDiffer shape size
    (Group lengths bytes ∷ later) got) where
  abbrev g : Frame
  g = Group lengths bytes

  abbrev front : List ℕ
  front = front_text shape.format (Group lengths bytes)

  abbrev k : ℕ
  k = length (front_text shape.format (Group lengths bytes))

  abbrev homes : List ℕ
  homes = take (length bytes) (drop (length (front_text shape.format (Group lengths bytes))) got)

  k_is : k ≡ 10 + length lengths * 4
  k_is = omega (arith, length-front_text shape.format (Group lengths bytes))

  own_long : length (frame_text shape.format (Group lengths bytes)) ≡ k + length bytes
  own_long = ap length (frame_parts shape.format (Group lengths bytes)) ∙ length-append front bytes

  enough : k + length bytes ≤ length got
  enough = omega (arith, all_long shape size (Group lengths bytes) later got are, own_long)

  filled : length bytes ≡ sum lengths * shape.width
  filled = whole.layout.2

  homes_long : length homes ≡ length bytes
  homes_long = length-take-le (length bytes) (drop k got) (omega (arith, length-drop k got, enough))

  -- a byte that may differ lies in the group
  inside : (j : ℕ) → MayDifferIn shape size later (Group lengths bytes) j → j < length (frame_text shape.format (Group lengths bytes))
  inside j differs =
      let fits = row_fits differs.0 shape.width (sum lengths) shape.width differs.1 (omega arith) in
      omega (arith, own_long, k_is, filled, differs.3, fits)

  front_stays : take k got ≡ front
  front_stays =
      let long = length-take-le k got (omega (arith, enough)) in
      ext_get_or 0 (take k got) front long (λ j lt.
      let small : j < k = omega (arith, lt, long) in
      get_or-take k got j 0 small ∙ elim (own_byte shape size (Group lengths bytes) later got are j (omega (arith, own_long, small))) [
        | inl same ↦ (same ∙ ap (λ (bs : List ℕ). get_or bs j 0) (frame_parts shape.format (Group lengths bytes)) ∙ get_or_append_left front bytes 0 j small)
        | inr differs ↦ absurd (omega (arith, differs.2, k_is, small))
      ])

  home_byte : (x : ℕ) → x < length bytes → (get_or homes x 0 ≡ get_or bytes x 0) ⊎ MayDifferIn shape size later (Group lengths bytes) (k + x)
  home_byte x lt = elim (own_byte shape size (Group lengths bytes) later got are (k + x) (omega (arith, own_long, lt))) [
    | inl same ↦ inl (get_or-take (length bytes) (drop k got) x 0 lt ∙ get_or-drop k got x 0 ∙ same
        ∙ ap (λ (bs : List ℕ). get_or bs (k + x) 0) (frame_parts shape.format (Group lengths bytes)) ∙ get_or-append-add front bytes x 0)
    | inr differs ↦ inr differs
  ]

  -- one record's bytes are those that were written, or a later change says what stands
  cell : (i : ℕ) → i < sum lengths → (slice_get (cells_in shape.width (sum lengths) homes) i ≡ slice_get (cells_in shape.width (sum lengths) bytes) i) ⊎ WillChange (size + i) later
  cell i lt =
      let fits = row_fits i shape.width (sum lengths) shape.width lt (omega arith) in
      elim (all_or {P = λ y. get_or homes (i * shape.width + y) 0 ≡ get_or bytes (i * shape.width + y) 0} {Q = WillChange (size + i) later} shape.width (λ y small. at y small (home_byte
      (i * shape.width + y) (omega (arith, fits, filled, small))))) [
        | inl all ↦ inl (
            slice_get-cells_in shape.width (sum lengths) homes i lt
            ∙ ap (λ (bs : List ℕ). Some bs) (take_same shape.width (i * shape.width) homes bytes (omega (arith, homes_long, fits, filled)) (omega (arith, fits, filled))
            (λ j from before. by_row all j from before))
            ∙ sym (slice_get-cells_in shape.width (sum lengths) bytes i lt))
        | inr said ↦ inr said
      ]
    where
      by_row : ((y : ℕ) → y < shape.width → get_or homes (i * shape.width + y) 0 ≡ get_or bytes (i * shape.width + y) 0) → (j : ℕ) → i * shape.width ≤ j
          → j < i * shape.width + shape.width → get_or homes j 0 ≡ get_or bytes j 0
      by_row all j from before =
          let y : ℕ = j - i * shape.width in
          let is : i * shape.width + y ≡ j = omega (arith, from) in
          subst (λ n. get_or homes n 0 ≡ get_or bytes n 0) is (all y (omega (arith, before, from)))

      at : (y : ℕ) → y < shape.width → (get_or homes (i * shape.width + y) 0 ≡ get_or bytes (i * shape.width + y) 0) ⊎ MayDifferIn shape size later (Group lengths bytes) (k + (i * shape.width + y))
          → (get_or homes (i * shape.width + y) 0 ≡ get_or bytes (i * shape.width + y) 0) ⊎ WillChange (size + i) later
      at y small (inl same) = inl same
      at y small (inr differs) =
          let same : differs.0 ≡ i = one_row shape.width differs.0 i (i * shape.width + y) (omega (arith, differs.2, k_is)) (omega (arith, differs.3, k_is)) (omega arith) (omega (arith, small)) in
          inr (subst (λ n. WillChange (size + n) later) same differs.4)

  group_is : got ≡ frame_text shape.format (Group lengths homes) ++ drop (length (frame_text shape.format (Group lengths bytes))) got
  group_is =
      sym (take-append-drop k got)
      ∙ ap (λ (bs : List ℕ). bs ++ drop k got) front_stays
      ∙ ap (λ (bs : List ℕ). front ++ bs) (sym (take-append-drop (length bytes) (drop k got)) ∙ ap (λ (bs : List ℕ). homes ++ bs) (drop-drop (length bytes) k got
      ∙ ap (λ n. drop n got) (sym own_long)))
      ∙ sym (append_assoc front homes (drop (length (frame_text shape.format (Group lengths bytes))) got))
      ∙ ap (λ (bs : List ℕ). bs ++ drop (length (frame_text shape.format (Group lengths bytes))) got) (sym (group_text shape.format lengths bytes homes homes_long))

-- ---- all frames

pub parses : (shape : Shape) (tally : Tally) (size : ℕ) (frames : List Frame) (got : List ℕ) → AreLegalFrom shape tally frames → AreTextThatMayDiffer shape size frames got
    → AreTextOfRead shape size frames got
parses shape tally size [] got legal are = record { reads = []; text = empty got are.long; are = refl }
  where
    empty : (xs : List ℕ) → length xs ≡ 0 → xs ≡ []
    empty [] none = refl
    empty (x ∷ xs) none = absurd (omega arith)
parses shape tally size (Group lengths bytes ∷ later) got legal are =
    let rest = parses shape (after tally (Group lengths bytes)) (size + sum lengths) later (drop (length (frame_text shape.format (Group lengths bytes))) got) legal.2
    (rest_are shape size (Group lengths bytes) later got are (λ j differs. inside shape size lengths bytes later got legal.0 are j differs)) in
    let homes : List ℕ = take (length bytes) (drop (length (front_text shape.format (Group lengths bytes))) got) in
    record {
      reads = Group lengths homes ∷ rest.reads;
      text = group_is shape size lengths bytes later got legal.0 are ∙ ap (λ (bs : List ℕ). frame_text shape.format (Group lengths homes) ++ bs) rest.text;
      are = (
        Group lengths homes,
        rest.reads,
        refl,
        (
          homes,
          refl,
          (λ i lt. cell shape size lengths bytes later got legal.0 are i lt),
          homes_long shape size lengths bytes later got legal.0
              are,
        ),
        rest.are,
      );
    }
parses shape tally size (Change runs bytes ∷ later) got legal are =
    let rest = parses shape (after tally (Change runs bytes)) size later (drop (length (frame_text shape.format (Change runs bytes))) got) legal.2 (rest_are shape size
    (Change runs bytes) later got are (λ j differs. absurd differs)) in
    record {
      reads = Change runs bytes ∷ rest.reads;
      text = got_is shape size (Change runs bytes) later got are (own_stays shape size (Change runs bytes) later got are (λ j differs. differs))
          ∙ ap (λ (bs : List ℕ). frame_text shape.format (Change runs bytes) ++ bs) rest.text;
      are = (Change runs bytes, rest.reads, refl, refl, rest.are);
    }
parses shape tally size (Shrink n ∷ later) got legal are =
    let rest = parses shape (after tally (Shrink n)) n later (drop (length (frame_text shape.format (Shrink n))) got) legal.2 (rest_are shape size (Shrink n) later got are
    (λ j differs. absurd differs)) in
    record {
      reads = Shrink n ∷ rest.reads;
      text = got_is shape size (Shrink n) later got are (own_stays shape size (Shrink n) later got are (λ j differs. differs))
          ∙ ap (λ (bs : List ℕ). frame_text shape.format (Shrink n) ++ bs) rest.text;
      are = (Shrink n, rest.reads, refl, refl, rest.are);
    }
parses shape tally size (Fold count ∷ later) got legal are =
    let rest = parses shape (after tally (Fold count)) size later (drop (length (frame_text shape.format (Fold count))) got) legal.2 (rest_are shape size (Fold count) later got are
    (λ j differs. absurd differs)) in
    record {
      reads = Fold count ∷ rest.reads;
      text = got_is shape size (Fold count) later got are (own_stays shape size (Fold count) later got are (λ j differs. differs))
          ∙ ap (λ (bs : List ℕ). frame_text shape.format (Fold count) ++ bs) rest.text;
      are = (Fold count, rest.reads, refl, refl, rest.are);
    }
