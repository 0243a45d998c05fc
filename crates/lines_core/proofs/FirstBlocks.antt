-- The first blocks of an input: more of them behind others, and fewer.
use Rattle.std.proofs.Common.{◌≡◌, ◌⊎◌, inl, inr, ℕ, ◌+◌, ◌-◌, ◌*◌, ◌^◌, min, ◌<◌, ◌≤◌, List, [], ◌∷◌, ◌++◌, length, map, take, drop, Option, Some, None, refl, sym, ap, subst, ◌∙◌, arith}
use Rattle.std.specs.Prelude.{IfSome}
use Rattle.std.specs.List.{AllByRecursion}
use Rattle.std.specs.Io.KnownBytes.{Consumes}
use Rattle.std.proofs.KnownBytes.{Consumes-nil, Consumes-trans}
use Rattle.std.proofs.Math.Nat.{add-mul}
use Rattle.std.proofs.lemmas.Grind.{flat_map-append}
use Rattle.std.proofs.lemmas.List.{append_assoc, length-append, length-drop, length-map, map-append, take-append-drop, take-append-le, take-map}
use Rattle.segment_core.specs.Written.{joined}
use Rattle.text_core.specs.Text.{Spelling, ended_line}
use Rattle.text_core.specs.Lines.{ended, AreLines, HasNoLf}
use Rattle.text_core.specs.GroupLine.{IsGroup, group_line}
use Rattle.text_core.specs.declared.refusal.Refusal.{Refusal}
use Rattle.lines_core.specs.declared.batches.Rest.{Rest}
use Rattle.lines_core.specs.declared.batches.Rest.TheVariants.{More, Nothing, Refused, Unread}
use Rattle.lines_core.specs.Batches.{AreReadSo, IsBatch}
use Rattle.lines_core.specs.GrowthLines.{AreGrowthLines, lone_group}
use Rattle.lines_core.specs.InputBlocks.{AreFirstBlocks, AreInputBlocks, AreOfAllLines, AreOfFirstLines, growth_lines_text}
use Rattle.lines_core.specs.LineBlocks.{AreLineBlocks, last_growth}
use Rattle.lines_core.proofs.Blocks.{each_long, counts_on}

-- ---- lists

pub all_append : {X : Type 0} (P : X → Type 0) (xs ys : List X) → AllByRecursion P xs → AllByRecursion P ys → AllByRecursion P (xs ++ ys)
all_append P [] ys front back = back
all_append P (x ∷ xs) ys front back = (front.0, all_append P xs ys front.1 back)

pub all_front : {X : Type 0} (P : X → Type 0) (xs ys : List X) → AllByRecursion P (xs ++ ys) → AllByRecursion P xs
all_front P [] ys all = tt
all_front P (x ∷ xs) ys all = (all.0, all_front P xs ys all.1)

pub all_back : {X : Type 0} (P : X → Type 0) (xs ys : List X) → AllByRecursion P (xs ++ ys) → AllByRecursion P ys
all_back P [] ys all = all
all_back P (x ∷ xs) ys all = all_back P xs ys all.1

joined_both : {X : Type 0} (one two : List (List X)) → joined (one ++ two) ≡ joined one ++ joined two
joined_both one two = flat_map-append (λ xs. xs) one two

-- a list that ends in one element, cut before some of its elements
front_of : {X : Type 0} (xs ys front : List X) (last : X) → 0 < length ys → xs ++ ys ≡ front ++ last ∷ [] → (more : List X) × (front ≡ xs ++ more)
front_of [] ys front last some is = (front, refl)
front_of (x ∷ xs) ys [] last some is =
    let long : length ((x ∷ xs) ++ ys) ≡ 1 = ap length is in
    absurd (omega (arith, long, length-append (x ∷ xs) ys, some))
front_of (x ∷ xs) ys (y ∷ front) last some is =
    let rest : xs ++ ys ≡ front ++ last ∷ [] = tail_is x y (xs ++ ys) (front ++ last ∷ []) is in
    let first : y ≡ x = sym (head_is x y (xs ++ ys) (front ++ last ∷ []) is) in
    let more = front_of xs ys front last some rest in
    (more.0, ap (λ z. z ∷ front) first ∙ ap (λ zs. x ∷ zs) more.1)
  where
    head_is : {Z : Type 0} (a b : Z) (xs ys : List Z) → a ∷ xs ≡ b ∷ ys → a ≡ b
    head_is a b xs ys same = cc

    tail_is : {Z : Type 0} (a b : Z) (xs ys : List Z) → a ∷ xs ≡ b ∷ ys → xs ≡ ys
    tail_is a b xs ys same = cc

-- ---- lines behind others, each with its LF

ended_both : (one two : List (List ℕ)) → ended (one ++ two) ≡ ended one ++ ended two
ended_both one two = flat_map-append ended_line one two

lines_on : (front : List (List ℕ)) (rest : List ℕ) (lines : List (List ℕ)) → AllByRecursion HasNoLf front → AreLines rest lines
    → AreLines (ended front ++ rest) (front ++ lines)
lines_on front rest lines plain so = record {
  whole = all_append HasNoLf front lines plain so.whole;
  text = elim so.text [
    | inl all ↦ inl (ap (λ t. ended front ++ t) all ∙ sym (ended_both front lines))
    | inr lacks ↦ inr (record {
      front = front ++ lacks.front;
      last = lacks.last;
      parts = ap (λ ls. front ++ ls) lacks.parts ∙ sym (append_assoc front lacks.front (lacks.last ∷ []));
      some = lacks.some;
      text = ap (λ t. ended front ++ t) lacks.text ∙ sym (append_assoc (ended front) (ended lacks.front) lacks.last)
          ∙ ap (λ t. t ++ lacks.last) (sym (ended_both front lacks.front));
    })
  ];
}

-- the first of some lines stand each with its LF, where another one stands behind them
first_ended : (front behind : List (List ℕ)) (text : List ℕ) → 0 < length behind → AreLines text (front ++ behind) → (rest : List ℕ) × (text ≡ ended front ++ rest)
first_ended front behind text some so = elim so.text [
  | inl all ↦ (ended behind, all ∙ ended_both front behind)
  | inr lacks ↦ (
      let more = front_of front behind lacks.front lacks.last some lacks.parts in (
        ended more.0 ++ lacks.last,
        lacks.text ∙ ap (λ ls. ended ls ++ lacks.last) more.1 ∙ ap (λ t. t ++ lacks.last) (ended_both front more.0) ∙ append_assoc (ended front) (ended more.0) lacks.last,
      ))
]

-- ---- known bytes

-- what was taken, its front first
taken_front : (known left : Option (List ℕ)) (front behind : List ℕ) → Consumes known left (front ++ behind) → (mid : Option (List ℕ)) × Consumes known mid front
taken_front None left front behind taken = (None, tt)
taken_front (Some xs) None front behind taken = absurd taken
taken_front (Some xs) (Some ys) front behind taken = (Some (behind ++ ys), taken ∙ append_assoc front behind ys)

-- ---- the texts of growth lines

module _ {R : Type 0} (spelling : Spelling R) where
  abbrev pub texts : List (List R) → List (List ℕ)
  texts lines = map (group_line spelling.text_of) (map lone_group lines)

  abbrev pub ArePlain : List (List R) → Type 0
  ArePlain lines = AreGrowthLines spelling (growth_lines_text spelling lines) lines

  texts_both : (one two : List (List R)) → texts (one ++ two) ≡ texts one ++ texts two
  texts_both one two = ap (λ (ls : List (List (List R))). map (group_line spelling.text_of) ls) (map-append lone_group one two)
      ∙ map-append (group_line spelling.text_of) (map lone_group one) (map lone_group two)

  text_both : (one two : List (List R)) → growth_lines_text spelling (one ++ two) ≡ growth_lines_text spelling one ++ growth_lines_text spelling two
  text_both one two = ap ended (texts_both one two) ∙ ended_both (texts one) (texts two)

  spelled_on : (one two : List (List R)) (rest : List ℕ) → ArePlain one → AreGrowthLines spelling rest two
      → AreGrowthLines spelling (growth_lines_text spelling one ++ rest) (one ++ two)
  spelled_on one two rest first then = record {
    each = subst (λ (gs : List (List (List R))). AllByRecursion (IsGroup spelling.is_value) gs) (sym (map-append lone_group one two))
        (all_append (IsGroup spelling.is_value) (map lone_group one) (map lone_group two) first.each then.each);
    lines = subst (λ ls. AreLines (growth_lines_text spelling one ++ rest) ls) (sym (texts_both one two))
        (lines_on (texts one) rest (texts two) first.lines.whole then.lines);
  }

  plain_both : (one two : List (List R)) → ArePlain one → ArePlain two → ArePlain (one ++ two)
  plain_both one two first then =
      subst (λ t. AreGrowthLines spelling t (one ++ two)) (sym (text_both one two)) (spelled_on one two (growth_lines_text spelling two) first then)

  plain_front : (one two : List (List R)) (text : List ℕ) → AreGrowthLines spelling text (one ++ two) → ArePlain one
  plain_front one two text so = record {
    each = all_front (IsGroup spelling.is_value) (map lone_group one) (map lone_group two)
        (subst (λ (gs : List (List (List R))). AllByRecursion (IsGroup spelling.is_value) gs) (map-append lone_group one two) so.each);
    lines = record {
      whole = all_front HasNoLf (texts one) (texts two) (subst (λ ls. AllByRecursion HasNoLf ls) (texts_both one two) so.lines.whole);
      text = inl refl;
    };
  }

  -- ---- blocks behind others

  module _ (block : ℕ) where
    pub none_first : (known : Option (List ℕ)) → AreFirstBlocks spelling block known known []
    none_first known = record { blocks = []; each = tt; spelled = record { each = tt; lines = record { whole = tt; text = inl refl } }; taken = Consumes-nil known; growths_are = refl }

    pub first_on : (known mid left : Option (List ℕ)) (one two : List (List R)) → AreFirstBlocks spelling block known mid one
        → AreFirstBlocks spelling block mid left two → AreFirstBlocks spelling block known left (one ++ two)
    first_on known mid left one two first then =
        let front = joined first.blocks in
        let behind = joined then.blocks in
        let both : joined (first.blocks ++ then.blocks) ≡ front ++ behind = joined_both first.blocks then.blocks in
        record {
          blocks = first.blocks ++ then.blocks;
          each = all_append (λ (of : List (List R)). length of ≡ block) first.blocks then.blocks first.each then.each;
          spelled = subst ArePlain (sym both) (plain_both front behind first.spelled then.spelled);
          taken = subst (λ (ls : List (List R)). Consumes known left (growth_lines_text spelling ls)) (sym both)
              (subst (λ (t : List ℕ). Consumes known left t) (sym (text_both front behind)) (Consumes-trans known mid left _ _ first.taken then.taken));
          growths_are = ap (λ gs. gs ++ two) first.growths_are ∙ ap (λ gs. map joined first.blocks ++ gs) then.growths_are ∙ sym (map-append joined first.blocks then.blocks);
        }

    gathered_on : (blocks : List (List (List R))) (lines one two : List (List R)) → AllByRecursion (λ (of : List (List R)). length of ≡ block) blocks → one ≡ map joined blocks
        → AreLineBlocks block lines two → AreLineBlocks block (joined blocks ++ lines) (one ++ two)
    gathered_on blocks lines one two each one_are so = record {
      whole = blocks ++ so.whole;
      left = so.left;
      each = all_append (λ (of : List (List R)). length of ≡ block) blocks so.whole each so.each;
      fewer = so.fewer;
      lines_are = ap (λ ls. joined blocks ++ ls) so.lines_are ∙ sym (append_assoc (joined blocks) (joined so.whole) so.left)
          ∙ ap (λ ls. ls ++ so.left) (sym (joined_both blocks so.whole));
      growths_are = ap (λ gs. gs ++ two) one_are ∙ ap (λ gs. map joined blocks ++ gs) so.growths_are
          ∙ sym (append_assoc (map joined blocks) (map joined so.whole) (last_growth so.left))
          ∙ ap (λ gs. gs ++ last_growth so.left) (sym (map-append joined blocks so.whole));
    }

    taken_all : (known mid : Option (List ℕ)) (front rest : List ℕ) → Consumes known mid front → IfSome mid (λ whole. whole ≡ rest) → IfSome known (λ whole. whole ≡ front ++ rest)
    taken_all None mid front rest taken all = tt
    taken_all (Some bytes) None front rest taken all = absurd taken
    taken_all (Some bytes) (Some more) front rest taken all = taken ∙ ap (λ t. front ++ t) all

    pub all_on : (known mid : Option (List ℕ)) (one two : List (List R)) (count : ℕ) → AreFirstBlocks spelling block known mid one
        → AreOfAllLines spelling block mid two count → AreOfAllLines spelling block known (one ++ two) (length one * block + count)
    all_on known mid one two count first then = record {
      bytes = growth_lines_text spelling (joined first.blocks) ++ then.bytes;
      known = taken_all known mid (growth_lines_text spelling (joined first.blocks)) then.bytes first.taken then.known;
      of = record {
        lines = joined first.blocks ++ then.of.lines;
        spelled = spelled_on (joined first.blocks) then.of.lines then.bytes first.spelled then.of.spelled;
        gathered = gathered_on first.blocks then.of.lines one two first.each first.growths_are then.of.gathered;
        count_is = counted;
      };
    }
      where
        as_many : length one ≡ length first.blocks
        as_many = ap length first.growths_are ∙ length-map first.blocks joined

        counted : length one * block + count ≡ length (joined first.blocks ++ then.of.lines)
        counted = ap (λ n. n * block + count) as_many ∙ ap (λ n. n + count) (sym (each_long block first.blocks first.each))
            ∙ ap (λ n. length (joined first.blocks) + n) then.of.count_is ∙ sym (length-append (joined first.blocks) then.of.lines)

    -- ---- some of them

    some_blocks : (known left : Option (List ℕ)) (growths : List (List R)) (n : ℕ) → AreFirstBlocks spelling block known left growths → AreOfFirstLines spelling block known (take n growths)
    some_blocks known left growths n so =
        let front = take n so.blocks in
        let behind = drop n so.blocks in
        let parts : so.blocks ≡ front ++ behind = sym (take-append-drop n so.blocks) in
        let lines : joined so.blocks ≡ joined front ++ joined behind = ap joined parts ∙ joined_both front behind in
        let taken = taken_front known left (growth_lines_text spelling (joined front)) (growth_lines_text spelling (joined behind))
        (subst (λ (t : List ℕ). Consumes known left t) (ap (growth_lines_text spelling) lines ∙ text_both (joined front) (joined behind)) so.taken) in (
          taken.0,
          record {
            blocks = front;
            each = all_front (λ (of : List (List R)). length of ≡ block) front behind (subst (λ (bs : List (List (List R))). AllByRecursion (λ of. length of ≡ block) bs) parts so.each);
            spelled = plain_front (joined front) (joined behind) (growth_lines_text spelling (joined so.blocks))
                (subst (λ (ls : List (List R)). AreGrowthLines spelling (growth_lines_text spelling (joined so.blocks)) ls) lines so.spelled);
            taken = taken.1;
            growths_are = ap (take n) so.growths_are ∙ take-map joined n so.blocks;
          },
        )

    last_few : (left : List (List R)) → (length (last_growth left) ≡ 0) ⊎ ((length (last_growth left) ≡ 1) × (0 < length left))
    last_few [] = inl refl
    last_few (line ∷ lines) = inr (refl, omega arith)

    -- behind the first of all blocks a line stands
    line_behind_them : (n whole left last : ℕ) → n < whole + last → left < block → (last ≡ 0) ⊎ ((last ≡ 1) × (0 < left)) → (n ≤ whole) × (0 < (whole - n) * block + left)
    line_behind_them n whole left last less fewer (inl none) =
        let some : n < whole = omega (arith, less, none) in
        let one : (whole - n) * block ≡ (whole - n - 1) * block + 1 * block =
        ap (λ k. k * block) (let split : whole - n ≡ (whole - n - 1) + 1 = omega (arith, some) in split) ∙ add-mul (whole - n - 1) 1 block in
        (omega (arith, some), omega (arith, one, fewer))
    line_behind_them n whole left last less fewer (inr one) = (omega (arith, less, one.0), omega (arith, one.1))

    some_of_bytes : (bytes : List ℕ) (growths : List (List R)) (count n : ℕ) → n < length growths → AreInputBlocks spelling block bytes growths count
        → AreOfFirstLines spelling block (Some bytes) (take n growths)
    some_of_bytes bytes growths count n less so =
        let whole = so.gathered.whole in
        let left = so.gathered.left in
        let front = take n whole in
        let behind = joined (drop n whole) ++ left in
        let many : length growths ≡ length whole + length (last_growth left) =
        ap length so.gathered.growths_are ∙ length-append (map joined whole) (last_growth left) ∙ ap (λ k. k + length (last_growth left)) (length-map whole joined) in
        let within = line_behind_them n (length whole) (length left) (length (last_growth left)) (omega (arith, many, less)) so.gathered.fewer (last_few left) in
        let parts : whole ≡ front ++ drop n whole = sym (take-append-drop n whole) in
        let each : AllByRecursion (λ (of : List (List R)). length of ≡ block) (front ++ drop n whole) =
        subst (λ (bs : List (List (List R))). AllByRecursion (λ of. length of ≡ block) bs) parts so.gathered.each in
        let lines : so.lines ≡ joined front ++ behind =
        so.gathered.lines_are ∙ ap (λ (bs : List (List (List R))). joined bs ++ left) parts ∙ ap (λ ls. ls ++ left) (joined_both front (drop n whole))
        ∙ append_assoc (joined front) (joined (drop n whole)) left in
        let long : length behind ≡ (length whole - n) * block + length left =
        length-append (joined (drop n whole)) left ∙ ap (λ k. k + length left) (each_long block (drop n whole) (all_back (λ (of : List (List R)). length of ≡ block) front (drop n whole) each)
        ∙ ap (λ k. k * block) (length-drop n whole)) in
        let some : 0 < length (texts behind) = omega (arith, within.1, long, length-map (map lone_group behind) (group_line spelling.text_of), length-map behind lone_group) in
        let spelled : AreGrowthLines spelling bytes (joined front ++ behind) = subst (λ (ls : List (List R)). AreGrowthLines spelling bytes ls) lines so.spelled in
        let rest = first_ended (texts (joined front)) (texts behind) bytes some (subst (λ ls. AreLines bytes ls) (texts_both (joined front) behind) spelled.lines) in (
          Some rest.0,
          record {
            blocks = front;
            each = all_front (λ (of : List (List R)). length of ≡ block) front (drop n whole) each;
            spelled = plain_front (joined front) behind bytes spelled;
            taken = rest.1;
            growths_are = ap (take n) so.gathered.growths_are ∙ take-append-le n (map joined whole) (last_growth left) (omega (arith, within.0, length-map whole joined)) ∙ take-map joined n whole;
          },
        )

    of_known : (known : Option (List ℕ)) (bytes : List ℕ) (growths : List (List R)) → IfSome known (λ whole. whole ≡ bytes) → AreOfFirstLines spelling block (Some bytes) growths
        → AreOfFirstLines spelling block known growths
    of_known (Some whole) bytes growths same first = subst (λ b. AreOfFirstLines spelling block (Some b) growths) (sym same) first
    of_known None bytes growths same first =
        (None, record { blocks = first.1.blocks; each = first.1.each; spelled = first.1.spelled; taken = tt; growths_are = first.1.growths_are })

    -- the first growths of a batch, where they aren't all
    pub some_read : (known left : Option (List ℕ)) (growths : List (List R)) (lines n : ℕ) (rest : Rest) → (n < length growths) ⊎ (n ≡ 0)
        → IsBatch spelling block known left growths lines rest → AreOfFirstLines spelling block known (take n growths)
    some_read known left growths lines n rest (inr none) so =
        (known, subst (λ gs. AreFirstBlocks spelling block known known gs) (sym (ap (λ k. take k growths) none)) (none_first known))
    some_read known left growths lines n More (inl less) so = some_blocks known left growths n so
    some_read known left growths lines n Nothing (inl less) so = of_known known so.bytes (take n growths) so.known (some_of_bytes so.bytes growths lines n less so.of)
    some_read known left growths lines n (Refused refusal) (inl less) so = some_blocks known so.0 growths n so.1
    some_read known left growths lines n (Unread refusal) (inl less) so = some_blocks known so.0 growths n so.1

    -- growths of first lines behind others
    pub then_first : (known mid : Option (List ℕ)) (one two : List (List R)) → AreFirstBlocks spelling block known mid one → AreOfFirstLines spelling block mid two
        → AreOfFirstLines spelling block known (one ++ two)
    then_first known mid one two first then = (then.0, first_on known mid then.0 one two first then.1)

    -- a batch behind others
    pub read_on : (known mid left : Option (List ℕ)) (one two : List (List R)) (lines : ℕ) (rest : Rest) → AreFirstBlocks spelling block known mid one
        → IsBatch spelling block mid left two lines rest → IsBatch spelling block known left (one ++ two) (length one * block + lines) rest
    read_on known mid left one two lines More first then = first_on known mid left one two first then
    read_on known mid left one two lines Nothing first then = all_on known mid one two lines first then
    read_on known mid left one two lines (Refused refusal) first then = then_first known mid one two first then
    read_on known mid left one two lines (Unread refusal) first then = then_first known mid one two first then

    pub counted_on : (known mid left : Option (List ℕ)) (one two : List (List R)) (before lines : ℕ) (rest : Rest) → before ≡ min (2 ^ 64 - 1) (length one * block)
        → AreFirstBlocks spelling block known mid one → IsBatch spelling block mid left two lines rest
        → AreReadSo spelling block known left (min (2 ^ 64 - 1) (before + lines)) rest (one ++ two)
    counted_on known mid left one two before lines rest is first then = record {
      count = length one * block + lines;
      read = read_on known mid left one two lines rest first then;
      counted_is = counts_on (2 ^ 64 - 1) before (length one * block) lines is;
    }

-- ---- what was read

module _ {R : Type 0} (spelling : Spelling R) (block : ℕ) (known left : Option (List ℕ)) (counted : ℕ) (growths : List (List R)) where
  pub read_more : (rest : Rest) → rest ≡ More → AreReadSo spelling block known left counted rest growths → AreFirstBlocks spelling block known left growths
  read_more rest is so = subst (λ r. IsBatch spelling block known left growths so.count r) is so.read

  pub read_all : (rest : Rest) → rest ≡ Nothing → AreReadSo spelling block known left counted rest growths
      → (count : ℕ) × AreOfAllLines spelling block known growths count × (counted ≡ min (2 ^ 64 - 1) count)
  read_all rest is so = (so.count, subst (λ r. IsBatch spelling block known left growths so.count r) is so.read, so.counted_is)

  pub read_refused : (rest : Rest) (refusal : Refusal) → rest ≡ Refused refusal → AreReadSo spelling block known left counted rest growths
      → AreOfFirstLines spelling block known growths
  read_refused rest refusal is so = subst (λ r. IsBatch spelling block known left growths so.count r) is so.read

  pub read_unread : (rest : Rest) (refusal : Refusal) → rest ≡ Unread refusal → AreReadSo spelling block known left counted rest growths
      → AreOfFirstLines spelling block known growths
  read_unread rest refusal is so = subst (λ r. IsBatch spelling block known left growths so.count r) is so.read
