-- What the definitions of lines, blocks and refusals allow and rule out, on small inputs.
use Rattle.std.proofs.Common.{◌≡◌, ◌≢◌, inl, inr, ℕ, zero, suc, ◌+◌, ◌*◌, ◌<◌, ◌≤◌, List, []}
use Rattle.std.proofs.Common.{◌∷◌, ◌++◌, length, get_or, map, take, drop, Option, Some, None, refl, sym, ap, ◌∙◌, arith}
use Rattle.std.specs.Prelude.{slice_get, count_by}
use Rattle.std.specs.List.{AllByRecursion}
use Rattle.std.proofs.lemmas.List.{append_assoc, append-nil, length-append, length-map, take_at, drop_at}
use Rattle.std.proofs.lemmas.List.Elements.{All-nil, All-cons}
use Rattle.std.proofs.lemmas.List.Sums.{sum_by-append}
use Rattle.record_core.specs.Limits.{payload_limit}
use Rattle.segment_core.specs.Written.{joined}
use Rattle.text_core.specs.Text.{Spelling}
use Rattle.text_core.specs.GroupLine.{group_line}
use Rattle.text_core.specs.Lines.{AreLines, HasNoLf, ended}
use Rattle.text_core.specs.declared.refusal.Refusal.TheVariants as refusals
use Rattle.lines_core.specs.Batches.{is_lf}
use Rattle.lines_core.specs.GrowthLines.{AllGrowthsFit, AreLineRecords, IsFirstTooLarge, IsLinesRefusal, IsSpellingRefusal, lone_group}
use Rattle.lines_core.specs.InputBlocks.{AreFirstBlocks, AreOfFirstLines, growth_lines_text}
use Rattle.lines_core.specs.LineBlocks.{AreLineBlocks, last_growth}
use Rattle.lines_core.proofs.Blocks.{each_long}
use Rattle.lines_core.proofs.FirstBlocks.{texts}
use Rattle.lines_core.proofs.WholeBlocks.{lf_counted, one_if_lf}

-- ---- blocks: lines are gathered in one way

same_front : {X : Type 0} (xs ys behind then : List X) → length xs ≡ length ys → xs ++ behind ≡ ys ++ then → (xs ≡ ys) × (behind ≡ then)
same_front xs ys behind then long is = (
  sym (take_at xs behind (length ys) long) ∙ ap (take (length ys)) is ∙ take_at ys then (length ys) refl,
  sym (drop_at xs behind (length ys) long) ∙ ap (drop (length ys)) is ∙ drop_at ys then (length ys) refl,
)

module _ {X : Type 0} (block : ℕ) where
  abbrev AreFull : List (List X) → Type 0
  AreFull blocks = AllByRecursion (λ of. length of ≡ block) blocks

  not_full : (first : List X) (others : List (List X)) (few left : List X) → length first ≡ block → length few < block → few ≡ (first ++ joined others) ++ left → ⊥
  not_full first others few left full fewer is =
      omega (arith, ap length is, length-append (first ++ joined others) left, length-append first (joined others), full, fewer)

  cut_once : (one two : List (List X)) (a b : List X) → AreFull one → AreFull two → length a < block → length b < block → joined one ++ a ≡ joined two ++ b → (one ≡ two) × (a ≡ b)
  cut_once [] [] a b full other fewer few is = (refl, is)
  cut_once [] (first ∷ others) a b full other fewer few is = absurd (not_full first others a b other.0 fewer is)
  cut_once (first ∷ others) [] a b full other fewer few is = absurd (not_full first others b a full.0 few (sym is))
  cut_once (first ∷ others) (next ∷ more) a b full other fewer few is =
      let regrouped : first ++ (joined others ++ a) ≡ next ++ (joined more ++ b) =
      sym (append_assoc first (joined others) a) ∙ is ∙ append_assoc next (joined more) b in
      let same = same_front first next (joined others ++ a) (joined more ++ b) (full.0 ∙ sym other.0) regrouped in
      let rest = cut_once others more a b full.1 other.1 fewer few same.1 in
      (ap (λ l. l ∷ others) same.0 ∙ ap (λ ls. next ∷ ls) rest.0, rest.1)

one_gathering : {R : Type 0} (block : ℕ) (lines one two : List (List R)) → AreLineBlocks block lines one → AreLineBlocks block lines two → one ≡ two
one_gathering block lines one two first then =
    let same = cut_once block first.whole then.whole first.left then.left first.each then.each first.fewer then.fewer (sym first.lines_are ∙ then.lines_are) in
    first.growths_are ∙ ap (λ bs. map joined bs ++ last_growth first.left) same.0 ∙ ap (λ ls. map joined then.whole ++ last_growth ls) same.1 ∙ sym then.growths_are

abbrev three_lines : List (List ℕ)
three_lines = (1 ∷ []) ∷ (2 ∷ 3 ∷ []) ∷ (4 ∷ []) ∷ []

by_two : AreLineBlocks 2 three_lines ((1 ∷ 2 ∷ 3 ∷ []) ∷ (4 ∷ []) ∷ [])
by_two = record { whole = ((1 ∷ []) ∷ (2 ∷ 3 ∷ []) ∷ []) ∷ []; left = (4 ∷ []) ∷ []; each = (refl, tt); fewer = omega arith; lines_are = refl; growths_are = refl }

-- not without the last one, not all in one, and not each alone
last_line_counts : AreLineBlocks 2 three_lines ((1 ∷ 2 ∷ 3 ∷ []) ∷ []) → ⊥
last_line_counts so = absurd (omega (arith, ap length (one_gathering 2 three_lines _ _ so by_two)))

not_in_one : AreLineBlocks 2 three_lines ((1 ∷ 2 ∷ 3 ∷ 4 ∷ []) ∷ []) → ⊥
not_in_one so = absurd (omega (arith, ap length (one_gathering 2 three_lines _ _ so by_two)))

not_each_alone : AreLineBlocks 2 three_lines three_lines → ⊥
not_each_alone so = absurd (omega (arith, ap length (one_gathering 2 three_lines _ _ so by_two)))

-- ---- first lines: each has its LF, and is of a whole block

module _ {R : Type 0} (spelling : Spelling R) (block : ℕ) where
  lines_end : (bytes left : List ℕ) (growths : List (List R)) → AreFirstBlocks spelling block (Some bytes) (Some left) growths → length growths * block ≤ count_by is_lf bytes
  lines_end bytes left growths so =
      let lines = joined so.blocks in
      let many : length growths ≡ length so.blocks = ap length so.growths_are ∙ length-map so.blocks joined in
      let long : length growths * block ≡ length lines = ap (λ n. n * block) many ∙ sym (each_long block so.blocks so.each) in
      let texts_long : length (texts spelling lines) ≡ length lines =
      length-map (map lone_group lines) (group_line spelling.text_of) ∙ length-map lines lone_group in
      let ends = lf_counted (texts spelling lines) so.spelled.lines.whole in
      let all : count_by is_lf bytes ≡ count_by is_lf (growth_lines_text spelling lines) + count_by is_lf left =
      ap (count_by is_lf) so.taken ∙ sum_by-append one_if_lf (growth_lines_text spelling lines) left in
      omega (arith, long, texts_long, ends, all)

  lines_end_known : (bytes : List ℕ) (growths : List (List R)) → AreOfFirstLines spelling block (Some bytes) growths → length growths * block ≤ count_by is_lf bytes
  lines_end_known bytes growths so = at so.0 so.1
    where
      at : (left : Option (List ℕ)) → AreFirstBlocks spelling block (Some bytes) left growths → length growths * block ≤ count_by is_lf bytes
      at None first = absurd first.taken
      at (Some left) first = lines_end bytes left growths first

-- letters, each its own text
abbrev letters : Spelling ℕ
letters = record { is_value = λ n. 65 ≤ n; text_of = λ n. n ∷ [] }

-- A, B and the beginning of another line
abbrev begun : List ℕ
begun = 65 ∷ 10 ∷ 66 ∷ 10 ∷ 67 ∷ []

not_the_begun : AreOfFirstLines letters 1 (Some begun) ((65 ∷ []) ∷ (66 ∷ []) ∷ (67 ∷ []) ∷ []) → ⊥
not_the_begun so = absurd (omega (arith, lines_end_known letters 1 begun _ so))

not_half_a_block : AreOfFirstLines letters 2 (Some begun) ((65 ∷ 66 ∷ []) ∷ (67 ∷ []) ∷ []) → ⊥
not_half_a_block so = absurd (omega (arith, lines_end_known letters 2 begun _ so))

two_first : AreFirstBlocks letters 2 (Some begun) (Some (67 ∷ [])) ((65 ∷ 66 ∷ []) ∷ [])
two_first = record {
  blocks = ((65 ∷ []) ∷ (66 ∷ []) ∷ []) ∷ [];
  each = (refl, tt);
  spelled = record {
    each = (
      record { some = omega arith; filled = (omega arith, tt); values = ((omega arith, tt), tt) },
      (record { some = omega arith; filled = (omega arith, tt); values = ((omega arith, tt), tt) }, tt),
    );
    lines = record { whole = (alone 65 (omega arith), (alone 66 (omega arith), tt)); text = inl refl };
  };
  taken = refl;
  growths_are = refl;
}
  where
    alone : (b : ℕ) → b ≢ 10 → HasNoLf (b ∷ [])
    alone b other = All-cons (λ x. x ≢ 10) b [] other (All-nil (λ x. x ≢ 10))

-- other records are not those lines, nor those of a later line
one_each : {R : Type 0} (blocks : List (List (List R))) → AreFull 1 blocks → map joined blocks ≡ joined blocks
one_each [] each = refl
one_each ([] ∷ blocks) each = absurd (omega (arith, each.0))
one_each ((line ∷ []) ∷ blocks) each = ap (λ l. l ∷ map joined blocks) (append-nil line) ∙ ap (λ ls. line ∷ ls) (one_each blocks each.1)
one_each ((line ∷ next ∷ lines) ∷ blocks) each = absurd (omega (arith, each.0))

not_other_records : (left : List ℕ) → AreFirstBlocks letters 1 (Some begun) (Some left) ((66 ∷ []) ∷ []) → ⊥
not_other_records left so =
    let lines : joined so.blocks ≡ (66 ∷ []) ∷ [] = sym (one_each so.blocks so.each) ∙ sym so.growths_are in
    let text : begun ≡ growth_lines_text letters ((66 ∷ []) ∷ []) ++ left = so.taken ∙ ap (λ (ls : List (List ℕ)). growth_lines_text letters ls ++ left) lines in
    absurd (omega (arith, ap (λ bs. get_or bs 0 0) text))

-- ---- growths that fit

module _ (big : List ℕ) (long : length big ≡ 131072) where
  first_too_large : IsFirstTooLarge 8 ((1 ∷ []) ∷ big ∷ []) 1
  first_too_large = record { growth = big; at = refl; large = omega (arith, long); before = small }
    where
      small : (j : ℕ) (other : List ℕ) → j < 1 → slice_get ((1 ∷ []) ∷ big ∷ []) j ≡ Some other → 8 + length other * 8 ≤ payload_limit
      small zero other lt at = let same : 1 ∷ [] ≡ other = cc in omega (arith, ap length same)
      small (suc j) other lt at = absurd (omega (arith, lt))

  not_the_small : IsFirstTooLarge 8 ((1 ∷ []) ∷ big ∷ []) 0 → ⊥
  not_the_small so = let same : 1 ∷ [] ≡ so.growth = (let at = so.at in cc) in omega (arith, so.large, ap length same)

  not_behind_it : IsFirstTooLarge 8 (big ∷ big ∷ []) 1 → ⊥
  not_behind_it so = let fits = so.before 0 big (omega arith) refl in omega (arith, fits, long)

-- ---- lines that are refused

module _ (big : List ℕ) (long : length big ≡ 131072) where
  big_fits_not : AllGrowthsFit 8 ((1 ∷ []) ∷ big ∷ []) → ⊥
  big_fits_not fit = omega (arith, long, fit 1 big refl)

one_fits : AllGrowthsFit {R = ℕ} 8 ((1 ∷ []) ∷ [])
one_fits zero growth at = let same : 1 ∷ [] ≡ growth = cc in omega (arith, ap length same)
one_fits (suc k) growth at = absurd cc

-- lines are counted from 1
large_line : (input : List ℕ) → IsLinesRefusal 8 letters input (refusals.TooLargeAtLine 0) → ⊥
large_line input so = omega (arith, so.4)

-- growths that fit are never too large
not_too_large : (input : List ℕ) (n : ℕ) → IsLinesRefusal 8 letters input (refusals.TooLargeAtLine n) → (growths : List (List ℕ)) × (k : ℕ) × (n ≡ k + 1) × (AllGrowthsFit 8 growths → ⊥)
not_too_large input n so = (so.0, so.1, so.4, λ fit. omega (arith, so.3.large, fit so.1 so.3.growth so.3.at))

short_input : (input : List ℕ) → length input ≤ 67108864 → IsLinesRefusal 8 letters input refusals.InputTooLong → ⊥
short_input input short so = omega (arith, short, so)

no_hex : (input : List ℕ) → IsLinesRefusal 8 letters input refusals.NotHex → ⊥
no_hex input so = so

-- ---- the records of lines

-- of A, and of B and C
abbrev two_lines : List ℕ
two_lines = 65 ∷ 10 ∷ 66 ∷ 32 ∷ 67 ∷ 10 ∷ []

all_records : AreLineRecords letters two_lines (65 ∷ 66 ∷ 67 ∷ [])
all_records = (
  (65 ∷ []) ∷ (66 ∷ 67 ∷ []) ∷ [],
  record {
    each = (
      record { some = omega arith; filled = (omega arith, tt); values = ((omega arith, tt), tt) },
      (record { some = omega arith; filled = (omega arith, tt); values = ((omega arith, (omega arith, tt)), tt) }, tt),
    );
    lines = record {
      whole = (
        All-cons (λ x. x ≢ 10) 65 [] (omega arith) (All-nil (λ x. x ≢ 10)),
        (All-cons (λ x. x ≢ 10) 66 (32 ∷ 67 ∷ []) (omega arith) (All-cons (λ x. x ≢ 10) 32 (67 ∷ []) (omega arith) (All-cons (λ x. x ≢ 10) 67 [] (omega arith) (All-nil (λ x. x ≢ 10)))), tt),
      );
      text = inl refl;
    };
  },
  refl,
)

-- an empty input has none
none_of_none : (records : List ℕ) → AreLineRecords letters [] records → records ≡ []
none_of_none records so = so.2 ∙ ap joined (no_line so.0 so.1.lines)
  where
    no_line : (growths : List (List ℕ)) → AreLines [] (map (group_line letters.text_of) (map lone_group growths)) → growths ≡ []
    no_line [] lines = refl
    no_line (growth ∷ growths) lines =
        let first : List ℕ = group_line letters.text_of (lone_group growth) in
        let others : List (List ℕ) = map (group_line letters.text_of) (map lone_group growths) in
        absurd (elim lines.text [
          | inl whole ↦ omega (arith, ap length whole, length-append (first ++ 10 ∷ []) (ended others), length-append first (10 ∷ []))
          | inr lacks ↦ omega (arith, ap length lacks.text, length-append (ended lacks.front) lacks.last, lacks.some)
        ])

-- no size refuses the records alone
no_size : (input : List ℕ) (n : ℕ) → IsSpellingRefusal letters input (refusals.TooLargeAtLine n) → ⊥
no_size input n so = so

short_records : (input : List ℕ) → length input ≤ 67108864 → IsSpellingRefusal letters input refusals.InputTooLong → ⊥
short_records input short so = omega (arith, short, so)
