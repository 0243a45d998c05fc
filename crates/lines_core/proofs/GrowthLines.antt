-- Reading lines as growths.
use Rattle.std.proofs.Common.{◌≡◌, ◌≢◌, ℕ, ◌+◌, ◌<◌, List, [], ◌∷◌, ◌++◌, length, map, Option, refl, sym, ap, ◌∙◌, subst, inr}
use Rattle.std.specs.Prelude.{MatchOption}
use Rattle.std.specs.List.{AllByRecursion}
use Rattle.std.proofs.lemmas.List.{map-append, length-map}
use Rattle.text_core.specs.Text.{Spelling, AreWords, HasOneValue}
use Rattle.text_core.specs.Words.{BringsRecord}
use Rattle.text_core.specs.Lines.{HasNoLf, IsFirstBadLine}
use Rattle.text_core.specs.GroupLine.{IsGroup, group_line}
use Rattle.text_core.proofs.LineLemmas.{first_bad, after_cut}
use Rattle.text_core.proofs.LineGroups.{HasGroups, HasGroups_more}
use Rattle.text_core.proofs.GroupLines.{Reads, Reads_word, unfinished_is_bad, words_of}
use Rattle.lines_core.specs.GrowthLines.{IsGrowthLine, IsGrowthLineOf, lone_group}

-- one word more
pub Reads_value : {R : Type 0} (spelling : Spelling R) (line : List ℕ) (growths : List (List R)) (growth : List R) (word : List ℕ)
    (words : List (List ℕ)) (new_growths : List (List R)) (new_growth : List R) → AreWords spelling → HasOneValue spelling
    → BringsRecord spelling word growths growth new_growths new_growth → Reads spelling line [] growth (word ∷ words) → Reads spelling line [] new_growth words
Reads_value spelling line growths growth word words new_growths new_growth law one brings reads =
    Reads_word spelling line [] growth word words [] new_growth law one
    (inr (record { record_read = brings.record_read; value = brings.value; text = brings.text; same = refl; brought = brings.brought })) reads

none_behind : {R : Type 0} (growth whole : List R) (others : List (List R)) → growth ∷ [] ≡ whole ∷ others → others ≡ []
none_behind growth whole others is = sym (tail_of growth whole [] others is)
  where
    tail_of : {X : Type 0} (x y : X) (xs ys : List X) → x ∷ xs ≡ y ∷ ys → xs ≡ ys
    tail_of x y xs ys is = cc

-- a word that is the text of no value
stray : {R : Type 0} (spelling : Spelling R) (word : List ℕ) (words : List (List ℕ)) (more : List R)
    → ((r : R) → spelling.is_value r → spelling.text_of r ≢ word) → AllByRecursion spelling.is_value more → map spelling.text_of more ≡ word ∷ words
    → ⊥
stray spelling word words [] none values are = cc are
stray spelling word words (r ∷ more) none values are = none r values.0 (head_of (spelling.text_of r) word (map spelling.text_of more) words are)
  where
    head_of : (x y : List ℕ) (xs ys : List (List ℕ)) → x ∷ xs ≡ y ∷ ys → x ≡ y
    head_of x y xs ys is = cc

pub stray_is_bad : {R : Type 0} (spelling : Spelling R) (line : List ℕ) (growth : List R) (word : List ℕ) (words : List (List ℕ))
    → ((r : R) → spelling.is_value r → spelling.text_of r ≢ word)
    → Reads spelling line [] growth (word ∷ words) → IsGrowthLine spelling line → ⊥
stray_is_bad {R} spelling line growth word words none reads so =
    let a = reads.only (lone_group so.0) so.1 in
    let last : a.others ≡ [] = none_behind so.0 (growth ++ a.more) a.others a.parts in
    let are : words_of spelling.text_of (a.more ∷ []) ≡ word ∷ words = ap (λ (os : List (List R)). words_of spelling.text_of (a.more ∷ os)) (sym last) ∙ a.words_are in
    stray spelling word words a.more none a.values are

pub no_growth_is_bad : {R : Type 0} (spelling : Spelling R) (line : List ℕ) (growth : List R) → length growth ≡ 0 → Reads spelling line [] growth [] → IsGrowthLine spelling line → ⊥
no_growth_is_bad spelling line growth none reads so = unfinished_is_bad spelling line [] growth none reads (lone_group so.0, so.1)

-- one line more
pub HasGrowths_more : {R : Type 0} (spelling : Spelling R) (input : List ℕ) (growths : List (List R)) (growth : List R) (text line : List ℕ)
    (rest : Option (List ℕ)) → 0 < length text → MatchOption rest (text ≡ line) (λ after. text ≡ line ++ 10 ∷ after) → HasNoLf line
    → length (after_cut rest) < length text → IsGrowthLineOf spelling line growth → HasGroups spelling input (map lone_group growths) text
    → HasGroups spelling input (map lone_group (growths ++ growth ∷ [])) (after_cut rest)
HasGrowths_more {R} spelling input growths growth text line rest some whole plain less read before =
    subst (λ (gs : List (List (List R))). HasGroups spelling input gs (after_cut rest)) (sym (map-append lone_group growths (growth ∷ [])))
    (HasGroups_more spelling input (map lone_group growths) (lone_group growth) text line rest some whole plain less read before)

pub are_growth_lines : {R : Type 0} (spelling : Spelling R) (growths : List (List R)) → AllByRecursion (IsGroup spelling.is_value) (map lone_group growths)
    → AllByRecursion (IsGrowthLine spelling) (map (group_line spelling.text_of) (map lone_group growths))
are_growth_lines spelling [] all = tt
are_growth_lines spelling (growth ∷ growths) all = ((growth, record { group = all.0; text = refl }), are_growth_lines spelling growths all.1)

pub first_bad_growth : {R : Type 0} (spelling : Spelling R) (input : List ℕ) (growths : List (List R)) (text line : List ℕ) (rest : Option (List ℕ))
    (n : ℕ) → 0 < length text → MatchOption rest (text ≡ line) (λ after. text ≡ line ++ 10 ∷ after) → HasNoLf line
    → (IsGrowthLine spelling line → ⊥) → n ≡ length growths + 1 → HasGroups spelling input (map lone_group growths) text → IsFirstBadLine (IsGrowthLine spelling) input n
first_bad_growth spelling input growths text line rest n some whole plain bad place so =
    first_bad (IsGrowthLine spelling) input (map (group_line spelling.text_of) (map lone_group growths)) text line rest n some whole plain bad
    (place ∙ ap (λ n. n + 1) (sym (length-map (map lone_group growths) (group_line spelling.text_of) ∙ length-map growths lone_group))) (are_growth_lines spelling growths so.each) so.lines
