-- Reading a group line word by word.
use Rattle.std.proofs.Common.{◌≡◌, ℕ, ◌<◌, List, [], ◌∷◌, ◌++◌, length, map, codes, refl, sym, ap, ◌∙◌, subst, arith, inl, inr}
use Rattle.std.specs.List.{AllByRecursion}
use Rattle.std.proofs.lemmas.List.{append_assoc, append-nil, length-append}
use Rattle.text_core.specs.Text.{Spelling, AreWords, HasOneValue, joined_by}
use Rattle.text_core.specs.GroupLine.{growth_text, group_line, IsGroup, IsGroupLineOf, IsGroupLine}
use Rattle.text_core.specs.Words.{TakesWord, IsStrayWord}
use Rattle.text_core.proofs.Small.{push_all}
use Rattle.text_core.proofs.Joins.{parts_of, HasNoSpace, no_space_in_word, joined_append, joined_parts, parts_joined, not_bar, no_space_in_bar}

-- ---- the words of growths

abbrev pub words_of : {R : Type 0} → (R → List ℕ) → List (List R) → List (List ℕ)
words_of text_of [] = []
words_of text_of (growth ∷ []) = map text_of growth
words_of text_of (growth ∷ next ∷ more) = map text_of growth ++ codes "|" ∷ words_of text_of (next ∷ more)

words_first : {R : Type 0} (text_of : R → List ℕ) (r : R) (growth : List R) (others : List (List R)) → words_of text_of ((r ∷ growth) ∷ others) ≡ text_of r ∷ words_of text_of (growth ∷ others)
words_first text_of r growth [] = refl
words_first text_of r growth (next ∷ more) = refl

words_behind : {R : Type 0} (text_of : R → List ℕ) (growth : List R) (front : List (List R)) (last : List R)
    → words_of text_of (growth ∷ (front ++ last ∷ [])) ≡ map text_of growth ++ codes "|" ∷ words_of text_of (front ++ last ∷ [])
words_behind text_of growth [] last = refl
words_behind text_of growth (next ∷ more) last = refl

map_push : {R : Type 0} (text_of : R → List ℕ) (growth : List R) (r : R) → map text_of (growth ++ r ∷ []) ≡ map text_of growth ++ text_of r ∷ []
map_push text_of [] r = refl
map_push text_of (s ∷ growth) r = ap (λ (ws : List (List ℕ)). text_of s ∷ ws) (map_push text_of growth r)

words_push : {R : Type 0} (text_of : R → List ℕ) (front : List (List R)) (growth : List R) (r : R)
    → words_of text_of (front ++ (growth ++ r ∷ []) ∷ []) ≡ words_of text_of (front ++ growth ∷ []) ++ text_of r ∷ []
words_push text_of [] growth r = map_push text_of growth r
words_push text_of (first ∷ front) growth r =
    words_behind text_of first front (growth ++ r ∷ [])
    ∙ ap (λ (ws : List (List ℕ)). map text_of first ++ codes "|" ∷ ws) (words_push text_of front growth r)
    ∙ sym (append_assoc (map text_of first) (codes "|" ∷ words_of text_of (front ++ growth ∷ [])) (text_of r ∷ []))
    ∙ ap (λ (ws : List (List ℕ)). ws ++ text_of r ∷ []) (sym (words_behind text_of first front growth))

words_bar : {R : Type 0} (text_of : R → List ℕ) (front : List (List R)) (growth : List R)
    → words_of text_of ((front ++ growth ∷ []) ++ [] ∷ []) ≡ words_of text_of (front ++ growth ∷ []) ++ codes "|" ∷ []
words_bar text_of [] growth = refl
words_bar text_of (first ∷ front) growth =
    words_behind text_of first (front ++ growth ∷ []) []
    ∙ ap (λ (ws : List (List ℕ)). map text_of first ++ codes "|" ∷ ws) (words_bar text_of front growth)
    ∙ sym (append_assoc (map text_of first) (codes "|" ∷ words_of text_of (front ++ growth ∷ [])) (codes "|" ∷ []))
    ∙ ap (λ (ws : List (List ℕ)). ws ++ codes "|" ∷ []) (sym (words_behind text_of first front growth))

abbrev pub Filled : {R : Type 0} → List (List R) → Type 0
Filled growths = AllByRecursion (λ growth. 0 < length growth) growths

joined_growths : {R : Type 0} (text_of : R → List ℕ) (growths : List (List R)) → Filled growths → joined_by (codes " ") (words_of text_of growths) ≡ group_line text_of growths
joined_growths text_of [] filled = refl
joined_growths text_of (growth ∷ []) filled = refl
joined_growths text_of ([] ∷ next ∷ more) filled = absurd (omega (arith, filled.0))
joined_growths text_of ((r ∷ growth) ∷ [] ∷ more) filled = absurd (omega (arith, filled.1.0))
joined_growths text_of ((r ∷ growth) ∷ (s ∷ next) ∷ more) filled =
    let rest = joined_growths text_of ((s ∷ next) ∷ more) filled.1 in
    let first = words_first text_of s next more in
    ap (λ (ws : List (List ℕ)). joined_by (codes " ") ((text_of r ∷ map text_of growth) ++ codes "|" ∷ ws)) first
    ∙ joined_append (codes " ") (text_of r) (map text_of growth) (codes "|") (text_of s ∷ words_of text_of (next ∷ more))
    ∙ ap (λ (t : List ℕ). growth_text text_of (r ∷ growth) ++ (codes " | " ++ t)) (ap (joined_by (codes " ")) (sym first) ∙ rest)

-- ---- no word of a value has a space

plain_append : (xs ys : List (List ℕ)) → AllByRecursion HasNoSpace xs → AllByRecursion HasNoSpace ys → AllByRecursion HasNoSpace (xs ++ ys)
plain_append [] ys first second = second
plain_append (x ∷ xs) ys first second = (first.0, plain_append xs ys first.1 second)

plain_growth : {R : Type 0} (spelling : Spelling R) (growth : List R) → AreWords spelling → AllByRecursion spelling.is_value growth → AllByRecursion HasNoSpace (map spelling.text_of growth)
plain_growth spelling [] law values = tt
plain_growth spelling (r ∷ growth) law values = (no_space_in_word (spelling.text_of r) (law r values.0), plain_growth spelling growth law values.1)

plain_words : {R : Type 0} (spelling : Spelling R) (growths : List (List R)) → AreWords spelling
    → AllByRecursion (AllByRecursion spelling.is_value) growths → AllByRecursion HasNoSpace (words_of spelling.text_of growths)
plain_words spelling [] law values = tt
plain_words spelling (growth ∷ []) law values = plain_growth spelling growth law values.0
plain_words spelling (growth ∷ next ∷ more) law values =
    plain_append (map spelling.text_of growth) (codes "|" ∷ words_of spelling.text_of (next ∷ more)) (plain_growth spelling growth law values.0)
    (no_space_in_bar, plain_words spelling (next ∷ more) law values.1)

-- the words of a group line are those of its growths
parts_of_group : {R : Type 0} (spelling : Spelling R) (growths : List (List R)) → AreWords spelling → IsGroup spelling.is_value growths
    → parts_of (group_line spelling.text_of growths) ≡ words_of spelling.text_of growths
parts_of_group spelling [] law group = absurd (omega (arith, group.some))
parts_of_group spelling ([] ∷ others) law group = absurd (omega (arith, group.filled.0))
parts_of_group spelling ((r ∷ growth) ∷ others) law group =
    let first = words_first spelling.text_of r growth others in
    let plain = subst (AllByRecursion HasNoSpace) first (plain_words spelling ((r ∷ growth) ∷ others) law group.values) in
    ap parts_of (sym (joined_growths spelling.text_of ((r ∷ growth) ∷ others) group.filled) ∙ ap (joined_by (codes " ")) first)
    ∙ parts_joined (spelling.text_of r) (words_of spelling.text_of (growth ∷ others)) plain.0 plain.1
    ∙ sym first

-- ---- how far a line has been read

-- what any reading of the line has behind the growths and the growth so far
pub record Ahead {R : Type 0} (spelling : Spelling R) (growths : List (List R)) (growth : List R) (words : List (List ℕ)) (all : List (List R)) : Type 0 where
  pub more : List R
  pub others : List (List R)
  pub parts : all ≡ growths ++ (growth ++ more) ∷ others
  pub some : 0 < length (growth ++ more)
  pub filled : Filled others
  pub values : AllByRecursion spelling.is_value more
  pub other_values : AllByRecursion (AllByRecursion spelling.is_value) others
  pub words_are : words_of spelling.text_of (more ∷ others) ≡ words

-- the growths and the growth so far are read, and these words are left
pub record Reads {R : Type 0} (spelling : Spelling R) (line : List ℕ) (growths : List (List R)) (growth : List R) (words : List (List ℕ)) : Type 0 where
  pub filled : Filled growths
  pub values : AllByRecursion (AllByRecursion spelling.is_value) growths
  pub own : AllByRecursion spelling.is_value growth
  pub so_far : parts_of line ≡ words_of spelling.text_of (growths ++ growth ∷ []) ++ words
  pub only : (all : List (List R)) → IsGroupLineOf spelling line all → Ahead spelling growths growth words all

start_ahead : {R : Type 0} (spelling : Spelling R) (line : List ℕ) (all : List (List R)) → AreWords spelling → IsGroupLineOf spelling line all → Ahead spelling [] [] (parts_of line) all
start_ahead spelling line [] law so = absurd (omega (arith, so.group.some))
start_ahead spelling line (growth ∷ others) law so = record {
  more = growth;
  others = others;
  parts = refl;
  some = so.group.filled.0;
  filled = so.group.filled.1;
  values = so.group.values.0;
  other_values = so.group.values.1;
  words_are = sym (ap parts_of so.text ∙ parts_of_group spelling (growth ∷ others) law so.group);
}

pub Reads_start : {R : Type 0} (spelling : Spelling R) (line : List ℕ) → AreWords spelling → Reads spelling line [] [] (parts_of line)
Reads_start spelling line law = record {
  filled = tt;
  values = tt;
  own = tt;
  so_far = refl;
  only = λ all so. start_ahead spelling line all law so;
}

head_is : (v w : List ℕ) (vs ws : List (List ℕ)) → v ∷ vs ≡ w ∷ ws → v ≡ w
head_is v w vs ws is = cc

tail_is : (v w : List ℕ) (vs ws : List (List ℕ)) → v ∷ vs ≡ w ∷ ws → vs ≡ ws
tail_is v w vs ws is = cc

-- ---- a bar

ahead_bar : {R : Type 0} (spelling : Spelling R) (growths : List (List R)) (growth : List R) (word : List ℕ) (words : List (List ℕ)) (all : List (List R)) (more : List R) (others : List (List R))
    → AreWords spelling → word ≡ codes "|" → all ≡ growths ++ (growth ++ more) ∷ others → Filled others → AllByRecursion spelling.is_value more
    → AllByRecursion (AllByRecursion spelling.is_value) others → words_of spelling.text_of (more ∷ others) ≡ word ∷ words
    → Ahead spelling (growths ++ growth ∷ []) [] words all
ahead_bar spelling growths growth word words all [] [] law bar parts filled values other_values are = cc are
ahead_bar spelling growths growth word words all [] (next ∷ others) law bar parts filled values other_values are = record {
  more = next;
  others = others;
  parts = parts ∙ ap (λ g. growths ++ g ∷ (next ∷ others)) (append-nil growth) ∙ sym (append_assoc growths (growth ∷ []) (next ∷ others));
  some = filled.0;
  filled = filled.1;
  values = other_values.0;
  other_values = other_values.1;
  words_are = tail_is (codes "|") word (words_of spelling.text_of (next ∷ others)) words are;
}
ahead_bar spelling growths growth word words all (r ∷ more) others law bar parts filled values other_values are =
    absurd
    (not_bar (spelling.text_of r) (law r values.0) (head_is (spelling.text_of r) word (words_of spelling.text_of (more ∷ others)) words (sym (words_first spelling.text_of r more others) ∙ are) ∙ bar))

Reads_bar : {R : Type 0} (spelling : Spelling R) (line : List ℕ) (growths : List (List R)) (growth : List R) (word : List ℕ) (words : List (List ℕ))
    → AreWords spelling → word ≡ codes "|" → 0 < length growth
    → Reads spelling line growths growth (word ∷ words) → Reads spelling line (growths ++ growth ∷ []) [] words
Reads_bar spelling line growths growth word words law bar some reads = record {
  filled = push_all (λ g. 0 < length g) growths growth reads.filled some;
  values = push_all (AllByRecursion spelling.is_value) growths growth reads.values reads.own;
  own = tt;
  so_far =
      reads.so_far ∙ ap (λ (w : List ℕ). words_of spelling.text_of (growths ++ growth ∷ []) ++ w ∷ words) bar
      ∙ sym (append_assoc (words_of spelling.text_of (growths ++ growth ∷ [])) (codes "|" ∷ []) words)
      ∙ ap (λ (ws : List (List ℕ)). ws ++ words) (sym (words_bar spelling.text_of growths growth));
  only = λ all so. let a = reads.only all so in ahead_bar spelling growths growth word words all a.more a.others law bar a.parts a.filled a.values a.other_values a.words_are;
}

-- ---- a record

ahead_record : {R : Type 0} (spelling : Spelling R) (growths : List (List R)) (growth : List R) (word : List ℕ) (words : List (List ℕ)) (r : R)
    (all : List (List R)) (more : List R) (others : List (List R))
    → AreWords spelling → HasOneValue spelling → spelling.is_value r → spelling.text_of r ≡ word → all ≡ growths ++ (growth ++ more) ∷ others
    → Filled others → AllByRecursion spelling.is_value more → AllByRecursion (AllByRecursion spelling.is_value) others
    → words_of spelling.text_of (more ∷ others) ≡ word ∷ words
    → Ahead spelling growths (growth ++ r ∷ []) words all
ahead_record spelling growths growth word words r all [] [] law one value text parts filled values other_values are = cc are
ahead_record spelling growths growth word words r all [] (next ∷ others) law one value text parts filled values other_values are =
    absurd (not_bar (spelling.text_of r) (law r value) (text ∙ sym (head_is (codes "|") word (words_of spelling.text_of (next ∷ others)) words are)))
ahead_record spelling growths growth word words r all (s ∷ more) others law one value text parts filled values other_values are =
    let both = sym (words_first spelling.text_of s more others) ∙ are in
    let same : s ≡ r = one s r values.0 value (head_is (spelling.text_of s) word (words_of spelling.text_of (more ∷ others)) words both ∙ sym text) in
    let regrouped : growth ++ s ∷ more ≡ (growth ++ r ∷ []) ++ more = ap (λ x. growth ++ x ∷ more) same ∙ sym (append_assoc growth (r ∷ []) more) in
    record {
      more = more;
      others = others;
      parts = parts ∙ ap (λ g. growths ++ g ∷ others) regrouped;
      some = let a = length-append (growth ++ r ∷ []) more in let b = length-append growth (r ∷ []) in omega (arith, a, b);
      filled = filled;
      values = values.1;
      other_values = other_values;
      words_are = tail_is (spelling.text_of s) word (words_of spelling.text_of (more ∷ others)) words both;
    }

Reads_record : {R : Type 0} (spelling : Spelling R) (line : List ℕ) (growths : List (List R)) (growth : List R) (word : List ℕ)
    (words : List (List ℕ)) (r : R)
    → AreWords spelling → HasOneValue spelling → spelling.is_value r → spelling.text_of r ≡ word
    → Reads spelling line growths growth (word ∷ words) → Reads spelling line growths (growth ++ r ∷ []) words
Reads_record spelling line growths growth word words r law one value text reads = record {
  filled = reads.filled;
  values = reads.values;
  own = push_all spelling.is_value growth r reads.own value;
  so_far =
      reads.so_far ∙ ap (λ (w : List ℕ). words_of spelling.text_of (growths ++ growth ∷ []) ++ w ∷ words) (sym text)
      ∙ sym (append_assoc (words_of spelling.text_of (growths ++ growth ∷ [])) (spelling.text_of r ∷ []) words)
      ∙ ap (λ (ws : List (List ℕ)). ws ++ words) (sym (words_push spelling.text_of growths growth r));
  only = λ all so. let a = reads.only all so in ahead_record spelling growths growth word words r all a.more a.others law one value text a.parts a.filled a.values a.other_values a.words_are;
}

pub Reads_word : {R : Type 0} (spelling : Spelling R) (line : List ℕ) (growths : List (List R)) (growth : List R) (word : List ℕ)
    (words : List (List ℕ)) (new_growths : List (List R)) (new_growth : List R)
    → AreWords spelling → HasOneValue spelling
    → TakesWord spelling word growths growth new_growths new_growth → Reads spelling line growths growth (word ∷ words) → Reads spelling line new_growths new_growth words
Reads_word spelling line growths growth word words new_growths new_growth law one (inl ends) reads =
    rw (ends.moved, ends.fresh) (Reads_bar spelling line growths growth word words law ends.is_bar ends.filled reads)
Reads_word spelling line growths growth word words new_growths new_growth law one (inr brings) reads =
    rw (brings.same, brings.brought) (Reads_record spelling line growths growth word words brings.record_read law one brings.value brings.text reads)

-- ---- no group line

ahead_stray : {R : Type 0} (spelling : Spelling R) (growth : List R) (word : List ℕ) (words : List (List ℕ)) (more : List R) (others : List (List R))
    → AreWords spelling → IsStrayWord spelling word growth → 0 < length (growth ++ more) → AllByRecursion spelling.is_value more
    → words_of spelling.text_of (more ∷ others) ≡ word ∷ words → ⊥
ahead_stray spelling growth word words [] others law (inl bar) some values are =
    let none : length (growth ++ []) ≡ 0 = ap (λ g. length (g ++ [])) bar.1 in omega (arith, none, some)
ahead_stray spelling growth word words [] [] law (inr none) some values are = cc are
ahead_stray spelling growth word words [] (next ∷ others) law (inr none) some values are = none.0 (sym (head_is (codes "|") word (words_of spelling.text_of (next ∷ others)) words are))
ahead_stray spelling growth word words (r ∷ more) others law (inl bar) some values are =
    not_bar (spelling.text_of r) (law r values.0) (head_is (spelling.text_of r) word (words_of spelling.text_of (more ∷ others)) words (sym (words_first spelling.text_of r more others) ∙ are) ∙ bar.0)
ahead_stray spelling growth word words (r ∷ more) others law (inr none) some values are =
    none.1 r values.0 (head_is (spelling.text_of r) word (words_of spelling.text_of (more ∷ others)) words (sym (words_first spelling.text_of r more others) ∙ are))

pub stray_is_bad : {R : Type 0} (spelling : Spelling R) (line : List ℕ) (growths : List (List R)) (growth : List R) (word : List ℕ)
    (words : List (List ℕ))
    → AreWords spelling → IsStrayWord spelling word growth
    → Reads spelling line growths growth (word ∷ words) → IsGroupLine spelling line → ⊥
stray_is_bad spelling line growths growth word words law stray reads so =
    let a = reads.only so.0 so.1 in ahead_stray spelling growth word words a.more a.others law stray a.some a.values a.words_are

ahead_ended : {R : Type 0} (text_of : R → List ℕ) (growth : List R) (more : List R) (others : List (List R)) → length growth ≡ 0
    → 0 < length (growth ++ more) → words_of text_of (more ∷ others) ≡ [] → ⊥
ahead_ended text_of growth [] others none some are = let len = ap length (append-nil growth) in omega (arith, len, none, some)
ahead_ended text_of growth (r ∷ more) others none some are = let bad : text_of r ∷ words_of text_of (more ∷ others) ≡ [] = sym (words_first text_of r more others) ∙ are in cc bad

pub unfinished_is_bad : {R : Type 0} (spelling : Spelling R) (line : List ℕ) (growths : List (List R)) (growth : List R) → length growth ≡ 0
    → Reads spelling line growths growth [] → IsGroupLine spelling line → ⊥
unfinished_is_bad spelling line growths growth none reads so =
    let a = reads.only so.0 so.1 in ahead_ended spelling.text_of growth a.more a.others none a.some a.words_are

pub read_whole : {R : Type 0} (spelling : Spelling R) (line : List ℕ) (growths : List (List R)) (growth : List R) → 0 < length growth
    → Reads spelling line growths growth [] → IsGroupLineOf spelling line (growths ++ growth ∷ [])
read_whole spelling line growths growth some reads =
    let filled = push_all (λ g. 0 < length g) growths growth reads.filled some in
    record {
      group = record {
        some = let len = length-append growths (growth ∷ []) in omega (arith, len);
        filled = filled;
        values = push_all (AllByRecursion spelling.is_value) growths growth reads.values reads.own;
      };
      text =
          sym (joined_parts line) ∙ ap (joined_by (codes " ")) (reads.so_far ∙ append-nil (words_of spelling.text_of (growths ++ growth ∷ [])))
          ∙ joined_growths spelling.text_of (growths ++ growth ∷ []) filled;
    }
