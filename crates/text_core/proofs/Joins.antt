-- Words joined by a space, and a line cut at its spaces.
use Rattle.std.proofs.Common.{◌≡◌, ◌≢◌, ℕ, true, false, List, [], ◌∷◌, ◌++◌, codes, Option, Some, None, Bor, refl, sym, ap, ◌∙◌, subst, arith}
use Rattle.std.specs.Prelude.{All, MatchOption, ◌==◌}
use Rattle.std.specs.Option.{option_copied}
use Rattle.std.specs.List.{AllPass, AllByRecursion, slice_split, join_with_byte}
use Rattle.std.proofs.lemmas.Bool.Decides.{nat_tests}
use Rattle.std.proofs.lemmas.List.{append_assoc}
use Rattle.std.proofs.lemmas.List.Elements.{All-weaker, All-nil, All-cons, All-head}
use Rattle.std.proofs.lemmas.List.Splits.{slice_split_none, slice_split_at, join_with_byte-slice_split}
use Rattle.text_core.specs.Text.{IsWord, is_word_byte, joined_by}

abbrev pub parts_of : List ℕ → List (List ℕ)
parts_of line = slice_split (λ b. b == 32) line

abbrev pub HasNoSpace : List ℕ → Type 0
HasNoSpace word = All (λ b. (b == 32) ≡ false) word

differs : (b c : ℕ) → b ≢ c → (b == c) ≡ false
differs b c apart = grind (arith, nat_tests)

word_byte_no_space : (b : ℕ) → is_word_byte b ≡ true → (b == 32) ≡ false
word_byte_no_space b so = grind (arith, nat_tests)

pub no_space_in_word : (word : List ℕ) → IsWord word → HasNoSpace word
no_space_in_word word so = All-weaker (λ b. is_word_byte b ≡ true) (λ b. (b == 32) ≡ false) word_byte_no_space word so.plain

pub joined_append : (s x : List ℕ) (xs : List (List ℕ)) (y : List ℕ) (ys : List (List ℕ)) → joined_by s ((x ∷ xs) ++ (y ∷ ys)) ≡ joined_by s (x ∷ xs) ++ (s ++ joined_by s (y ∷ ys))
joined_append s x [] y ys = refl
joined_append s x (z ∷ xs) y ys =
    ap (λ (t : List ℕ). x ++ (s ++ t)) (joined_append s z xs y ys)
    ∙ ap (λ (t : List ℕ). x ++ t) (sym (append_assoc s (joined_by s (z ∷ xs)) (s ++ joined_by s (y ∷ ys))))
    ∙ sym (append_assoc x (s ++ joined_by s (z ∷ xs)) (s ++ joined_by s (y ∷ ys)))

joined_is : (words : List (List ℕ)) → joined_by (32 ∷ []) words ≡ join_with_byte 32 words
joined_is [] = refl
joined_is (word ∷ []) = refl
joined_is (word ∷ next ∷ more) = ap (λ (t : List ℕ). word ++ (32 ∷ t)) (joined_is (next ∷ more))

pub joined_parts : (line : List ℕ) → joined_by (codes " ") (parts_of line) ≡ line
joined_parts line = joined_is (parts_of line) ∙ join_with_byte-slice_split 32 line

pub parts_joined : (word : List ℕ) (words : List (List ℕ)) → HasNoSpace word → AllByRecursion HasNoSpace words → parts_of (joined_by (codes " ") (word ∷ words)) ≡ word ∷ words
parts_joined word [] plain all = slice_split_none (λ b. b == 32) word plain
parts_joined word (next ∷ more) plain all =
    slice_split_at (λ b. b == 32) word 32 (joined_by (codes " ") (next ∷ more)) plain refl
    ∙ ap (λ (ws : List (List ℕ)). word ∷ ws) (parts_joined next more all.0 all.1)

-- the words that are left
abbrev pub words_in : Option (List ℕ) → List (List ℕ)
words_in None = []
words_in (Some line) = parts_of line

pub words_cut : (line word : List ℕ) (rest : Option (Bor (List ℕ))) → MatchOption rest (line ≡ word) (λ after. line ≡ word ++ 32 ∷ after.now)
    → All (λ b. b ≢ 32) word → words_in (Some line) ≡ word ∷ words_in (option_copied rest)
words_cut line word None whole first = ap parts_of whole ∙ slice_split_none (λ b. b == 32) word (All-weaker (λ b. b ≢ 32) (λ b. (b == 32) ≡ false) (λ b. differs b 32) word first)
words_cut line word (Some after) whole first =
    ap parts_of whole
    ∙ slice_split_at (λ b. b == 32) word 32 after.now (All-weaker (λ b. b ≢ 32) (λ b. (b == 32) ≡ false) (λ b. differs b 32) word first) refl

-- the same of what is left of a line
pub words_next : (left : Option (Bor (List ℕ))) (line : Bor (List ℕ)) (word : List ℕ) (rest : Option (Bor (List ℕ))) → left ≡ Some line
    → MatchOption rest (line.now ≡ word) (λ after. line.now ≡ word ++ 32 ∷ after.now) → All (λ b. b ≢ 32) word
    → words_in (option_copied left) ≡ word ∷ words_in (option_copied rest)
words_next left line word rest is whole first = ap (λ o. words_in (option_copied o)) is ∙ words_cut line.now word rest whole first

-- a bar is no word
pub not_bar : (word : List ℕ) → IsWord word → word ≡ codes "|" → ⊥
not_bar word so is = let bar = All-head (λ b. is_word_byte b ≡ true) 124 [] (subst (AllPass is_word_byte) is so.plain) in cc bar

pub no_space_in_bar : HasNoSpace (codes "|")
no_space_in_bar = All-cons (λ b. (b == 32) ≡ false) 124 [] refl (All-nil (λ b. (b == 32) ≡ false))
