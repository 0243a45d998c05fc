-- Records with a comma between each two.
use Rattle.std.proofs.Common.{◌≡◌, ◌≢◌, ◌⊎◌, inl, inr, All, ℕ, ◌<◌, suc, List, [], ◌∷◌, ◌++◌, length, map, codes, Option, Some, None, Bor, refl, sym, ap, ◌∙◌, arith}
use Rattle.std.specs.Prelude.{MatchOption}
use Rattle.std.specs.Option.{option_copied}
use Rattle.std.proofs.lemmas.List.{append_assoc, length-append}
use Rattle.text_core.specs.Text.{joined_by}
use Rattle.files_core.specs.Asked.{IsWordPart}

-- each word and a comma
abbrev pub ended_words : {R : Type 0} → (R → List ℕ) → List R → List ℕ
ended_words text_of [] = []
ended_words text_of (r ∷ records) = text_of r ++ 44 ∷ ended_words text_of records

-- these records are read, and this is left of the text
abbrev pub IsLeft : {R : Type 0} → (R → List ℕ) → List ℕ → List R → Option (List ℕ) → Type 0
IsLeft text_of text records None = (0 < length records) × (text ≡ joined_by (codes ",") (map text_of records))
IsLeft text_of text records (Some rest) = text ≡ ended_words text_of records ++ rest

abbrev pub left_len : Option (List ℕ) → ℕ
left_len None = 0
left_len (Some rest) = suc (length rest)

words_end : {R : Type 0} (text_of : R → List ℕ) (records : List R) (r : R) → ended_words text_of records ++ text_of r ≡ joined_by (codes ",") (map text_of (records ++ r ∷ []))
words_end text_of [] r = refl
words_end text_of (s ∷ []) r = append_assoc (text_of s) (44 ∷ []) (text_of r)
words_end text_of (s ∷ m ∷ more) r =
    append_assoc (text_of s) (44 ∷ ended_words text_of (m ∷ more)) (text_of r)
    ∙ ap (λ (t : List ℕ). text_of s ++ 44 ∷ t) (words_end text_of (m ∷ more) r)

words_push : {R : Type 0} (text_of : R → List ℕ) (records : List R) (r : R) → ended_words text_of (records ++ r ∷ []) ≡ ended_words text_of records ++ (text_of r ++ 44 ∷ [])
words_push text_of [] r = refl
words_push text_of (s ∷ records) r =
    ap (λ (t : List ℕ). text_of s ++ 44 ∷ t) (words_push text_of records r)
    ∙ sym (append_assoc (text_of s) (44 ∷ ended_words text_of records) (text_of r ++ 44 ∷ []))

left_more : {R : Type 0} (text_of : R → List ℕ) (text words word : List ℕ) (records : List R) (r : R) (after : Option (List ℕ))
    → MatchOption after (words ≡ word) (λ rest. words ≡ word ++ 44 ∷ rest) → text_of r ≡ word → text ≡ ended_words text_of records ++ words
    → IsLeft text_of text (records ++ r ∷ []) after
left_more text_of text words word records r None whole is before =
    (omega (arith, length-append records (r ∷ [])), before ∙ ap (λ (t : List ℕ). ended_words text_of records ++ t) (whole ∙ sym is) ∙ words_end text_of records r)
left_more text_of text words word records r (Some rest) whole is before =
    before ∙ ap (λ (t : List ℕ). ended_words text_of records ++ t) (whole ∙ ap (λ (t : List ℕ). t ++ 44 ∷ rest) (sym is) ∙ sym (append_assoc (text_of r) (44 ∷ []) rest))
    ∙ sym (append_assoc (ended_words text_of records) (text_of r ++ 44 ∷ []) rest) ∙ ap (λ (t : List ℕ). t ++ rest) (sym (words_push text_of records r))

lent : (after : Option (Bor (List ℕ))) (words word : List ℕ) → MatchOption after (words ≡ word) (λ rest. words ≡ word ++ 44 ∷ rest.now)
    → MatchOption (option_copied after) (words ≡ word) (λ rest. words ≡ word ++ 44 ∷ rest)
lent None words word whole = whole
lent (Some rest) words word whole = whole

pub next_left : {R : Type 0} (text_of : R → List ℕ) (text words word : List ℕ) (records : List R) (r : R) (after : Option (Bor (List ℕ)))
    → MatchOption after (words ≡ word) (λ rest. words ≡ word ++ 44 ∷ rest.now) → text_of r ≡ word → text ≡ ended_words text_of records ++ words
    → IsLeft text_of text (records ++ r ∷ []) (option_copied after)
next_left text_of text words word records r after whole is before = left_more text_of text words word records r (option_copied after) (lent after words word whole) is before

pub next_shorter : (words word : List ℕ) (after : Option (Bor (List ℕ))) → MatchOption after (words ≡ word) (λ rest. words ≡ word ++ 44 ∷ rest.now)
    → left_len (option_copied after) < suc (length words)
next_shorter words word None whole = omega arith
next_shorter words word (Some rest) whole = omega (arith, ap length whole, length-append word (44 ∷ rest.now))

-- what is left of a text begins it, or stands behind a comma of it
words_begin : {R : Type 0} (text_of : R → List ℕ) (records : List R) (words : List ℕ) → (ended_words text_of records ++ words ≡ words)
    ⊎ ((front : List ℕ) × (ended_words text_of records ++ words ≡ front ++ 44 ∷ words))
words_begin text_of [] words = inl refl
words_begin text_of (r ∷ records) words = elim (words_begin text_of records words) [
  | inl same ↦ inr (text_of r, append_assoc (text_of r) (44 ∷ ended_words text_of records) words ∙ ap (λ (t : List ℕ). text_of r ++ 44 ∷ t) same)
  | inr some ↦ inr (
    text_of r ++ 44 ∷ some.0,
    append_assoc (text_of r) (44 ∷ ended_words text_of records) words
        ∙ ap (λ (t : List ℕ). text_of r ++ 44 ∷ t) some.1 ∙ sym (append_assoc (text_of r) (44 ∷ some.0) (44 ∷ words)),
  )
]

word_ends : (after : Option (Bor (List ℕ))) (words word : List ℕ) → MatchOption after (words ≡ word) (λ rest. words ≡ word ++ 44 ∷ rest.now)
    → (words ≡ word) ⊎ ((behind : List ℕ) × (words ≡ word ++ 44 ∷ behind))
word_ends None words word whole = inl whole
word_ends (Some rest) words word whole = inr (rest.now, whole)

-- the next word is a part of the text
pub next_part : {R : Type 0} (text_of : R → List ℕ) (text words word : List ℕ) (records : List R) (after : Option (Bor (List ℕ)))
    → MatchOption after (words ≡ word) (λ rest. words ≡ word ++ 44 ∷ rest.now) → All (λ b. b ≢ 44) word → text ≡ ended_words text_of records ++ words
    → IsWordPart text word
next_part text_of text words word records after whole plain before = record {
  rest = words;
  begins = elim (words_begin text_of records words) [
    | inl same ↦ inl (before ∙ same)
    | inr some ↦ inr (some.0, before ∙ some.1)
  ];
  ends = word_ends after words word whole;
  plain = plain;
}
