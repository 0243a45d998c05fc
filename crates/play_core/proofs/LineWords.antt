-- What is left of a line, word by word.
use Rattle.std.proofs.Common.{◌≡◌, ◌≢◌, ℕ, Bool, true, false, not, List, [], ◌∷◌, ◌++◌, length, Option, Some, None, Bor, refl, ap, ◌∙◌, arith}
use Rattle.std.specs.Prelude.{All, MatchOption, IsTrue, ◌==◌, ◌↔◌}
use Rattle.std.specs.Option.{is_some, option_copied}
use Rattle.std.proofs.lemmas.List.Splits.{length-slice_split}
use Rattle.play_core.specs.LineWords.{words_of, words_left}
use Rattle.text_core.proofs.Joins.{words_in, words_cut}

pub words_some : (text : List ℕ) → words_of text ≢ []
words_some text is =
    let len = length-slice_split (λ b. b == 32) text in let none : length (words_of text) ≡ 0 = ap length is in omega (arith, len, none)

pub ended_left : (rest : Option (Bor (List ℕ))) (b : Bool) → is_some rest ≡ not b → IsTrue b ↔ (words_left rest ≡ [])
ended_left None true is = (λ so. refl, λ none. refl)
ended_left None false is = cc is
ended_left (Some text) true is = cc is
ended_left (Some text) false is = (λ so. cc so, λ none. absurd (words_some text.now none))

words_same : (rest : Option (Bor (List ℕ))) → words_in (option_copied rest) ≡ words_left rest
words_same None = refl
words_same (Some text) = refl

pub next_left : (text word : List ℕ) (rest : Option (Bor (List ℕ))) → MatchOption rest (text ≡ word) (λ after. text ≡ word ++ 32 ∷ after.now)
    → All (λ b. b ≢ 32) word → words_of text ≡ word ∷ words_left rest
next_left text word rest whole first = words_cut text word rest whole first ∙ ap (λ (ws : List (List ℕ)). word ∷ ws) (words_same rest)
