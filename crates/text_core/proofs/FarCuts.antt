-- A text that is cut behind bytes that lack the separator.
use Rattle.std.proofs.Common.{◌≡◌, ℕ, ◌+◌, List, [], ◌∷◌, ◌++◌, length, take, drop, Option, Some, None, Bor, refl, sym, ap, ◌∙◌, take-add}
use Rattle.std.specs.Prelude.{MatchOption, All}
use Rattle.std.proofs.lemmas.List.{append_assoc, append-nil, take-append-drop, take_at}
use Rattle.std.proofs.lemmas.List.Elements.{All-append, All-same}

front_of : (text behind more : List ℕ) (n : ℕ) → drop n text ≡ behind ++ more → take (n + length behind) text ≡ take n text ++ behind
front_of text behind more n is = take-add n (length behind) text ∙ ap (λ t. take n text ++ t) (ap (take (length behind)) is ∙ take_at behind more (length behind) refl)

text_of : (text behind more : List ℕ) (n : ℕ) → drop n text ≡ behind ++ more → text ≡ take (n + length behind) text ++ more
text_of text behind more n is =
    sym (take-append-drop n text) ∙ ap (λ t. take n text ++ t) is ∙ sym (append_assoc (take n text) behind more) ∙ ap (λ t. t ++ more) (sym (front_of text behind more n is))

-- what a cut of the rest says of the whole text
pub far_whole : (rest : Option (Bor (List ℕ))) (text behind : List ℕ) (n separator : ℕ)
    → MatchOption rest (drop n text ≡ behind) (λ after. drop n text ≡ behind ++ separator ∷ after.now)
    → MatchOption rest (text ≡ take (n + length behind) text) (λ after. text ≡ take (n + length behind) text ++ separator ∷ after.now)
far_whole None text behind n separator is = text_of text behind [] n (is ∙ sym (append-nil behind)) ∙ append-nil (take (n + length behind) text)
far_whole (Some after) text behind n separator is = text_of text behind (separator ∷ after.now) n is

pub far_first : (P : ℕ → Type 0) (rest : Option (Bor (List ℕ))) (text behind : List ℕ) (n separator : ℕ)
    → MatchOption rest (drop n text ≡ behind) (λ after. drop n text ≡ behind ++ separator ∷ after.now)
    → All P (take n text) → All P behind → All P (take (n + length behind) text)
far_first P None text behind n separator is front all =
    All-same P _ _ (front_of text behind [] n (is ∙ sym (append-nil behind))) (All-append P (take n text) behind front all)
far_first P (Some after) text behind n separator is front all =
    All-same P _ _ (front_of text behind (separator ∷ after.now) n is) (All-append P (take n text) behind front all)

pub plain_more : (P : ℕ → Type 0) (text : List ℕ) (n m end : ℕ) → All P (take n text) → All P (take m (drop n text)) → n + m ≡ end → All P (take end text)
plain_more P text n m end front block is =
    All-same P _ _ (ap (λ k. take k text) (sym is) ∙ take-add n m text) (All-append P (take n text) (take m (drop n text)) front block)
