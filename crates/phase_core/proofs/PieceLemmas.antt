-- What a piece of a list is to the whole, and where a record doesn't stand.
use Rattle.std.proofs.Common.{◌≡◌, ◌⊎◌, ℕ, ◌+◌, ◌-◌, ◌≤◌, ◌<◌, Bool, true, false, List, [], ◌∷◌, length, Some, take, drop, ap, sym, ◌∙◌, arith, inl, inr}
use Rattle.std.specs.Prelude.{slice_get}
use Rattle.std.proofs.Math.Seq.{take-append_seam, drop-append_seam}
use Rattle.std.proofs.lemmas.Bool.{cases_lt}
use Rattle.std.proofs.lemmas.Option.{same_Some}
use Rattle.std.proofs.lemmas.List.{length-take, length-drop, drop-drop}
use Rattle.segment_core.proofs.Replaced.{slice_get-drop, slice_get-take}
use Rattle.directory_core.specs.Finding.{IsPieceAt}
use Rattle.book_core.specs.Lists.{joined_pieces}
use Rattle.phase_core.specs.Grower.{IsFoundFrom}

-- one more that isn't it
pub none_more : {R : Type 0} (eq : R → R → Bool) (x r : R) (xs : List R) (k : ℕ) → eq x x ≡ true → slice_get xs k ≡ Some r → eq r x ≡ false
    → ((i : ℕ) → i < k → slice_get xs i ≡ Some x → ⊥) → (i : ℕ) → i < k + 1 → slice_get xs i ≡ Some x → ⊥
none_more eq x r xs k same at other none i lt is = elim (cases_lt i k) [
  | inl below ↦ none i below is
  | inr le ↦
      let here : k ≡ i = omega (arith, lt, le) in
      let it : r ≡ x = same_Some r x (sym at ∙ ap (slice_get xs) here ∙ is) in
      let both : true ≡ false = sym same ∙ ap (λ y. eq y x) (sym it) ∙ other in cc
]

-- where no piece is left from a position on, the list ends there or before it
pub none_left : {R : Type 0} (xs : List R) (i : ℕ) → [] ≡ drop i xs → length xs ≤ i
none_left xs i left = omega (arith, length-drop i xs, ap length left)

-- pieces that are left of a list from a position on, by the first of them
module _ {R : Type 0} (xs : List R) (i : ℕ) (piece : List R) (pieces : List (List R)) (left : joined_pieces (piece ∷ pieces) ≡ drop i xs) where
  pub front : piece ≡ take (length piece) (drop i xs)
  front = sym (take-append_seam piece (joined_pieces pieces)) ∙ ap (take (length piece)) left

  pub stands : 0 < length piece → IsPieceAt xs i piece
  stands some = record { some = some; is = front }

  pub left_behind : joined_pieces pieces ≡ drop (i + length piece) xs
  left_behind = sym (drop-append_seam piece (joined_pieces pieces)) ∙ ap (drop (length piece)) left ∙ drop-drop (length piece) i xs

  pub length-piece : length piece ≤ length xs
  length-piece = omega (arith, ap length front, length-take (length piece) (drop i xs), length-drop i xs)

  pub end-piece : 0 < length piece → i + length piece ≤ length xs
  end-piece some = omega (arith, some, ap length front, length-take (length piece) (drop i xs), length-drop i xs)

  -- a place in the piece, or behind it, is in the list, or at its own front
  pub place-piece : (place : ℕ) → place ≤ length piece → (place ≡ 0) ⊎ (i + place ≤ length xs)
  place-piece place within = elim (cases_lt 0 place) [
    | inl some ↦ inr (omega (arith, within, end-piece (omega (arith, some, within))))
    | inr none ↦ inl (omega (arith, none))
  ]

  pub slice_get-piece : (k : ℕ) → k < length piece → slice_get xs (i + k) ≡ slice_get piece k
  slice_get-piece k lt =
      sym (slice_get-drop i xs k) ∙ sym (slice_get-take (length piece) (drop i xs) k lt) ∙ ap (λ (rs : List R). slice_get rs k) (sym front)

  -- where none before the piece is it, none before its first place in the piece is
  pub none_in_piece : (x : R) (from place : ℕ) → ((k : ℕ) → from ≤ k → k < i → slice_get xs k ≡ Some x → ⊥) → IsFoundFrom piece x 0 place
      → (k : ℕ) → from ≤ k → k < i + place → slice_get xs k ≡ Some x → ⊥
  none_in_piece x from place none found k behind before is = elim (cases_lt k i) [
    | inl lt ↦ none k behind lt is
    | inr le ↦
        let same : i + (k - i) ≡ k = omega (arith, le) in
        let inside : k - i < length piece = omega (arith, le, before, found.within) in
        found.first (k - i) (omega arith) (omega (arith, le, before)) (sym (slice_get-piece (k - i) inside) ∙ ap (slice_get xs) same ∙ is)
  ]
