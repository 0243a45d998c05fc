-- Growths one after another.
use Rattle.std.proofs.Common.{◌≡◌, ℕ, zero, suc, ◌+◌, ◌<◌, ◌≤◌, ◌⊎◌, List, [], ◌∷◌, ◌++◌, length, get_or, take, slice_get, Some, refl, ap, sym, subst, ◌∙◌, arith, inl, inr, le_of_lt}
use Rattle.std.proofs.Math.Seq.{take-length}
use Rattle.std.proofs.lemmas.List.{length-take, length-take-le, take-append-le, take-take, take_at}
use Rattle.std.proofs.lemmas.List.Concat.{length-flat_map}
use Rattle.std.proofs.lemmas.List.Sums.{sum_by_more, sum_by_more_le}
use Rattle.std.proofs.lemmas.Option.{slice_get_within, get_or_from_slice_get}
use Rattle.block_core.specs.Growth.{Growth}
use Rattle.directory_core.specs.Chain.{total, grown_records, IsNextGrowth, IsChained, IsPrefix, IsLongerOf}

pub length-grown_records : {R : Type 0} (es : List (Growth R)) → length (grown_records es) ≡ total es
length-grown_records es = length-flat_map (λ (e : Growth _). e.records) es

pub begun_still : {X : Type 0} (xs ys zs : List X) → IsPrefix xs ys → IsPrefix ys zs → IsPrefix xs zs
begun_still xs ys zs a b =
    let long : length xs ≤ length ys = let l = ap length a in omega (arith, length-take (length xs) ys) in
    sym (take-take (length xs) (length ys) zs long) ∙ (ap (λ (ws : List _). take (length xs) ws) b ∙ a)

-- lists with the same first elements
pub same_below : {X : Type 0} (xs ys : List X) (n g : ℕ) → take n xs ≡ take n ys → g < n → slice_get xs g ≡ slice_get ys g
same_below xs ys zero g same lt = absurd (omega arith)
same_below [] [] (suc n) g same lt = refl
same_below [] (y ∷ ys) (suc n) g same lt = absurd cc
same_below (x ∷ xs) [] (suc n) g same lt = absurd cc
same_below (x ∷ xs) (y ∷ ys) (suc n) zero same lt = let first : x ≡ y = cc in ap Some first
same_below (x ∷ xs) (y ∷ ys) (suc n) (suc g) same lt = let rest : take n xs ≡ take n ys = cc in same_below xs ys n g rest (omega arith)

-- the one of two lists that is no shorter, where the other begins it
pub longer_mine : {X : Type 0} (mine theirs both : List X) → both ≡ mine → take (length theirs) mine ≡ take (length theirs) theirs → IsLongerOf mine theirs both
longer_mine mine theirs both same begun = record {
  begins_mine = subst (λ (xs : List _). IsPrefix mine xs) (sym same) (take-length mine);
  begins_theirs = subst (λ (xs : List _). IsPrefix theirs xs) (sym same) (begun ∙ take-length theirs);
  is_one = inl same;
}

pub longer_theirs : {X : Type 0} (mine theirs both : List X) → both ≡ theirs → IsPrefix mine theirs → IsLongerOf mine theirs both
longer_theirs mine theirs both same begun = record {
  begins_mine = subst (λ (xs : List _). IsPrefix mine xs) (sym same) begun;
  begins_theirs = subst (λ (xs : List _). IsPrefix theirs xs) (sym same) (take-length theirs);
  is_one = inr same;
}

-- what stands in a list that grew by one
push_get : {X : Type 0} (xs : List X) (x : X) (g : ℕ) (y : X) → slice_get (xs ++ x ∷ []) g ≡ Some y → (slice_get xs g ≡ Some y) ⊎ ((g ≡ length xs) × (x ≡ y))
push_get [] x zero y is = inr (refl, grind arith)
push_get [] x (suc g) y is = grind arith
push_get (z ∷ xs) x zero y is = inl is
push_get (z ∷ xs) x (suc g) y is = elim (push_get xs x g y is) [ inl before ↦ inl before | inr last ↦ let at = last.0 in inr (omega arith, last.1) ]

pub chained_push : {R : Type 0} (es : List (Growth R)) (e : Growth R) → IsChained es → IsNextGrowth es e → IsChained (es ++ e ∷ [])
chained_push es e chained next g f is =
    elim (push_get es e g f is) [
      | inl before ↦ rw (take-append-le g es (e ∷ []) (le_of_lt (slice_get_within es g f before))) (chained g f before)
      | inr last ↦ rw (take_at es (e ∷ []) g (sym last.0), ← last.1) next
    ]

-- what stands at a place of the chain
pub chained_at : {R : Type 0} (es : List (Growth R)) (g : ℕ) (e : Growth R) → IsChained es → slice_get es g ≡ Some e
    → (e.number ≡ g) × (e.start ≡ total (take g es)) × (total (take (g + 1) es) ≡ total (take g es) + length e.records)
    × (total (take g es) + length e.records ≤ total es)
chained_at es g e chained is =
    let inside : g < length es = slice_get_within es g e is in
    let here : get_or es g e ≡ e = get_or_from_slice_get es g e e is in
    let next = chained g e is in (
      next.number ∙ length-take-le g es (le_of_lt inside),
      next.start,
      sum_by_more (λ (f : Growth _). length f.records) es g e inside ∙ ap (λ (f : Growth _). total (take g es) + length f.records) here,
      subst (λ (f : Growth _). total (take g es) + length f.records ≤ total es) here (sum_by_more_le (λ (f : Growth _). length f.records) es g e inside),
    )
