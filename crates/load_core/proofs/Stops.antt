-- Growers that stopped.
use Rattle.std.proofs.Common.{◌≡◌, ℕ, zero, suc, ◌+◌, ◌<◌, min, List, [], ◌∷◌, length, get_or, slice_get, Some, sym, ap, arith}

-- what stands at a place of a list
pub at_place : {X : Type 0} (xs : List X) (k : ℕ) (x : X) → k < length xs → x ≡ get_or xs k x → slice_get xs k ≡ Some x
at_place [] k x inside is = absurd (omega (arith, inside))
at_place (y ∷ xs) zero x inside is = ap Some (sym is)
at_place (y ∷ xs) (suc k) x inside is = at_place xs k x (omega (arith, inside)) is

-- a product that saturates, and two sums of it that do
pub saturated : (most product same more before times plus all : ℕ) → product ≡ same → times ≡ min product most → plus ≡ min (times + more) most → all ≡ min (plus + before) most
    → all ≡ min most (before + (same + more))
saturated most product same more before times plus all is first then last = omega arith
