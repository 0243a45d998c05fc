-- The sizes of the buckets.
use Rattle.std.proofs.Common.{◌≡◌, ℕ, suc, ◌*◌, ◌^◌, ◌<◌, ◌≤◌, ap, arith, pow_mono, pow-suc, lt_of_not-le}
use Rattle.directory_core.specs.Spot.{span, IsSpot}

-- the highest bit of a number below a power of 2
pub top_below : (n top most : ℕ) → 2 ^ top ≤ n → n < 2 ^ most → top < most
top_below n top most low high = lt_of_not-le (λ (le : most ≤ top). let p : 2 ^ most ≤ 2 ^ top = pow_mono le in omega arith)

-- a growth has one spot
below : (g k j l i : ℕ) → IsSpot g k j → IsSpot g l i → ¬ (k < l)
below g k j l i a b lt = let p : 2 ^ suc k ≤ 2 ^ l = pow_mono lt in let q : 2 ^ suc k ≡ 2 ^ k * 2 = pow-suc 2 k in let inside = a.inside in let at = a.at in let at' = b.at in omega arith

pub one_bucket : (g k j l i : ℕ) → IsSpot g k j → IsSpot g l i → k ≡ l
one_bucket g k j l i a b = let p = below g k j l i a b in let q = below g l i k j b a in omega arith

pub one_place : (g k j l i : ℕ) → IsSpot g k j → IsSpot g l i → j ≡ i
one_place g k j l i a b = let e : span k ≡ span l = ap span (one_bucket g k j l i a b) in let inside = a.inside in let inside' = b.inside in let at = a.at in let at' = b.at in omega arith
