-- How many records groups can have in so many bytes.
use Rattle.std.proofs.Common.{◌≡◌, ℕ, zero, suc, ◌+◌, ◌-◌, ◌*◌, ◌/◌, ◌%◌, ◌≤◌, ◌<◌, sym, ap, subst, ◌∙◌, arith}
use Rattle.std.proofs.Math.Nat.{mul-le-mul_right}
use Rattle.segment_core.specs.declared.format.Shape.{Shape}
use Rattle.segment_core.specs.Shape.{limit_of}
use Rattle.segment_core.specs.Scanner.{CanHold}

-- q full groups of c records each, and the last one, of what is left
module _ (c w bytes q rest last : ℕ) (wide : 0 < w) (split : q * (14 + c * w) + rest ≡ bytes - 12) (left : rest < 14 + c * w) where
  last_small : last * w ≤ rest - 14 → 0 < last → (14 + last * w ≤ rest) × (last ≤ c)
  last_small fits some =
      let one : 1 * w ≤ last * w = mul-le-mul_right w (omega arith) in
      let long : 14 + last * w ≤ rest = omega arith in
      let not_more : c < last → ⊥ = λ more. (let less : c * w ≤ last * w = mul-le-mul_right w (omega arith) in omega arith) in
      (long, omega arith)

  pub held : (n : ℕ) → last * w ≤ rest - 14 → n ≤ q * c + last → 0 < n → (groups : ℕ) × (n ≤ groups * c) × (12 + groups * 14 + n * w ≤ bytes)
  held n fits few some = by_last last few (last_small fits)
    where
      by_last : (k : ℕ) → n ≤ q * c + k → (0 < k → (14 + k * w ≤ rest) × (k ≤ c)) → (groups : ℕ) × (n ≤ groups * c) × (12 + groups * 14 + n * w ≤ bytes)
      by_last zero few small =
          let size : n * w ≤ (q * c + 0) * w = mul-le-mul_right w few in
          let more : 1 ≤ q * c = omega arith in
          let wider : 1 * w ≤ q * c * w = mul-le-mul_right w more in
          (q, omega arith, omega arith)
      by_last (suc k) few small =
          let size : n * w ≤ (q * c + suc k) * w = mul-le-mul_right w few in
          let s = small (omega arith) in
          (q + 1, omega arith, omega arith)

  pub most : (n groups : ℕ) → rest - 14 < (last + 1) * w → n ≤ groups * c → 12 + groups * 14 + n * w ≤ bytes → n ≤ q * c + last
  most n groups all few fits =
      let no : q * c + last < n → ⊥ = λ more. (
      let size : (q * c + (last + 1)) * w ≤ n * w = mul-le-mul_right w (omega arith) in
      let past : q < groups = (let less : groups ≤ q → ⊥ = λ le. (let few' : groups * c ≤ q * c = mul-le-mul_right c le in omega arith) in omega arith) in
      omega arith) in
      omega arith

-- the same of a shape, as the quotients and rests are computed
module _ (shape : Shape) (w limit told behind rest : ℕ) (wide : 0 < w) (w_is : w ≡ shape.width)
    (limit_is : limit ≡ limit_of shape.format) (behind_is : behind ≡ told - 12)
    (rest_is : rest ≡ behind % (14 + (limit - 8) / w * w) - 14) where
  abbrev c : ℕ
  c = (limit - 8) / w

  c_is : c ≡ (limit_of shape.format - 8) / shape.width
  c_is = ap (λ k. (k - 8) / w) limit_is ∙ ap (λ k. (limit_of shape.format - 8) / k) w_is

  abbrev full : ℕ
  full = 14 + c * w

  pub room_held : (n : ℕ) → n ≤ behind / full * c + rest / w → 0 < n → CanHold shape told n
  room_held n few some =
      let found = held c w told (behind / full) (behind % full) (rest / w) wide (omega arith) (omega arith) n (omega arith) few some in
      record { groups = found.0; in_groups = subst (λ k. n ≤ found.0 * k) c_is found.1; in_bytes = subst (λ k. 12 + found.0 * 14 + n * k ≤ told) w_is found.2 }

  pub room_most : (n : ℕ) → CanHold shape told n → n ≤ behind / full * c + rest / w
  room_most n can =
      most c w told (behind / full) (behind % full) (rest / w) wide (omega arith) (omega arith) n can.groups
      (omega arith) (subst (λ k. n ≤ can.groups * k) (sym c_is) can.in_groups)
      (subst (λ k. 12 + can.groups * 14 + n * k ≤ told) (sym w_is) can.in_bytes)

-- so many records are no more than the bytes
pub room_fits : (bytes c w : ℕ) → 0 < w → bytes / (14 + c * w) * c + (bytes % (14 + c * w) - 14) / w ≤ bytes
room_fits bytes c w wide =
    let full : ℕ = 14 + c * w in
    let q : ℕ = bytes / (14 + c * w) in
    let last : ℕ = (bytes % (14 + c * w) - 14) / w in
    let each : 1 * c ≤ w * c = mul-le-mul_right c (omega arith) in
    let groups : c * q ≤ (14 + c * w) * q = mul-le-mul_right q (omega arith) in
    let rest : 1 * last ≤ w * last = mul-le-mul_right last (omega arith) in
    omega arith
