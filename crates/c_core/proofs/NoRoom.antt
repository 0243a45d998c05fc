-- Why no record is written.
use Rattle.std.proofs.Common.{◌≡◌, ◌<◌, ◌*◌, ◌+◌, ◌/◌, ℕ, min, zero, suc, refl, sym, subst, arith}
use Rattle.std.proofs.Math.Nat.{le-min, lt-div-mul-add}

whole : (many room width : ℕ) → 0 < width → 0 < many → min many (room / width) ≡ 0 → (q : ℕ) → q ≡ room / width → room < width
whole many room width wide some none zero is = omega (arith, subst (λ q. room < q * width + width) (sym is) (lt-div-mul-add {a = room} {b = width} wide))
whole many room width wide some none (suc q) is = absurd (omega (arith, is, none, le-min {k = 1} {a = many} {b = room / width} some (omega (arith, is))))

-- there are records, and as many are written as both reach: where that is none there is no room for one
pub no_room : (many room width : ℕ) → 0 < width → 0 < many → min many (room / width) ≡ 0 → room < width
no_room many room width wide some none = whole many room width wide some none (room / width) refl
