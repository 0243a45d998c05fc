-- What stands on a disk after a call is bytes.
use Rattle.std.proofs.Common.{◌≡◌, ℕ, zero, suc, ◌+◌, ◌-◌, ◌⊎◌, inl, inr, List, [], ◌∷◌, ◌++◌, length, take, drop, sym, subst, refl, arith}
use Rattle.std.proofs.lemmas.Bool.{cases_lt}
use Rattle.std.proofs.lemmas.List.{get_or_append_left, get_or-append_right, get_or-drop}
use Rattle.record_core.specs.Bytes.{IsBytes}
use Rattle.disk_core.specs.State.{State, touched, overlay}

IsBytes-take : (n : ℕ) (bytes : List ℕ) → IsBytes bytes → IsBytes (take n bytes)
IsBytes-take zero bytes fits i = omega arith
IsBytes-take (suc n) [] fits i = omega arith
IsBytes-take (suc n) (b ∷ bytes) fits zero = fits 0
IsBytes-take (suc n) (b ∷ bytes) fits (suc i) = IsBytes-take n bytes (λ k. fits (suc k)) i

IsBytes-drop : (n : ℕ) (bytes : List ℕ) → IsBytes bytes → IsBytes (drop n bytes)
IsBytes-drop n bytes fits i = let moved = get_or-drop n bytes i 0 in let here = fits (n + i) in omega arith

IsBytes-append : (front behind : List ℕ) → IsBytes front → IsBytes behind → IsBytes (front ++ behind)
IsBytes-append front behind first then i = elim (cases_lt i (length front)) [
  | inl lt ↦ (let at = get_or_append_left front behind 0 i lt in let small = first i in omega arith)
  | inr ge ↦ (let at = get_or-append_right front behind (length front) i 0 refl ge in let small = then (i - length front) in omega arith)
]

-- a write that succeeded
pub IsBytes-overlay : (old : List ℕ) (at : ℕ) (bytes : List ℕ) → IsBytes old → IsBytes bytes → IsBytes (overlay old at bytes)
IsBytes-overlay old at bytes before fits =
    IsBytes-append (take at old ++ bytes) (drop (at + length bytes) old)
    (IsBytes-append (take at old) bytes (IsBytes-take at old before) fits) (IsBytes-drop (at + length bytes) old before)

-- a write that a disk in memory failed to do
pub half_done_bytes : (at len : ℕ) (before after : State) → IsBytes before.seen → (after ≡ before) ⊎ (after ≡ touched before at len before.seen) → IsBytes after.seen
half_done_bytes at len before after fits (inl is) = subst (λ s. IsBytes s.seen) (sym is) fits
half_done_bytes at len before after fits (inr is) = subst (λ s. IsBytes s.seen) (sym is) fits
