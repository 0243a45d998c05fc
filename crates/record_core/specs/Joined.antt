-- Two records behind one another, as one.
use Rattle.std.specs.Prelude.{◌≡◌, ◌≤◌, ◌<◌, ◌+◌, ◌^◌, ℕ, length, refl}
use Rattle.std.proofs.Common.{arith}
use Rattle.std.proofs.lemmas.List.{length-append}
use Rattle.record_core.specs.Bytes.{Encoding, Parts, of_parts}
use Rattle.record_core.specs.declared.joined.Joined.{Joined}

abbrev pub joined_parts : {A B : Type 0} → Parts A B (Joined A B)
joined_parts = record { make = λ a b. record { front = a; back = b }; first = λ j. j.front; second = λ j. j.back; first_is = λ a b. refl; second_is = λ a b. refl; nothing_else = λ j. refl }

-- what a record of two is, as each of them is one
pub width_joined : (m n v w : ℕ) → m ≡ v → n ≡ w → m + n ≡ v + w
width_joined m n v w one two = omega arith

pub range_joined : (v w : ℕ) → 1 ≤ v → v < 2 ^ 15 → w < 2 ^ 15 → (1 ≤ v + w) × (v + w < 2 ^ 16)
range_joined v w some narrow other = (omega arith, omega arith)

pub bytes_joined : {A B C : Type 0} (parts : Parts A B C) (a : Encoding A) (b : Encoding B)
    → ((x : A) → length (a.bytes_of x) ≡ a.width) → ((y : B) → length (b.bytes_of y) ≡ b.width)
    → (c : C) → length ((of_parts parts a b).bytes_of c) ≡ (of_parts parts a b).width
bytes_joined parts a b one two c =
    let front = one (parts.first c) in
    let back = two (parts.second c) in
    omega (arith, length-append (a.bytes_of (parts.first c)) (b.bytes_of (parts.second c)))
