-- Two values that are read behind one another are the value of both; and a record of bytes, worked.
use Rattle.std.proofs.Common.{◌≡◌, ℕ, List, [], ◌∷◌, take, drop, Option, Some, refl, ap, ◌∙◌}
use Rattle.std.specs.Prelude.{◌^◌}
use Rattle.record_core.specs.Bytes.{Encoding, Parts, both, of_parts}
use Rattle.record_core.specs.ByteRecords.{bytes24}

pub both_read : {A B C : Type 0} (parts : Parts A B C) (a : Encoding A) (b : Encoding B) (bytes : List ℕ) (front : A) (back : B)
    → Some front ≡ a.value_of (take a.width bytes) → Some back ≡ b.value_of (drop a.width bytes)
    → Some (parts.make front back) ≡ (of_parts parts a b).value_of bytes
both_read {B = B} parts a b bytes front back first second =
    ap (λ x. both parts.make x (Some back)) first ∙ ap (λ (y : Option B). both parts.make (a.value_of (take a.width bytes)) y) second

-- the words of a record, each with its lowest byte first, from its front on
in_order : bytes24.bytes_of (record { front = record { front = 1; back = 2 ^ 63 }; back = 258 })
    ≡ 1 ∷ 0 ∷ 0 ∷ 0 ∷ 0 ∷ 0 ∷ 0 ∷ 0 ∷ 0 ∷ 0 ∷ 0 ∷ 0 ∷ 0 ∷ 0 ∷ 0 ∷ 128 ∷ 2 ∷ 1 ∷ 0 ∷ 0 ∷ 0 ∷ 0 ∷ 0 ∷ 0 ∷ []
in_order = refl
