-- A read of a piece by its bytes is one of the list, of as much of the piece as there is room for.
use Rattle.std.proofs.Common.{◌≡◌, ◌≤◌, ◌-◌, ◌*◌, ◌/◌, ◌++◌, ℕ, List, length, min, take, drop, ap, ◌∙◌, arith}
use Rattle.std.specs.List.{flat_map}
use Rattle.std.proofs.Math.Nat.{min-le_left, min-le_right, div-mul-le_self, mul-le-mul_right}
use Rattle.std.proofs.lemmas.List.{length-take, take-take}
use Rattle.record_core.specs.Bytes.{Encoding}
use Rattle.directory_core.specs.Finding.{IsPieceAt}
use Rattle.c_core.specs.Records.{AreWritten}
use Rattle.book_core.specs.Lists.{IsRestOfPiece}
use Rattle.phase_core.specs.Grower.{Copies, IsOfOnePiece}

pub copies : {R : Type 0} (form : Encoding R) (list piece : List R) (from : ℕ) (old new : List ℕ) (count : ℕ)
    → IsPieceAt list from piece → AreWritten form piece 0 old new count → Copies form list from old new count
copies form list piece from old new count at are =
    let few : count ≤ length piece = omega (arith, are.count_is, min-le_left (length piece - 0) (length old / form.width)) in
    let room : count ≤ length old / form.width = omega (arith, are.count_is, min-le_right (length piece - 0) (length old / form.width)) in
    let long : length piece ≤ length (drop from list) =
    omega (arith, ap length at.is, length-take (length piece) (drop from list), min-le_right (length piece) (length (drop from list))) in
    let fits : count * form.width ≤ length old =
    omega (arith, mul-le-mul_right form.width room, div-mul-le_self (length old) form.width) in
    let same : take count piece ≡ take count (drop from list) = ap (λ p. take count p) at.is ∙ take-take count (length piece) (drop from list) few in
    record {
      inside = (fits, omega (arith, few, long));
      is = are.written ∙ ap (λ rs. flat_map form.bytes_of rs ++ drop (count * form.width) old) same;
    }

pub of_one_piece : {R : Type 0} (form : Encoding R) (pieces : List (List R)) (piece : List R) (from : ℕ) (old new : List ℕ) (count : ℕ)
    → IsRestOfPiece pieces from piece → AreWritten form piece 0 old new count → IsOfOnePiece pieces from (length old / form.width) count
of_one_piece form pieces piece from old new count stands are = record { rest = piece; stands = stands; as_many = are.count_is ∙ ap (λ n. min n (length old / form.width)) same }
  where
    same : length piece - 0 ≡ length piece
    same = omega arith
