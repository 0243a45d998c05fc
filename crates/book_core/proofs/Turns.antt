-- What a step of an iterator over slices leaves.
use Rattle.std.proofs.Common.{◌≡◌, suc, ◌+◌, ◌≤◌, List, ◌∷◌, Bor, Iter, Option, Some, None, length, map, ap, ◌∙◌, subst, arith}
use Rattle.std.specs.Slice.Iter.{iter_rest, iter_steps}
use Rattle.std.proofs.lemmas.List.{length-append}
use Rattle.book_core.specs.Lists.{joined_pieces}
use Rattle.book_core.specs.Snapshots.{AreFull}

-- the first slice is begun
pub slices_begun : {R : Type 0} (slices rest : List (Bor (List R))) (s : Bor (List R)) → slices ≡ s ∷ rest → AreFull (map (λ t. t.now) slices)
    → AreFull (map (λ t. t.now) rest) × (length (joined_pieces (map (λ t. t.now) slices)) ≡ length s.now + length (joined_pieces (map (λ t. t.now) rest)))
slices_begun {R} slices rest s is full =
    let begun : AreFull (s.now ∷ map (λ t. t.now) rest) = subst (λ (ss : List (Bor (List R))). AreFull (map (λ t. t.now) ss)) is full in (
      λ k d lt. begun (suc k) d (omega arith),
      ap (λ (ss : List (Bor (List R))). length (joined_pieces (map (λ t. t.now) ss))) is ∙ length-append s.now (joined_pieces (map (λ t. t.now) rest)),
    )

-- a step leaves no more than was there
pub steps_shorter : {R : Type 0} (s t : Iter R) (r : Option (Bor R)) → iter_steps s r t → length (iter_rest t) ≤ length (iter_rest s)
steps_shorter s t None steps = let same = ap (λ (i : Iter _). length (iter_rest i)) steps.1 in omega arith
steps_shorter s t (Some x) steps = let more = ap length steps in omega arith
