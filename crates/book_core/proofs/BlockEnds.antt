-- Where each block ends.
use Rattle.std.proofs.Common.{◌≡◌, ℕ, ◌+◌, ◌-◌, ◌<◌, ◌≤◌, inl, inr, List, [], ◌∷◌, ◌++◌, length, take, get_or, option_map, refl, true, false, leb, ap, sym, ◌∙◌, below_more, arith}
use Rattle.std.specs.Prelude.{sum_by}
use Rattle.std.specs.Global.{Vec}
use Rattle.std.specs.List.Sorted.{IsPartitionedBy, IsPartitionPoint}
use Rattle.std.proofs.lemmas.Bool.{cases_eq, leb-true, leb-false, le-leb}
use Rattle.std.proofs.lemmas.List.{get_or-map, get_or_append_left, get_or_push, get_or_default, take_all, take-take, length-map}
use Rattle.std.proofs.lemmas.Option.{slice_get-map, slice_get_read, slice_get_cases}
use Rattle.std.proofs.lemmas.List.Sums.{sum_by_more, sum_by-take-le}
use Rattle.book_core.specs.Lists.{records_of, joined_pieces, IsPlaceIn}
use Rattle.book_core.proofs.PieceLists.{length-joined_pieces}

-- what the first blocks hold, with one block more
module _ {R : Type 0} (blocks : List (Vec R)) (i : ℕ) (block : Vec R) (lt : i < length blocks) (is : block ≡ get_or blocks i block) where
  pub end_more : sum_by length (take (i + 1) (records_of blocks)) ≡ sum_by length (take i (records_of blocks)) + length block.items
  end_more =
      sum_by_more length (records_of blocks) i block.items (omega (arith, length-map blocks (λ (b : Vec R). b.items)))
      ∙ ap (λ (p : List R). sum_by length (take i (records_of blocks)) + length p) (get_or-map (λ (b : Vec R). b.items) blocks i block block.items lt ∙ ap (λ (b : Vec R). b.items) (sym is))

  pub end_more-le : sum_by length (take i (records_of blocks)) + length block.items ≤ length (joined_pieces (records_of blocks))
  end_more-le = let more = end_more in omega (arith, length-joined_pieces (records_of blocks), sum_by-take-le length (records_of blocks) (i + 1))

  pub ends_more : (ends : List ℕ) (size end : ℕ) → length ends ≡ i → sum_by length (take i (records_of blocks)) ≡ size
      → end ≡ size + length block.items → ((k : ℕ) → k < i → get_or ends k 0 ≡ sum_by length (take (k + 1) (records_of blocks)))
      → (k : ℕ) → k < i + 1 → get_or (ends ++ end ∷ []) k 0 ≡ sum_by length (take (k + 1) (records_of blocks))
  ends_more ends size end as_many is_size is_end before =
      below_more (λ (k : ℕ). get_or (ends ++ end ∷ []) k 0 ≡ sum_by length (take (k + 1) (records_of blocks))) i
      (λ k less. get_or_append_left ends (end ∷ []) 0 k (omega arith) ∙ before k less)
      (get_or_push ends end 0 i as_many ∙ (is_end ∙ (ap (λ (n : ℕ). n + length block.items) (sym is_size) ∙ sym end_more)))

-- what all blocks hold
pub length-records_of : {R : Type 0} (blocks : List (Vec R)) (n : ℕ) → length blocks ≤ n → length (joined_pieces (records_of blocks)) ≡ sum_by length (take n (records_of blocks))
length-records_of blocks n le = length-joined_pieces (records_of blocks) ∙ ap (sum_by length) (sym (take_all n (records_of blocks) (omega (arith, length-map blocks (λ (b : Vec _). b.items)))))

module _ {R : Type 0} (blocks : List (Vec R)) (ends : List ℕ) (as_many : length ends ≡ length blocks)
    (ends_are : (k : ℕ) → k < length blocks → get_or ends k 0 ≡ sum_by length (take (k + 1) (records_of blocks))) where
  -- no block ends before another that stands before it
  ends_rise : (j k : ℕ) → j ≤ k → k < length blocks → get_or ends j 0 ≤ get_or ends k 0
  ends_rise j k le lt =
      let here = ends_are j (omega arith) in
      let there = ends_are k lt in
      let part = sum_by-take-le length (take (k + 1) (records_of blocks)) (j + 1) in
      let same : sum_by length (take (j + 1) (take (k + 1) (records_of blocks))) ≡ sum_by length (take (j + 1) (records_of blocks)) =
      ap (sum_by length) (take-take (j + 1) (k + 1) (records_of blocks) (omega arith)) in
      omega arith

  pub IsPartitionedBy-ends : (i : ℕ) → IsPartitionedBy (λ end. leb end i) ends
  IsPartitionedBy-ends i j k d le lt is =
      let rise = ends_rise j k le (omega arith) in
      let at_j : get_or ends j d ≡ get_or ends j 0 = get_or_default ends j d 0 (omega arith) in
      let at_k : get_or ends k d ≡ get_or ends k 0 = get_or_default ends k d 0 lt in
      let below = leb-true (get_or ends k d) i is in
      le-leb (get_or ends j d) i (omega arith)

  -- how many records stand before a block
  pub start_at : (n : ℕ) → n ≤ length blocks → 0 < n → get_or ends (n - 1) 0 ≡ sum_by length (take n (records_of blocks))
  start_at n le some = let one : n - 1 + 1 ≡ n = omega arith in ends_are (n - 1) (omega arith) ∙ ap (λ (k : ℕ). sum_by length (take k (records_of blocks))) one

  module _ (i number : ℕ) (lt : i < length (joined_pieces (records_of blocks))) (bound : number ≤ length ends)
      (point : IsPartitionPoint (λ end. leb end i ≡ true) (λ end. leb end i ≡ false) ends number) where
    found_from : sum_by length (take number (records_of blocks)) ≤ i
    found_from =
        elim (cases_eq number 0) [
          | inl none ↦ let nothing : sum_by length (take number (records_of blocks)) ≡ 0 = ap (λ (k : ℕ). sum_by length (take k (records_of blocks))) none in omega arith
          | inr other ↦
              let some : 0 < number = omega (arith, other) in
              let below = leb-true _ i (point.0 (number - 1) 0 (omega arith) (omega arith)) in
              let at = start_at number (omega arith) some in
              omega arith
        ]

    found_inside : number < length blocks
    found_inside =
        elim (cases_eq number (length blocks)) [
          | inl past ↦ let from = found_from in let whole = length-records_of blocks number (omega arith) in absurd (omega arith)
          | inr other ↦ omega (arith, other)
        ]

    found_until : i < sum_by length (take (number + 1) (records_of blocks))
    found_until =
        let inside = found_inside in
        let above = leb-false _ i (point.1 number 0 (omega arith) (omega arith)) in
        let at = ends_are number inside in
        omega arith

    pub found : (number < length blocks) × (sum_by length (take number (records_of blocks)) ≤ i) × (i < sum_by length (take (number + 1) (records_of blocks)))
    found = (found_inside, found_from, found_until)

-- a place in a block
module _ {R : Type 0} (blocks : List (Vec R)) (i number start : ℕ) (block : Vec R) (lt : number < length blocks)
    (is : block ≡ get_or blocks number block) (start_is : start ≡ sum_by length (take number (records_of blocks)))
    (from : sum_by length (take number (records_of blocks)) ≤ i) (until : i < sum_by length (take (number + 1) (records_of blocks))) where
  pub place_inside : i - start < length block.items
  place_inside = let more = end_more blocks number block lt is in omega arith

  pub place_in_block : IsPlaceIn (records_of blocks) i number (i - start)
  place_in_block = record {
    piece = block.items;
    at = slice_get-map (λ (b : Vec R). b.items) blocks number ∙ ap (option_map (λ (b : Vec R). b.items)) (slice_get_read blocks (length blocks) number block refl lt is);
    inside = place_inside;
    before = omega arith;
  }

pub block_found : {R : Type 0} (blocks : List (Vec R)) (i number start : ℕ) → number < length blocks
    → start ≡ sum_by length (take number (records_of blocks)) → sum_by length (take number (records_of blocks)) ≤ i
    → i < sum_by length (take (number + 1) (records_of blocks))
    → IsPlaceIn (records_of blocks) i number (i - start)
block_found blocks i number start lt is from until =
    elim ((slice_get_cases blocks number).1) [
      | inl found ↦ place_in_block blocks i number start found.0 lt (sym found.3) is from until
      | inr past ↦ absurd (omega (arith, past.0))
    ]
