-- Parts of a row of growths.
use Rattle.std.proofs.Common.{◌≡◌, ℕ, ◌+◌, ◌-◌, ◌*◌, ◌<◌, ◌≤◌, List, ◌++◌, length, take, drop, Some, sym, ap, subst, ◌∙◌, arith}
use Rattle.std.specs.Prelude.{slice_get}
use Rattle.std.specs.List.{AllByRecursion}
use Rattle.std.proofs.lemmas.List.{length-drop, length-take-le, take-append-drop}
use Rattle.std.proofs.Math.Seq.{take-add}
use Rattle.segment_core.specs.Written.{joined, payload_len}
use Rattle.segment_core.proofs.Replaced.{slice_get-drop, slice_get-take}
use Rattle.segment_core.proofs.Written.{payload_len_more, records_more}
use Rattle.lines_core.proofs.FirstBlocks.{all_back, all_front}
use Rattle.load_core.specs.Groups.{row_part}

module _ {R : Type 0} (row : List (List R)) (from : ℕ) where
  pub length-row_part : (n : ℕ) → from + n ≤ length row → length (row_part row from n) ≡ n
  length-row_part n inside = length-take-le n (drop from row) (omega (arith, length-drop from row))

  -- a growth of the part
  pub slice_get-row_part : (n k : ℕ) → k < n → slice_get (row_part row from n) k ≡ slice_get row (from + k)
  slice_get-row_part n k lt = slice_get-take n (drop from row) k lt ∙ slice_get-drop from row k

  -- what is so of each growth of the row is so of those of the part
  pub each-row_part : (P : List R → Type 0) (n : ℕ) → AllByRecursion P row → AllByRecursion P (row_part row from n)
  each-row_part P n each =
      all_front P (take n (drop from row)) (drop n (drop from row))
      (subst (AllByRecursion P) (sym (take-append-drop n (drop from row)))
      (all_back P (take from row) (drop from row) (subst (AllByRecursion P) (sym (take-append-drop from row)) each)))

  -- the growths before it, and it
  pub take-row_part : (to : ℕ) → from ≤ to → take from row ++ row_part row from (to - from) ≡ take to row
  take-row_part to order = let all : from + (to - from) ≡ to = omega arith in sym (take-add from (to - from) row) ∙ ap (λ n. take n row) all

  -- ---- one growth more

  module _ (k : ℕ) (growth : List R) (order : from ≤ k) (is : slice_get row k ≡ Some growth) where
    here : slice_get (drop from row) (k - from) ≡ Some growth
    here = let at : from + (k - from) ≡ k = omega arith in slice_get-drop from row (k - from) ∙ ap (slice_get row) at ∙ is

    next : k + 1 - from ≡ k - from + 1
    next = omega arith

    pub payload-row_part : (width : ℕ) → payload_len width (row_part row from (k + 1 - from)) ≡ payload_len width (row_part row from (k - from)) + (4 + length growth * width)
    payload-row_part width = ap (λ n. payload_len width (row_part row from n)) next ∙ payload_len_more width (drop from row) (k - from) growth here

    pub records-row_part : length (joined (row_part row from (k + 1 - from))) ≡ length (joined (row_part row from (k - from))) + length growth
    records-row_part = ap (λ n. length (joined (row_part row from n))) next ∙ records_more (drop from row) (k - from) growth here
