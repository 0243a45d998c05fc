-- How many growths one group takes, on worked values: records of 8 bytes, and payloads of 1,048,576 bytes at most.
use Rattle.std.proofs.Common.{◌≡◌, ℕ, ◌+◌, ◌*◌, ◌<◌, List, [], ◌∷◌, ◌++◌, length, take, ap, arith}
use Rattle.std.proofs.lemmas.List.{append-nil, length-append, take-take}
use Rattle.record_core.specs.Limits.{payload_limit}
use Rattle.segment_core.specs.Written.{payload_len}
use Rattle.segment_core.proofs.Written.{payload_len_within}
use Rattle.flush_core.specs.Group.{IsGreatest}

module _ {R : Type 0} (first second : List R) (one : length second ≡ 1) where
  both : payload_len 8 (first ∷ second ∷ []) ≡ 12 + (length first + 1) * 8
  both = let all = length-append first (second ++ []) in let last = ap length (append-nil second) in omega arith

  first_alone : payload_len 8 (first ∷ []) ≡ 8 + length first * 8
  first_alone = let all = ap length (append-nil first) in omega arith

  -- 131,069 records and one: 1,048,572 bytes
  both_fit : length first ≡ 131069 → IsGreatest 8 payload_limit (first ∷ second ∷ []) 2
  both_fit many = record { there = omega arith; fits = omega (arith, both); most = λ lt. absurd (omega arith) }

  -- with one record more both would be 1,048,580 bytes
  first_fits : length first ≡ 131070 → IsGreatest 8 payload_limit (first ∷ second ∷ []) 1
  first_fits many = record { there = omega arith; fits = omega (arith, first_alone); most = λ _. omega (arith, both) }

-- of two numbers one at most is the greatest
not_more : {R : Type 0} (width limit : ℕ) (growths : List (List R)) (n m : ℕ) → IsGreatest width limit growths n → IsGreatest width limit growths m → n < m → ⊥
not_more width limit growths n m a b lt =
    let there = b.there in
    let fits = b.fits in
    let past = a.most (omega arith) in
    let within = payload_len_within width (take m growths) (n + 1) in
    let first = ap (payload_len width) (take-take (n + 1) m growths (omega arith)) in
    absurd (omega arith)

one_greatest : {R : Type 0} (width limit : ℕ) (growths : List (List R)) (n m : ℕ) → IsGreatest width limit growths n → IsGreatest width limit growths m → n ≡ m
one_greatest width limit growths n m a b =
    let no_more = not_more width limit growths n m a b in
    let no_fewer = not_more width limit growths m n b a in
    omega arith
