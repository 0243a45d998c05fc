-- Worked examples: what a read leaves, what a change writes, and where a record is found.
use Rattle.std.proofs.Common.{◌≡◌, ◌⊎◌, ℕ, zero, suc, ◌+◌, ◌<◌, ◌≤◌, List, [], ◌∷◌, refl, inl, inr, ap, arith, slice_get, Option, None, Some, length, min, ◌∙◌}
use Rattle.std.proofs.Math.Nat.{min-le_right}
use Rattle.std.specs.Int.{w16}
use Rattle.record_core.specs.Bytes.{Encoding, unsigned}
use Rattle.book_core.specs.Lists.{IsRestOfPiece}
use Rattle.phase_core.specs.Grower.{Copies, IsFoundFrom, IsOfOnePiece}
use Rattle.phase_core.specs.HostVault.{AreWritten}

-- the bytes of two records from position 1 on stand in front, and behind them what stood there
abbrev numbers : Encoding ℕ
numbers = unsigned w16

two : Copies numbers (5 ∷ 7 ∷ 11 ∷ []) 1 (1 ∷ 2 ∷ 3 ∷ 4 ∷ 9 ∷ []) (7 ∷ 0 ∷ 11 ∷ 0 ∷ 9 ∷ []) 2
two = record { inside = (omega arith, omega arith); is = refl }

first_of : List ℕ → ℕ
first_of [] = 0
first_of (x ∷ xs) = x

-- the first two are others
first_two : Copies numbers (5 ∷ 7 ∷ 11 ∷ []) 1 (1 ∷ 2 ∷ 3 ∷ 4 ∷ []) (5 ∷ 0 ∷ 7 ∷ 0 ∷ []) 2 → ⊥
unfolding first_of
first_two copies = let same : 5 ≡ 7 = ap first_of copies.is in cc

-- three don't stand there, and of two no more than two bytes each are written
three : Copies numbers (5 ∷ 7 ∷ 11 ∷ []) 1 (1 ∷ 2 ∷ 3 ∷ 4 ∷ 5 ∷ 6 ∷ []) (7 ∷ 0 ∷ 11 ∷ 0 ∷ 5 ∷ 6 ∷ []) 3 → ⊥
three copies = let within = copies.inside.1 in absurd (omega arith)

no_more_than_fit : Copies numbers (5 ∷ 7 ∷ 11 ∷ []) 1 (1 ∷ 2 ∷ 3 ∷ []) (7 ∷ 0 ∷ 11 ∷ []) 2 → ⊥
no_more_than_fit copies = let within = copies.inside.0 in absurd (omega arith)

-- ---- of how many records a read from position 1 on is, of the pieces 5 7 11 and 13

abbrev pieces : List (List ℕ)
pieces = (5 ∷ 7 ∷ 11 ∷ []) ∷ (13 ∷ []) ∷ []

-- the two that are left of the first piece, where there is room for three
rest : IsRestOfPiece pieces 1 (7 ∷ 11 ∷ [])
rest = record { number = 0; place = 1; piece = 5 ∷ 7 ∷ 11 ∷ []; at = refl; inside = omega arith; before = refl; is = refl }

both : IsOfOnePiece pieces 1 3 2
both = record { rest = 7 ∷ 11 ∷ []; stands = rest; as_many = refl }

-- not one alone, and no more than there is room for
no_fewer : (is : IsOfOnePiece pieces 1 3 1) → length is.rest ≡ 2 → ⊥
no_fewer is two = let n : 1 ≡ 2 = is.as_many ∙ ap (λ n. min n 3) two in absurd (omega (arith, n))

no_more : IsOfOnePiece pieces 1 1 2 → ⊥
no_more is = let n = is.as_many in let less = min-le_right (length is.rest) 1 in absurd (omega (arith, n, less))

value_of : Option ℕ → ℕ
value_of None = 0
value_of (Some x) = x

-- one record is another than a greater one
differ : (m n : ℕ) → m < n → Some m ≡ Some n → ⊥
unfolding value_of
differ m n less is = let same : m ≡ n = ap value_of is in absurd (omega (arith, less, same))

-- ---- one record over the middle of three

middle : (k : ℕ) → k < 1 → 1 + k < 3 → slice_get {X = ℕ} (5 ∷ 9 ∷ 11 ∷ []) (1 + k) ≡ slice_get (9 ∷ []) k
middle zero less inside = refl
middle (suc k) less inside = absurd (omega (arith, less))

ends : (i : ℕ) → (i < 1) ⊎ (2 ≤ i) → slice_get {X = ℕ} (5 ∷ 9 ∷ 11 ∷ []) i ≡ slice_get (5 ∷ 7 ∷ 11 ∷ []) i
ends zero where_ = refl
ends (suc zero) (inl less) = absurd (omega (arith, less))
ends (suc zero) (inr more) = absurd (omega (arith, more))
ends (suc (suc i)) where_ = refl

written : AreWritten {R = ℕ} 1 (9 ∷ []) (5 ∷ 7 ∷ 11 ∷ []) (5 ∷ 9 ∷ 11 ∷ [])
written = record { same_length = refl; inside = middle; outside = ends }

-- it isn't so where nothing is written, nor where another one changes
nothing_written : AreWritten {R = ℕ} 1 (9 ∷ []) (5 ∷ 7 ∷ 11 ∷ []) (5 ∷ 7 ∷ 11 ∷ []) → ⊥
nothing_written are = differ 7 9 (omega arith) (are.inside 0 (omega arith) (omega arith))

another_written : AreWritten {R = ℕ} 1 (9 ∷ []) (5 ∷ 7 ∷ 11 ∷ []) (4 ∷ 9 ∷ 11 ∷ []) → ⊥
another_written are = differ 4 5 (omega arith) (are.outside 0 (inl (omega arith)))

-- ---- the last of 5, 3, 5 is the first 5 from position 1 on

before : (i : ℕ) → 1 ≤ i → i < 2 → slice_get {X = ℕ} (5 ∷ 3 ∷ 5 ∷ []) i ≡ Some 5 → ⊥
before zero from less is = absurd (omega (arith, from))
before (suc zero) from less is = differ 3 5 (omega arith) is
before (suc (suc i)) from less is = absurd (omega (arith, less))

found : IsFoundFrom {R = ℕ} (5 ∷ 3 ∷ 5 ∷ []) 5 1 2
found = record { within = omega arith; here = λ inside. (omega arith, refl); first = before }

-- not the one before that position, and it isn't nowhere
found_before : IsFoundFrom {R = ℕ} (5 ∷ 3 ∷ 5 ∷ []) 5 1 0 → ⊥
found_before is = let from = (is.here (omega arith)).0 in absurd (omega (arith, from))

found_nowhere : IsFoundFrom {R = ℕ} (5 ∷ 3 ∷ 5 ∷ []) 5 1 3 → ⊥
found_nowhere is = is.first 2 (omega arith) (omega arith) refl
