-- Worked values of definitions that stand in conclusions alone.
use Rattle.std.proofs.Common.{◌≡◌, ℕ, ◌*◌, [], ◌∷◌, refl, arith}
use Rattle.block_core.specs.declared.fault.FreshFault.{FreshFault}
use Rattle.block_core.specs.declared.fault.FreshFault.TheVariants.{Empty, TooLarge, Memory}
use Rattle.block_core.specs.Growth.{labelled}
use Rattle.block_core.specs.Left.{left_in}
use Rattle.block_core.specs.Length.{IsBlockLength, IsLengthFault, IsBlockRefusal}
use Rattle.block_core.specs.Touched.{TouchedFrom}

-- what is left in three records of which two were lent, and in two of which no more are taken back
left_in_three : left_in {R = ℕ} (1 ∷ 2 ∷ 3 ∷ []) (7 ∷ 8 ∷ []) ≡ 7 ∷ 8 ∷ 3 ∷ []
left_in_three = refl

left_in_two : left_in {R = ℕ} (1 ∷ 2 ∷ []) (7 ∷ 8 ∷ 9 ∷ []) ≡ 7 ∷ 8 ∷ []
left_in_two = refl

under_a_label : labelled {R = ℕ} (record { number = 4; start = 9; seat = 2; serial = 1 }) (7 ∷ []) ≡ record { number = 4; start = 9; seat = 2; serial = 1; records = 7 ∷ [] }
under_a_label = refl

-- of records of 8 bytes 131,071 are a block, with 8 bytes before them; which fault may come of how many
greatest : IsBlockLength 8 131071
greatest = record { some = omega arith; fits = omega arith }

too_many : IsBlockLength 8 131072 → ⊥
too_many block = let fits = block.fits in omega arith

none_is_no_block : IsBlockLength 8 0 → ⊥
none_is_no_block block = let some = block.some in omega arith

refused_none : (fault : FreshFault) → IsBlockRefusal 8 0 fault → fault ≡ Empty
refused_none Empty is = refl
refused_none TooLarge is = absurd (omega arith)
refused_none Memory is = absurd (none_is_no_block is)

refused_many : (fault : FreshFault) → IsBlockRefusal 8 131072 fault → fault ≡ TooLarge
refused_many Empty is = absurd (omega arith)
refused_many TooLarge is = refl
refused_many Memory is = absurd (too_many is)

refused_greatest : (fault : FreshFault) → IsBlockRefusal 8 131071 fault → fault ≡ Memory
refused_greatest Empty is = absurd (omega arith)
refused_greatest TooLarge is = absurd (omega arith)
refused_greatest Memory is = refl

no_length_fault : (fault : FreshFault) → IsLengthFault 8 131071 fault → ⊥
no_length_fault Empty is = omega arith
no_length_fault TooLarge is = omega arith
no_length_fault Memory is = is

-- touched from the place 5 on by squares: the second record is 36
touched_second : TouchedFrom (λ at (r : ℕ). at * at) 5 (1 ∷ 1 ∷ []) (25 ∷ 35 ∷ []) → ⊥
touched_second touched = let second = touched.each 1 0 (omega arith) in omega arith

touched_length : TouchedFrom (λ at (r : ℕ). r) 0 (1 ∷ []) (1 ∷ 1 ∷ []) → ⊥
touched_length touched = let long = touched.same_length in omega arith
