-- What a file may be made over, worked by hand: a file of version 1 whose records have 8 bytes.
use Rattle.std.proofs.Common.{◌≡◌, ◌<◌, ◌≤◌, ◌⊎◌, ◌++◌, ◌∷◌, [], ℕ, List, zero, suc, inl, inr, refl, lit≤, lit<, arith}
use Rattle.std.specs.Prelude.{codes, slice_index, Some, None}
use Rattle.segment_core.specs.declared.format.Shape.{Shape}
use Rattle.segment_core.specs.declared.format.Format.TheVariants.{One, Two}
use Rattle.segment_core.specs.Frame.{header, closed_gate}
use Rattle.files_core.specs.Vacant.{IsVacant, IsVacantFor}

abbrev shape : Shape
shape = record { format = One; width = 8 }

-- nothing, and a front that is closed with a byte that isn't there yet
nothing : IsVacant shape []
nothing = record { short = lit≤ tt; each = λ i lt. absurd (omega (arith, lt)) }

a_front : IsVacant shape (0 ∷ 67 ∷ 0 ∷ [])
a_front = record { short = lit≤ tt; each = at } where
  at : (i : ℕ) → i < 3 → (slice_index (0 ∷ 67 ∷ 0 ∷ []) i ≡ 0) ⊎ (slice_index (0 ∷ 67 ∷ 0 ∷ []) i ≡ slice_index (header shape ++ closed_gate ∷ []) i)
  at zero lt = inl refl
  at (suc zero) lt = inr refl
  at (suc (suc zero)) lt = inl refl
  at (suc (suc (suc n))) lt = absurd (omega (arith, lt))

-- twelve bytes of somebody, one byte of his, and the last byte where the gate of an empty file stands
a_text : IsVacant shape (codes "secret=abc1\n") → ⊥
a_text vacant = elim (vacant.each 0 (lit< tt)) [ inl none ↦ (let e : 115 ≡ 0 = none in omega (arith, e)) | inr made ↦ (let e : 115 ≡ 1 = made in omega (arith, e)) ]

one_byte : IsVacant shape (115 ∷ []) → ⊥
one_byte vacant = elim (vacant.each 0 (lit< tt)) [ inl none ↦ (let e : 115 ≡ 0 = none in omega (arith, e)) | inr made ↦ (let e : 115 ≡ 1 = made in omega (arith, e)) ]

an_open_gate : IsVacant shape (0 ∷ 0 ∷ 0 ∷ 0 ∷ 0 ∷ 0 ∷ 0 ∷ 0 ∷ 0 ∷ 0 ∷ 0 ∷ 1 ∷ []) → ⊥
an_open_gate vacant = elim (vacant.each 11 (lit< tt)) [ inl none ↦ (let e : 1 ≡ 0 = none in omega (arith, e)) | inr made ↦ (let e : 1 ≡ 0 = made in omega (arith, e)) ]

-- thirteen closed bytes are more than an empty file has
too_long : IsVacant shape (0 ∷ 0 ∷ 0 ∷ 0 ∷ 0 ∷ 0 ∷ 0 ∷ 0 ∷ 0 ∷ 0 ∷ 0 ∷ 0 ∷ 0 ∷ []) → ⊥
too_long vacant = let short : 13 ≤ 12 = vacant.short in omega (arith, short)

-- ---- a file of this version, or of either

-- the front of a file of version 2 that is closed
abbrev two_front : List ℕ
two_front = 0 ∷ 67 ∷ 86 ∷ 69 ∷ 67 ∷ 83 ∷ 69 ∷ 71 ∷ 2 ∷ []

not_for_one : IsVacantFor (Some One) 8 two_front → ⊥
not_for_one vacant = elim (vacant.each 8 (lit< tt)) [ inl none ↦ (let e : 2 ≡ 0 = none in omega (arith, e)) | inr made ↦ (let e : 2 ≡ 1 = made in omega (arith, e)) ]

for_either : IsVacantFor (Some Two) 8 two_front → IsVacantFor None 8 two_front
for_either vacant = inr vacant

a_text_for_none : IsVacantFor None 8 (codes "secret=abc1\n") → ⊥
a_text_for_none (inl vacant) = elim (vacant.each 0 (lit< tt)) [ inl none ↦ (let e : 115 ≡ 0 = none in omega (arith, e)) | inr made ↦ (let e : 115 ≡ 1 = made in omega (arith, e)) ]
a_text_for_none (inr vacant) = elim (vacant.each 0 (lit< tt)) [ inl none ↦ (let e : 115 ≡ 0 = none in omega (arith, e)) | inr made ↦ (let e : 115 ≡ 1 = made in omega (arith, e)) ]
