-- What a file may be made over.
use Rattle.std.specs.Prelude.{◌≡◌, ◌⊎◌, ◌≤◌, ◌++◌, ◌∷◌, [], ℕ, List, length, slice_index, EachIndex, Option, Some, None}
use Rattle.segment_core.specs.declared.format.Format.{Format}
use Rattle.segment_core.specs.declared.format.Format.TheVariants.{One, Two}
use Rattle.segment_core.specs.declared.format.Shape.{Shape}
use Rattle.segment_core.specs.Frame.{header, closed_gate}

-- Each byte is 0, or the one that stands there in the other list.
abbrev pub IsZeroOrOf : List ℕ → List ℕ → Type 0
IsZeroOrOf made bytes = EachIndex bytes (λ i. (slice_index bytes i ≡ 0) ⊎ (slice_index bytes i ≡ slice_index made i))

-- Nothing stands there but what a creation of an empty file leaves that was stopped: no more bytes than that file has, each of
-- them 0 or the one that it gets.
pub record IsVacant (shape : Shape) (bytes : List ℕ) : Type 0 where
  pub short : length bytes ≤ 12
  pub each : IsZeroOrOf (header shape ++ closed_gate ∷ []) bytes

-- nothing but what a creation leaves of a file of this version, or where none is said of either
abbrev pub IsVacantFor : Option Format → ℕ → List ℕ → Type 0
IsVacantFor (Some format) width bytes = IsVacant (record { format = format; width = width }) bytes
IsVacantFor None width bytes = IsVacant (record { format = One; width = width }) bytes ⊎ IsVacant (record { format = Two; width = width }) bytes
