-- Hex lines: an even number of hex digits of either case, then one LF or none.
use Rattle.std.specs.Prelude.{◌≡◌, ◌≢◌, ℕ, List, [], ◌∷◌, ◌++◌, Ok, ◌⊎◌}
use Rattle.hex.specs.Hex.{decode_of}

-- the input is one line, the hex of these bytes
pub record IsHexLine (input bytes : List ℕ) : Type 0 where
  pub digits : List ℕ
  pub spelled : decode_of digits ≡ Ok bytes
  pub line : (input ≡ digits) ⊎ (input ≡ digits ++ 10 ∷ [])

-- the text without the LF at its end, where it has one
abbrev pub IsWithoutLf : List ℕ → List ℕ → Type 0
IsWithoutLf text front = (text ≡ front ++ 10 ∷ []) ⊎ ((text ≡ front) × ((other : List ℕ) → text ≢ other ++ 10 ∷ []))
