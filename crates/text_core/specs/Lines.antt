-- The lines of an input: each ends with LF, which the last may lack if it isn't empty.
use Rattle.std.specs.Prelude.{◌≡◌, ◌≢◌, ℕ, ◌+◌, ◌<◌, List, [], ◌∷◌, ◌++◌, length, All, ◌⊎◌}
use Rattle.std.specs.List.{flat_map, AllByRecursion}
use Rattle.text_core.specs.Text.{ended_line}

-- the lines, each followed by LF
abbrev pub ended : List (List ℕ) → List ℕ
ended lines = flat_map ended_line lines

abbrev pub HasNoLf : List ℕ → Type 0
HasNoLf line = All (λ b. b ≢ 10) line

-- the same without the last LF
pub record LacksLastLf (input : List ℕ) (lines : List (List ℕ)) : Type 0 where
  pub front : List (List ℕ)
  pub last : List ℕ
  pub parts : lines ≡ front ++ last ∷ []
  pub some : 0 < length last
  pub text : input ≡ ended front ++ last

pub record AreLines (input : List ℕ) (lines : List (List ℕ)) : Type 0 where
  pub whole : AllByRecursion HasNoLf lines
  pub text : (input ≡ ended lines) ⊎ LacksLastLf input lines

-- the first line, without its LF, of a text in which something stands, and what stands behind it
pub record IsFirstLine (text line rest : List ℕ) : Type 0 where
  pub whole : (text ≡ line ++ 10 ∷ rest) ⊎ ((text ≡ line) × (rest ≡ []))
  pub plain : HasNoLf line
  pub shorter : length rest < length text

-- line n, counted from 1, is the first that isn't of the form
pub record IsFirstBadLine (IsGood : List ℕ → Type 0) (input : List ℕ) (n : ℕ) : Type 0 where
  pub front : List (List ℕ)
  pub line : List ℕ
  pub more : List (List ℕ)
  pub lines : AreLines input (front ++ line ∷ more)
  pub place : n ≡ length front + 1
  pub before : AllByRecursion IsGood front
  pub bad : ¬ (IsGood line)
