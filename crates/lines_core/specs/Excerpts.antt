-- What is kept of a line that is refused.
use Rattle.std.specs.Prelude.{◌≡◌, ℕ, ◌+◌, ◌≤◌, List, ◌++◌, length, take, drop, min, Option, None, IfSome, Result, Err}
use Rattle.text_core.specs.Text.{Spelling}
use Rattle.text_core.specs.Lines.{IsFirstBadLine}
use Rattle.text_core.specs.declared.refusal.Refusal.{Refusal}
use Rattle.text_core.specs.declared.refusal.Refusal.TheVariants as refusals
use Rattle.lines_core.specs.declared.excerpt.Excerpt.{Excerpt}
use Rattle.lines_core.specs.declared.batches.Rest.{Rest}
use Rattle.lines_core.specs.declared.batches.Rest.TheVariants.{Refused}
use Rattle.lines_core.specs.GrowthLines.{IsGrowthLine}

abbrev pub excerpt_text : Excerpt → List ℕ
excerpt_text excerpt = take (min excerpt.len 48) excerpt.bytes

-- its bytes are those of the line from a place on, 48 at most, and the rest stands behind
pub record IsExcerptOf (line : List ℕ) (excerpt : Excerpt) : Type 0 where
  pub within : excerpt.before ≤ length line
  pub text_is : excerpt_text excerpt ≡ take 48 (drop excerpt.before line)
  pub behind_is : excerpt.before + (length (excerpt_text excerpt) + excerpt.behind) ≡ length line

-- line n of the text is the first that is no growth line, and this is of it
pub record IsBadLineShown {R : Type 0} (spelling : Spelling R) (text : List ℕ) (n : ℕ) (excerpt : Excerpt) : Type 0 where
  pub bad : IsFirstBadLine (IsGrowthLine spelling) text n
  pub of : IsExcerptOf bad.line excerpt

-- the text was refused for that line
abbrev pub IsRefusedShown : {R X : Type 0} → Spelling R → List ℕ → Result X Refusal → Excerpt → Type 0
IsRefusedShown spelling text result excerpt = (n : ℕ) × (result ≡ Err (refusals.Line n)) × IsBadLineShown spelling text n excerpt

-- The first bytes of what was to come were refused, for a line of theirs.
pub record IsFrontShown {R : Type 0} (spelling : Spelling R) (coming : Option (List ℕ)) (refusal : Refusal) (excerpt : Excerpt) : Type 0 where
  pub text : List ℕ
  pub first : IfSome coming (λ bytes. (behind : List ℕ) × (bytes ≡ text ++ behind))
  pub n : ℕ
  pub is : refusal ≡ refusals.Line n
  pub shown : IsBadLineShown spelling text n excerpt

-- a line is shown only where it is why a batch was refused
abbrev pub IsRestShown : {R : Type 0} → Spelling R → Option (List ℕ) → Rest → Option Excerpt → Type 0
IsRestShown spelling coming (Refused refusal) shown = IfSome shown (IsFrontShown spelling coming refusal)
IsRestShown spelling coming other shown = shown ≡ None
