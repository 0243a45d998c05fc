-- Growth lines: a growth's records with a space between each two.
use Rattle.std.specs.Prelude.{◌≡◌, ℕ, ◌+◌, ◌<◌, ◌≤◌, List, [], ◌∷◌, length, map, slice_get, Some}
use Rattle.record_core.specs.Limits.{payload_limit}
use Rattle.block_core.specs.Length.{payload_len}
use Rattle.segment_core.specs.Written.{joined}
use Rattle.text_core.specs.Text.{Spelling}
use Rattle.text_core.specs.Lines.{IsFirstBadLine}
use Rattle.text_core.specs.GroupLine.{IsGroupLineOf, AreGroupLines}
use Rattle.text_core.specs.declared.refusal.Refusal.{Refusal}
use Rattle.text_core.specs.declared.refusal.Refusal.TheVariants as refusals
use Rattle.text_core.specs.Refusals.{input_limit}

-- a group of one growth
abbrev pub lone_group : {R : Type 0} → List R → List (List R)
lone_group growth = growth ∷ []

-- The line is the text of this growth: a growth line is a group line of one growth.
abbrev pub IsGrowthLineOf : {R : Type 0} → Spelling R → List ℕ → List R → Type 0
IsGrowthLineOf spelling line growth = IsGroupLineOf spelling line (lone_group growth)

abbrev pub IsGrowthLine : {R : Type 0} → Spelling R → List ℕ → Type 0
IsGrowthLine {R} spelling line = (growth : List R) × IsGrowthLineOf spelling line growth

-- the lines of the input are the texts of these growths, one each
abbrev pub AreGrowthLines : {R : Type 0} → Spelling R → List ℕ → List (List R) → Type 0
AreGrowthLines spelling input growths = AreGroupLines spelling input (map lone_group growths)

-- the records of all lines of the input, in order
abbrev pub AreLineRecords : {R : Type 0} → Spelling R → List ℕ → List R → Type 0
AreLineRecords {R} spelling input records = (growths : List (List R)) × AreGrowthLines spelling input growths × (records ≡ joined growths)

-- each growth fits one frame
abbrev pub AllGrowthsFit : {R : Type 0} → ℕ → List (List R) → Type 0
AllGrowthsFit {R} width growths = (k : ℕ) (growth : List R) → slice_get growths k ≡ Some growth → payload_len width (length growth) ≤ payload_limit

-- growth k is the first that doesn't fit
pub record IsFirstTooLarge {R : Type 0} (width : ℕ) (growths : List (List R)) (k : ℕ) : Type 0 where
  pub growth : List R
  pub at : slice_get growths k ≡ Some growth
  pub large : payload_limit < payload_len width (length growth)
  pub before : (j : ℕ) (other : List R) → j < k → slice_get growths j ≡ Some other → payload_len width (length other) ≤ payload_limit

-- An input of growth lines was refused, whatever the sizes of its growths. That a read failed, or memory, is nothing that its
-- bytes tell.
abbrev pub IsSpellingRefusal : {R : Type 0} → Spelling R → List ℕ → Refusal → Type 0
IsSpellingRefusal spelling input (refusals.Line n) = IsFirstBadLine (IsGrowthLine spelling) input n
IsSpellingRefusal spelling input (refusals.TooLargeAtLine n) = ⊥
IsSpellingRefusal spelling input refusals.InputTooLong = input_limit < length input
IsSpellingRefusal spelling input refusals.Input = Unit {0}
IsSpellingRefusal spelling input refusals.Memory = Unit {0}
IsSpellingRefusal spelling input refusals.NotHex = ⊥

-- it was, or for the first growth that doesn't fit
abbrev pub IsLinesRefusal : {R : Type 0} → ℕ → Spelling R → List ℕ → Refusal → Type 0
IsLinesRefusal {R} width spelling input (refusals.TooLargeAtLine n) =
    (growths : List (List R)) × (k : ℕ) × AreGrowthLines spelling input growths × IsFirstTooLarge width growths k × (n ≡ k + 1)
IsLinesRefusal width spelling input refusal = IsSpellingRefusal spelling input refusal
