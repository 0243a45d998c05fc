-- Group lines: growths with a bar between each two, a growth's records with a space between each two.
use Rattle.std.specs.Prelude.{◌≡◌, ℕ, ◌<◌, List, length, map, codes}
use Rattle.std.specs.List.{AllByRecursion}
use Rattle.text_core.specs.Text.{Spelling, joined_by}
use Rattle.text_core.specs.Lines.{AreLines}

abbrev pub growth_text : {R : Type 0} → (R → List ℕ) → List R → List ℕ
growth_text text_of records = joined_by (codes " ") (map text_of records)

abbrev pub group_line : {R : Type 0} → (R → List ℕ) → List (List R) → List ℕ
group_line text_of growths = joined_by (codes " | ") (map (growth_text text_of) growths)

-- a group: a growth or more, and in each a record or more, all of them values of their type
pub record IsGroup {R : Type 0} (is_value : R → Type 0) (growths : List (List R)) : Type 0 where
  pub some : 0 < length growths
  pub filled : AllByRecursion (λ growth. 0 < length growth) growths
  pub values : AllByRecursion (AllByRecursion is_value) growths

-- the line is the text of these growths
pub record IsGroupLineOf {R : Type 0} (spelling : Spelling R) (line : List ℕ) (growths : List (List R)) : Type 0 where
  pub group : IsGroup spelling.is_value growths
  pub text : line ≡ group_line spelling.text_of growths

abbrev pub IsGroupLine : {R : Type 0} → Spelling R → List ℕ → Type 0
IsGroupLine {R} spelling line = (growths : List (List R)) × IsGroupLineOf spelling line growths

-- the lines of the input are the texts of these groups, one each
pub record AreGroupLines {R : Type 0} (spelling : Spelling R) (input : List ℕ) (groups : List (List (List R))) : Type 0 where
  pub each : AllByRecursion (IsGroup spelling.is_value) groups
  pub lines : AreLines input (map (group_line spelling.text_of) groups)
