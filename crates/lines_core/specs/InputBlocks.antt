-- An input of lines that are gathered into growths.
use Rattle.std.specs.Prelude.{◌≡◌, ℕ, List, length, map, Option, IfSome}
use Rattle.std.specs.List.{AllByRecursion}
use Rattle.std.specs.Io.KnownBytes.{Consumes}
use Rattle.segment_core.specs.Written.{joined}
use Rattle.text_core.specs.Text.{Spelling}
use Rattle.text_core.specs.Lines.{ended}
use Rattle.text_core.specs.GroupLine.{group_line}
use Rattle.lines_core.specs.GrowthLines.{AreGrowthLines, lone_group}
use Rattle.lines_core.specs.LineBlocks.{AreLineBlocks}

-- the growths are those of the lines of the input, which are so many
pub record AreInputBlocks {R : Type 0} (spelling : Spelling R) (block : ℕ) (input : List ℕ) (growths : List (List R)) (count : ℕ) : Type 0 where
  pub lines : List (List R)
  pub spelled : AreGrowthLines spelling input lines
  pub gathered : AreLineBlocks block lines growths
  pub count_is : count ≡ length lines

-- they are those of all lines of an input: of its bytes, where these are known
pub record AreOfAllLines {R : Type 0} (spelling : Spelling R) (block : ℕ) (input : Option (List ℕ)) (growths : List (List R)) (count : ℕ) : Type 0 where
  pub bytes : List ℕ
  pub known : IfSome input (λ whole. whole ≡ bytes)
  pub of : AreInputBlocks spelling block bytes growths count

-- the texts of these lines, each with its LF
abbrev pub growth_lines_text : {R : Type 0} → Spelling R → List (List R) → List ℕ
growth_lines_text spelling lines = ended (map (group_line spelling.text_of) (map lone_group lines))

-- The growths are of the first lines of an input, each of a whole block of them: these lines, each with its LF, come first in
-- it, and the rest is left.
pub record AreFirstBlocks {R : Type 0} (spelling : Spelling R) (block : ℕ) (input left : Option (List ℕ)) (growths : List (List R)) : Type 0 where
  pub blocks : List (List (List R))
  pub each : AllByRecursion (λ of. length of ≡ block) blocks
  pub spelled : AreGrowthLines spelling (growth_lines_text spelling (joined blocks)) (joined blocks)
  pub taken : Consumes input left (growth_lines_text spelling (joined blocks))
  pub growths_are : growths ≡ map joined blocks

-- they are, whatever is left
abbrev pub AreOfFirstLines : {R : Type 0} → Spelling R → ℕ → Option (List ℕ) → List (List R) → Type 0
AreOfFirstLines spelling block input growths = (left : Option (List ℕ)) × AreFirstBlocks spelling block input left growths
