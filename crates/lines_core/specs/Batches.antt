-- Lines that are read a batch after the other.
use Rattle.std.specs.Prelude.{◌≡◌, ◌⊎◌, ℕ, ◌==◌, ◌*◌, ◌^◌, ◌-◌, min, Bool, List, [], ◌++◌, length, take, Option, count_by}
use Rattle.std.specs.Io.KnownBytes.{Consumes, IsAtEnd}
use Rattle.text_core.specs.Refusals.{IsInputRefusal}
use Rattle.text_core.specs.Text.{Spelling, ended_line}
use Rattle.lines_core.specs.declared.batches.Rest.{Rest}
use Rattle.lines_core.specs.declared.batches.Rest.TheVariants.{More, Nothing, Refused, Unread}
use Rattle.lines_core.specs.InputBlocks.{AreFirstBlocks, AreOfAllLines, AreOfFirstLines}

-- A buffer holds the first bytes of a reader behind what it held, and this is left of them.
pub record ReadsOn (known left : Option (List ℕ)) (held holds : List ℕ) : Type 0 where
  pub fresh : List ℕ
  pub consumed : Consumes known left fresh
  pub behind : holds ≡ held ++ fresh

abbrev pub is_lf : ℕ → Bool
is_lf b = b == 10

-- the text is empty, or ends with LF
abbrev pub EndsWithLf : List ℕ → Type 0
EndsWithLf text = (text ≡ []) ⊎ ((front : List ℕ) × (text ≡ ended_line front))

-- the text has whole lines alone, a multiple of the block
pub record HasWholeBlocks (block : ℕ) (text : List ℕ) : Type 0 where
  pub count : ℕ
  pub lines_are : count_by is_lf text ≡ count * block
  pub ends : EndsWithLf text

-- What was read into a buffer, with what is to come: where that is more, or nothing, no byte is lost; else it wasn't read for this
-- reason.
abbrev pub IsFilled : Option (List ℕ) → Option (List ℕ) → List ℕ → List ℕ → Rest → Type 0
IsFilled old new held holds More = ReadsOn old new held holds
IsFilled old new held holds Nothing = ReadsOn old new held holds × IsAtEnd new
IsFilled old new held holds (Refused refusal) = ⊥
IsFilled old new held holds (Unread refusal) = (left : Option (List ℕ)) × ReadsOn old left held holds × IsInputRefusal holds refusal

-- so much of a buffer is taken: all of it where nothing is to come, else whole blocks
abbrev pub IsWholeLen : ℕ → List ℕ → ℕ → Rest → Type 0
IsWholeLen block buffer len More = HasWholeBlocks block (take len buffer)
IsWholeLen block buffer len Nothing = len ≡ length buffer
IsWholeLen block buffer len (Refused refusal) = HasWholeBlocks block (take len buffer)
IsWholeLen block buffer len (Unread refusal) = HasWholeBlocks block (take len buffer)

-- The growths that were read of an input, with what is to come behind them: those of its first lines, and the rest is left; those
-- of all its lines, which are so many; or, where a line is refused or wasn't read, those of some first lines.
abbrev pub IsBatch : {R : Type 0} → Spelling R → ℕ → Option (List ℕ) → Option (List ℕ) → List (List R) → ℕ → Rest → Type 0
IsBatch spelling block input left growths lines More = AreFirstBlocks spelling block input left growths
IsBatch spelling block input left growths lines Nothing = AreOfAllLines spelling block input growths lines
IsBatch spelling block input left growths lines (Refused refusal) = AreOfFirstLines spelling block input growths
IsBatch spelling block input left growths lines (Unread refusal) = AreOfFirstLines spelling block input growths

-- so they were read, batch by batch, and as many lines are counted
pub record AreReadSo {R : Type 0} (spelling : Spelling R) (block : ℕ) (input left : Option (List ℕ)) (counted : ℕ) (rest : Rest) (growths : List (List R)) : Type 0 where
  pub count : ℕ
  pub read : IsBatch spelling block input left growths count rest
  pub counted_is : counted ≡ min (2 ^ 64 - 1) count
