-- Each growth of lines has a record.
use Rattle.std.proofs.Common.{◌≡◌, ℕ, ◌<◌, List, [], ◌∷◌, ◌++◌, length, map, Option, sym, subst, arith}
use Rattle.std.specs.List.{AllByRecursion}
use Rattle.std.proofs.lemmas.List.{length-append}
use Rattle.segment_core.specs.Written.{joined}
use Rattle.text_core.specs.Text.{Spelling}
use Rattle.text_core.specs.GroupLine.{IsGroup}
use Rattle.lines_core.specs.declared.batches.Rest.{Rest}
use Rattle.lines_core.specs.declared.batches.Rest.TheVariants.{More, Nothing, Refused, Unread}
use Rattle.lines_core.specs.Batches.{IsBatch}
use Rattle.lines_core.specs.GrowthLines.{lone_group}
use Rattle.lines_core.specs.InputBlocks.{AreFirstBlocks, AreOfAllLines}
use Rattle.lines_core.specs.LineBlocks.{last_growth}
use Rattle.lines_core.proofs.FirstBlocks.{all_append, all_back, all_front}

module _ {R : Type 0} where
  abbrev HasRecords : List R → Type 0
  HasRecords growth = 0 < length growth

  joined_some : (line : List R) (lines : List (List R)) → HasRecords line → HasRecords (joined (line ∷ lines))
  joined_some line lines some = omega (arith, length-append line (joined lines), some)

  lines_some : (is_value : R → Type 0) (lines : List (List R)) → AllByRecursion (IsGroup is_value) (map lone_group lines) → AllByRecursion HasRecords lines
  lines_some is_value [] each = tt
  lines_some is_value (line ∷ lines) each = (each.0.filled.0, lines_some is_value lines each.1)

  blocks_some : (block : ℕ) (blocks : List (List (List R))) → 0 < block → AllByRecursion (λ of. length of ≡ block) blocks → AllByRecursion HasRecords (joined blocks)
      → AllByRecursion HasRecords (map joined blocks)
  blocks_some block [] one long each = tt
  blocks_some block ([] ∷ blocks) one long each = absurd (let none : 0 ≡ block = long.0 in omega arith)
  blocks_some block ((line ∷ lines) ∷ blocks) one long each =
      let first : AllByRecursion HasRecords (line ∷ lines) = all_front HasRecords (line ∷ lines) (joined blocks) each in
      (joined_some line lines first.0, blocks_some block blocks one long.1 (all_back HasRecords (line ∷ lines) (joined blocks) each))

  last_some : (lines : List (List R)) → AllByRecursion HasRecords lines → AllByRecursion HasRecords (last_growth lines)
  last_some [] each = tt
  last_some (line ∷ lines) each = (joined_some line lines each.0, tt)

  module _ (spelling : Spelling R) (block : ℕ) (one : 0 < block) where
    first_some : (input left : Option (List ℕ)) (growths : List (List R)) → AreFirstBlocks spelling block input left growths → AllByRecursion HasRecords growths
    first_some input left growths so =
        subst (AllByRecursion HasRecords) (sym so.growths_are) (blocks_some block so.blocks one so.each (lines_some spelling.is_value (joined so.blocks) so.spelled.each))

    all_some : (input : Option (List ℕ)) (growths : List (List R)) (count : ℕ) → AreOfAllLines spelling block input growths count → AllByRecursion HasRecords growths
    all_some input growths count so =
        let by = so.of.gathered in
        let lines : AllByRecursion HasRecords (joined by.whole ++ by.left) = subst (AllByRecursion HasRecords) by.lines_are (lines_some spelling.is_value so.of.lines so.of.spelled.each) in
        subst (AllByRecursion HasRecords) (sym by.growths_are)
        (all_append HasRecords (map joined by.whole) (last_growth by.left)
        (blocks_some block by.whole one by.each (all_front HasRecords (joined by.whole) by.left lines))
        (last_some by.left (all_back HasRecords (joined by.whole) by.left lines)))

    -- each growth of a batch
    pub batch_some : (input left : Option (List ℕ)) (growths : List (List R)) (lines : ℕ) (rest : Rest) → IsBatch spelling block input left growths lines rest
        → AllByRecursion (λ growth. 0 < length growth) growths
    batch_some input left growths lines More so = first_some input left growths so
    batch_some input left growths lines Nothing so = all_some input growths lines so
    batch_some input left growths lines (Refused refusal) so = first_some input so.0 growths so.1
    batch_some input left growths lines (Unread refusal) so = first_some input so.0 growths so.1
