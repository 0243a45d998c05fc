-- The text of answers.
use Rattle.std.specs.Prelude.{ℕ, true, false, List, [], ◌∷◌, ◌++◌, codes, decimal}
use Rattle.std.specs.List.{flat_map}
use Rattle.book_core.specs.declared.seat.Receipt.{Receipt}
use Rattle.book_core.specs.declared.mark.MarkState.{MarkState}
use Rattle.book_core.specs.declared.mark.MarkState.TheVariants.{Running, Ended, Broken}
use Rattle.flush_core.specs.declared.lane.Tick.{Tick}
use Rattle.flush_core.specs.declared.lane.Tick.TheVariants as ticks
use Rattle.drive_core.specs.Names.{fault_name}
use Rattle.drive_core.specs.Step.{Answer, Fine, Size, Grown, Listed, Told, Took, Raised, Begun, Ticked, Refused}
use Rattle.text_core.specs.GroupLine.{growth_text}
use Rattle.text_core.specs.Text.{ended_line}

abbrev pub mark_text : MarkState → List ℕ
mark_text Running = codes " running"
mark_text Ended = codes " ended"
mark_text Broken = codes " broken"

abbrev pub tick_word : Tick → List ℕ
tick_word ticks.Idle = codes "idle"
tick_word ticks.Step = codes "step"
tick_word ticks.Done = codes "done"
tick_word ticks.Filed = codes "filed"
tick_word ticks.Waiting = codes "waiting"

abbrev pub growth_answer : Receipt → List ℕ
growth_answer receipt = (codes "growth " ++ decimal receipt.number) ++ (codes " start " ++ decimal receipt.start) ++ (codes " len " ++ decimal receipt.len)

abbrev pub settled_answer : ℕ → MarkState → List ℕ
settled_answer count state = (codes "settled " ++ decimal count) ++ mark_text state

-- what is written for a crash that left so many bytes
abbrev pub crashed_line : ℕ → List ℕ
crashed_line len = ended_line (codes "crashed " ++ decimal len)

module _ {R : Type 0} (text_of : R → List ℕ) where
  -- records with a space between each two
  abbrev pub listed_text : List R → List ℕ
  listed_text [] = codes "empty"
  listed_text (r ∷ records) = growth_text text_of (r ∷ records)

  abbrev pub answer_text : Answer R → List ℕ
  answer_text Fine = codes "ok"
  answer_text (Size n) = codes "size " ++ decimal n
  answer_text (Grown receipt) = growth_answer receipt
  answer_text (Listed records) = listed_text records
  answer_text (Told count state) = settled_answer count state
  answer_text (Took count) = codes "took " ++ decimal count
  answer_text (Raised count) = codes "raised " ++ decimal count
  answer_text (Begun true) = codes "begun"
  answer_text (Begun false) = codes "nothing"
  answer_text (Ticked tick) = tick_word tick
  answer_text (Refused fault) = codes "refused " ++ fault_name fault

  -- one answer a line
  abbrev pub answer_lines : List (Answer R) → List ℕ
  answer_lines answers = flat_map (λ answer. ended_line (answer_text answer)) answers
