-- Why a pen refuses: each test on what it is seen as, in the order in which they are made.
use Rattle.std.specs.Prelude.{◌≡◌, ℕ, ◌+◌, ◌≤◌, ◌^◌, Bool, false, List, [], ◌∷◌, ◌++◌, length, Option, Some, None, MatchOption, nat_le, nat_lt, not, ◌&&◌, if◌then◌else◌}
use Rattle.std.specs.List.{list_all}
use Rattle.std.specs.Option.{is_some}
use Rattle.segment_core.specs.declared.format.Format.{Format}
use Rattle.segment_core.specs.declared.format.Format.TheVariants.{One, Two}
use Rattle.segment_core.specs.Shape.{limit_of}
use Rattle.segment_core.specs.Frame.{Run}
use Rattle.segment_core.specs.Runs.{change_len}
use Rattle.segment_core.specs.Tally.{are_ascending, are_inside}
use Rattle.pen_core.specs.declared.fault.PenFault.{PenFault}
use Rattle.pen_core.specs.declared.fault.PenFault.TheVariants.{Broken, Busy, OldFormat, Runs, OutOfRange, TooLarge, Unfolded, FileFull, Memory}
use Rattle.pen_core.specs.PenOf.{PenOf, FoldOf}

-- the refusal of the first test that holds
abbrev pub first_refusal : List (Bool × PenFault) → Option PenFault
first_refusal [] = None
first_refusal (line ∷ lines) = if line.0 then Some line.1 else first_refusal lines

-- what may be answered in place of success: that refusal, or, where none of the tests holds, that memory was refused
abbrev pub IsRefusal : List (Bool × PenFault) → PenFault → Type 0
IsRefusal lines fault = MatchOption (first_refusal lines) (fault ≡ Memory) (λ first. fault ≡ first)

-- the bytes of a fold's frame that is still to come
abbrev pub fold_len : Option FoldOf → ℕ
fold_len None = 0
fold_len (Some fold) = 14

module _ {D : Type 0} (pen : PenOf D) where
  -- no log job may be begun
  abbrev pub ready_lines : List (Bool × PenFault)
  ready_lines = (pen.broken, Broken) ∷ (is_some pen.job, Busy) ∷ []

  -- a frame of this payload, and after it a fold's, bring the gate to 2^48
  abbrev pub is_full : ℕ → Bool
  is_full payload = nat_le (2 ^ 48) (pen.gate + (6 + payload) + fold_len pen.fold)

  -- a payload past the limit, and a file that it fills
  abbrev pub room_lines : ℕ → List (Bool × PenFault)
  room_lines payload = (nat_lt (limit_of pen.shape.format) payload, TooLarge) ∷ (is_full payload, FileFull) ∷ []

  -- so many records in growths, in a payload of this length
  abbrev pub group_lines : ℕ → ℕ → List (Bool × PenFault)
  group_lines records payload = ready_lines ++ (nat_lt (2 ^ 32) (pen.tally.size + records), OutOfRange) ∷ room_lines payload

  -- several runs in a file of version 1
  abbrev pub is_old : Format → List Run → Bool
  is_old One runs = nat_lt 1 (length runs)
  is_old Two runs = false

  -- a run with no record, or that doesn't begin at or behind the end of the one before
  abbrev pub are_disordered : List Run → Bool
  are_disordered runs = not (list_all (λ run. nat_lt 0 run.count) runs && are_ascending 0 runs)

  abbrev pub change_lines : List Run → List (Bool × PenFault)
  change_lines runs =
      ready_lines ++ (is_old pen.shape.format runs, OldFormat) ∷ (are_disordered runs, Runs)
      ∷ (not (are_inside pen.tally.size runs), OutOfRange) ∷ room_lines (change_len pen.shape runs)

  -- to a length past the vector's, or while a change is live
  abbrev pub shrink_lines : ℕ → List (Bool × PenFault)
  shrink_lines n =
      ready_lines ++ (nat_lt pen.tally.size n, OutOfRange) ∷ (
        nat_lt pen.tally.folded pen.tally.changes,
        Unfolded,
      ) ∷ (is_full 8, FileFull) ∷ []

-- the room that a payload needs: with the frame's head, and the next gate behind it
abbrev pub room_for : ℕ → ℕ
room_for payload = 6 + payload + 1

-- one run
abbrev pub one_run : ℕ → ℕ → List Run
one_run start count = record { start = start; count = count } ∷ []

-- A change of these runs has been readied: none of the tests holds, and there is room for its frame and for its runs
-- among the live ones.
pub record IsReadied {D : Type 0} (pen : PenOf D) (runs : List Run) : Type 0 where
  pub allowed : first_refusal (change_lines pen runs) ≡ None
  pub room : room_for (change_len pen.shape runs) ≤ pen.room
  pub places : length runs ≤ pen.places
