-- Which of two refusals comes first, and how full a file may be.
use Rattle.std.proofs.Common.{◌≡◌, ℕ, ◌+◌, ◌-◌, ◌^◌, inl, inr, true, false, List, [], ◌∷◌, Some, None, refl, arith}
use Rattle.segment_core.specs.declared.format.Format.{Format}
use Rattle.segment_core.specs.declared.format.Format.TheVariants.{One, Two}
use Rattle.segment_core.specs.declared.tally.Tally.{Tally}
use Rattle.segment_core.specs.Frame.{Run, Shrink}
use Rattle.pen_core.specs.declared.step.PenStep.TheVariants.{Body}
use Rattle.pen_core.specs.declared.stage.FoldStage.TheVariants.{Sync}
use Rattle.pen_core.specs.declared.fault.PenFault.{PenFault}
use Rattle.pen_core.specs.declared.fault.PenFault.TheVariants.{Broken, Busy, OldFormat, Runs, OutOfRange, TooLarge, Unfolded, FileFull, Memory}
use Rattle.pen_core.specs.PenOf.{PenOf, JobOf, FoldOf}
use Rattle.pen_core.specs.Refusals.{first_refusal, IsRefusal, is_full, ready_lines, group_lines, change_lines, shrink_lines, one_run}
use Rattle.pen_core.specs.Pen.{IsReadyToFold, IsFoldBarred}

abbrev counted : ℕ → ℕ → Tally
counted size live = record { size = size; changes = live; folded = 0 }

-- a pen over a file of such records, of 8 bytes
abbrev pen : Format → ℕ → ℕ → ℕ → PenOf (Unit {0})
pen format size live gate =
    record {
      disk = tt;
      shape = record { format = format; width = 8 };
      frames = [];
      vector = [];
      job = None;
      fold = None;
      broken = false;
      tally = counted size live;
      gate = gate;
      room = 0;
      places = 0;
    }

abbrev job : JobOf
job = record { frame = Shrink 0; step = Body }

abbrev fold : FoldOf
fold = record { count = 1; left = []; stage = Sync }

abbrev busy : PenOf (Unit {0}) → PenOf (Unit {0})
busy p = record p { job = Some job }

abbrev folding : PenOf (Unit {0}) → PenOf (Unit {0})
folding p = record p { fold = Some fold }

-- the gate from which on there is no room for a shrink, whose payload has 8 bytes
abbrev last : ℕ
last = 2 ^ 48 - 14

-- ---- what each begin tests first

broken_before_busy : first_refusal (ready_lines (record (busy (pen One 0 0 11)) { broken = true })) ≡ Some Broken
broken_before_busy = refl

busy_alone : first_refusal (ready_lines (busy (pen One 0 0 11))) ≡ Some Busy
busy_alone = refl

ready : first_refusal (ready_lines (pen One 0 0 11)) ≡ None
ready = refl

-- a fold in hand keeps no log job out
ready_beside_a_fold : first_refusal (ready_lines (folding (pen One 0 1 11))) ≡ None
ready_beside_a_fold = refl

-- ---- groups

group_busy_before_range : first_refusal (group_lines (busy (pen One 1 0 11)) (2 ^ 32) 100) ≡ Some Busy
group_busy_before_range = refl

group_range_before_large : first_refusal (group_lines (pen One 1 0 11) (2 ^ 32) (2 ^ 20 + 1)) ≡ Some OutOfRange
group_range_before_large = refl

group_large_before_full : first_refusal (group_lines (pen One 0 0 last) 1 (2 ^ 20 + 1)) ≡ Some TooLarge
group_large_before_full = refl

group_full : first_refusal (group_lines (pen One 0 0 last) 1 (2 ^ 20)) ≡ Some FileFull
group_full = refl

-- just 2^32 records, and just the limit of a payload
group_fits : first_refusal (group_lines (pen One 1 0 11) (2 ^ 32 - 1) (2 ^ 20)) ≡ None
group_fits = refl

-- where none of the tests holds, memory alone is refused
group_memory : IsRefusal (group_lines (pen One 0 0 11) 1 16) Memory
group_memory = refl

group_no_other : (fault : PenFault) → IsRefusal (group_lines (pen One 0 0 last) 1 16) fault → fault ≡ FileFull
group_no_other fault is = is

-- ---- changes

abbrev first_run : Run
first_run = record { start = 0; count = 1 }

abbrev disordered : List Run
disordered = record { start = 9; count = 1 } ∷ first_run ∷ []

change_busy_before_format : first_refusal (change_lines (busy (pen One 1 0 11)) disordered) ≡ Some Busy
change_busy_before_format = refl

change_format_before_runs : first_refusal (change_lines (pen One 1 0 11) disordered) ≡ Some OldFormat
change_format_before_runs = refl

change_runs_before_range : first_refusal (change_lines (pen Two 1 0 11) disordered) ≡ Some Runs
change_runs_before_range = refl

change_of_none : first_refusal (change_lines (pen Two 1 0 11) (one_run 0 0)) ≡ Some Runs
change_of_none = refl

change_range_before_large : first_refusal (change_lines (pen One 1 0 last) (one_run 0 (2 ^ 20))) ≡ Some OutOfRange
change_range_before_large = refl

change_large_before_full : first_refusal (change_lines (pen One (2 ^ 20) 0 last) (one_run 0 (2 ^ 20))) ≡ Some TooLarge
change_large_before_full = refl

change_full : first_refusal (change_lines (pen One 1 0 last) (one_run 0 1)) ≡ Some FileFull
change_full = refl

change_fits : first_refusal (change_lines (pen One 1 0 11) (one_run 0 1)) ≡ None
change_fits = refl

-- ---- shrinks

shrink_busy_before_range : first_refusal (shrink_lines (busy (pen One 1 1 last)) 2) ≡ Some Busy
shrink_busy_before_range = refl

shrink_range_before_unfolded : first_refusal (shrink_lines (pen One 1 1 last) 2) ≡ Some OutOfRange
shrink_range_before_unfolded = refl

shrink_unfolded_before_full : first_refusal (shrink_lines (pen One 1 1 last) 1) ≡ Some Unfolded
shrink_unfolded_before_full = refl

shrink_full : first_refusal (shrink_lines (pen One 1 0 last) 1) ≡ Some FileFull
shrink_full = refl

shrink_fits : first_refusal (shrink_lines (pen One 1 0 (last - 1)) 1) ≡ None
shrink_fits = refl

-- ---- folds

fold_broken_before_busy : (fault : PenFault) → IsFoldBarred (record (folding (pen One 1 1 (2 ^ 48))) { broken = true }) fault → fault ≡ Broken
fold_broken_before_busy fault is = elim is [ inl broken ↦ broken.0 | inr (inl busy) ↦ absurd cc | inr (inr full) ↦ absurd cc ]

fold_busy_before_full : (fault : PenFault) → IsFoldBarred (folding (pen One 1 1 (2 ^ 48))) fault → fault ≡ Busy
fold_busy_before_full fault is = elim is [ inl broken ↦ absurd cc | inr (inl busy) ↦ busy.0 | inr (inr full) ↦ absurd cc ]

fold_full : IsFoldBarred (pen One 1 1 (2 ^ 48 - 14)) FileFull
fold_full = inr (inr (refl, refl, refl, omega arith, omega arith))

fold_fits : IsReadyToFold (pen One 1 1 (2 ^ 48 - 15)) true
fold_fits = (refl, refl, omega arith, omega arith)

-- behind a shrink that is in hand, whose frame has 14 bytes
fold_full_behind_a_job : IsFoldBarred (busy (pen One 1 1 (2 ^ 48 - 28))) FileFull
fold_full_behind_a_job = inr (inr (refl, refl, refl, omega arith, omega arith))

fold_fits_behind_a_job : IsReadyToFold (busy (pen One 1 1 (2 ^ 48 - 29))) true
fold_fits_behind_a_job = (refl, refl, omega arith, omega arith)

-- where nothing is live there is none, however full the file is
nothing_to_fold : IsReadyToFold (pen One 1 0 (2 ^ 48 - 1)) false
nothing_to_fold = (refl, refl, omega arith)

-- ---- the last gate

not_full : is_full (pen One 1 0 (2 ^ 48 - 15)) 8 ≡ false
not_full = refl

full : is_full (pen One 1 0 (2 ^ 48 - 14)) 8 ≡ true
full = refl

-- a fold in hand needs 14 bytes more
not_full_beside_a_fold : is_full (folding (pen One 1 1 (2 ^ 48 - 29))) 8 ≡ false
not_full_beside_a_fold = refl

full_beside_a_fold : is_full (folding (pen One 1 1 (2 ^ 48 - 28))) 8 ≡ true
full_beside_a_fold = refl
