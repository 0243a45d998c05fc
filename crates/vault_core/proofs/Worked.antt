-- Worked values of what contracts say of lengths, touches, work in hand and seats.
use Rattle.std.proofs.Common.{◌≡◌, ℕ, ◌+◌, ◌*◌, true, false, true≢false, List, [], ◌∷◌, length, Some, refl, sym, arith}
use Rattle.std.specs.Prelude.{slice_get}
use Rattle.segment_core.specs.Frame.{Run}
use Rattle.pen_core.specs.declared.stage.FoldStage.TheVariants as stages
use Rattle.pen_core.specs.PenOf.{PenOf}
use Rattle.pen_core.specs.Pen.{log_left, fold_stage}
use Rattle.book_core.specs.Lists.{Seated}
use Rattle.vault_core.specs.Commands.{resized}
use Rattle.vault_core.specs.Touched.{cover, taken_at, IsTouched}
use Rattle.vault_core.specs.Settles.{work_left, calls_left, fold_ticks, fold_calls}
use Rattle.vault_core.specs.Gathering.{most_known, made_by}

-- ---- lengths

longer : resized {R = ℕ} 4 9 (1 ∷ 2 ∷ []) ≡ 1 ∷ 2 ∷ 9 ∷ 9 ∷ []
longer = refl

shorter : resized {R = ℕ} 1 9 (1 ∷ 2 ∷ 3 ∷ []) ≡ 1 ∷ []
shorter = refl

as_long : resized {R = ℕ} 2 9 (5 ∷ 6 ∷ []) ≡ 5 ∷ 6 ∷ []
as_long = refl

-- ---- runs

abbrev run : ℕ → ℕ → Run
run start count = record { start = start; count = count }

abbrev runs : List Run
runs = run 1 2 ∷ run 4 1 ∷ []

covered : (cover runs 0 ≡ false) × (cover runs 1 ≡ true) × (cover runs 2 ≡ true) × (cover runs 3 ≡ false) × (cover runs 4 ≡ true) × (cover runs 5 ≡ false)
covered = (refl, refl, refl, refl, refl, refl)

covered_by_none : (cover [] 0 ≡ false) × (cover (run 0 0 ∷ []) 0 ≡ false)
covered_by_none = (refl, refl)

taken : taken_at {R = ℕ} runs (10 ∷ 11 ∷ 12 ∷ 13 ∷ 14 ∷ 15 ∷ []) ≡ 11 ∷ 12 ∷ 14 ∷ []
taken = refl

-- what is told of each position of the new list
abbrev raised : ℕ → ℕ → ℕ
raised at r = r + at * 10

touched : (new : List ℕ) → IsTouched raised (run 1 2 ∷ []) (1 ∷ 2 ∷ 3 ∷ 4 ∷ []) new → (slice_get new 0 ≡ Some 1) × (slice_get new 1 ≡ Some 12)
    × (slice_get new 2 ≡ Some 23) × (slice_get new 3 ≡ Some 4) × (length new ≡ 4)
touched new is = (is.outside 0 refl, is.inside 1 refl, is.inside 2 refl, is.outside 3 refl, is.same_length)

untouched : (old : List ℕ) → IsTouched raised [] old old
untouched old = record { same_length = refl; inside = λ i on. absurd (true≢false (sym on)); outside = λ i off. refl }

-- ---- the work in hand

ticks_of_a_fold : (fold_ticks stages.None ≡ 0) × (fold_ticks (stages.Home 2) ≡ 5) × (fold_ticks stages.Sync ≡ 2) × (fold_ticks stages.Ready ≡ 1) × (fold_ticks stages.Filed ≡ 0)
ticks_of_a_fold = (refl, refl, refl, refl, refl)

-- two home writes, their sync and the four calls of the frame; with no home write left the next call is one of them
calls_of_a_fold : (fold_calls stages.None ≡ 0) × (fold_calls (stages.Home 2) ≡ 7) × (fold_calls (stages.Home 0) ≡ 6) × (fold_calls stages.Sync ≡ 5)
    × (fold_calls stages.Ready ≡ 4) × (fold_calls stages.Filed ≡ 0)
calls_of_a_fold = (refl, refl, refl, refl, refl, refl)

module _ {D : Type 0} (pen : PenOf D) where
  calls_with_a_job : log_left pen.job ≡ 3 → fold_stage pen.fold ≡ stages.Home 2 → calls_left pen ≡ 10
  calls_with_a_job job fold = rw (job, fold) refl

  calls_of_the_frame : log_left pen.job ≡ 4 → fold_stage pen.fold ≡ stages.Filed → calls_left pen ≡ 4
  calls_of_the_frame job fold = rw (job, fold) refl

  work_with_a_job : log_left pen.job ≡ 3 → fold_stage pen.fold ≡ stages.Home 2 → work_left pen ≡ 28
  work_with_a_job job fold = rw (job, fold) refl

  no_work : log_left pen.job ≡ 0 → fold_stage pen.fold ≡ stages.None → (work_left pen ≡ 0) × (calls_left pen ≡ 0)
  no_work job fold = (rw (job, fold) refl, rw (job, fold) refl)

-- ---- seats

module _ {R : Type 0} (first second : Seated R) where
  most_of_a_seat : length first.pass.entries ≡ 3 → length second.pass.entries ≡ 1 → most_known (first ∷ second ∷ []) 2 ≡ 3
  most_of_a_seat three one = rw (three, one) refl

  most_of_the_other : length first.pass.entries ≡ 3 → length second.pass.entries ≡ 1 → most_known (first ∷ second ∷ []) 5 ≡ 5
  most_of_the_other three one = rw (three, one) refl

  made_together : length first.made ≡ 3 → length second.made ≡ 1 → made_by (first ∷ second ∷ []) ≡ 4
  made_together three one = omega (arith, three, one)
