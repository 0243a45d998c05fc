-- Why a change is refused: each test where those before it don't hold.
use Rattle.std.proofs.Common.{◌≡◌, ℕ, ◌<◌, ◌≤◌, true, false, ◌&&◌, nat_lt, List, length, Some, None, refl, sym, subst, arith}
use Rattle.std.proofs.lemmas.Bool.{lt-ltb, le-ltb}
use Rattle.std.specs.List.{list_all}
use Rattle.std.specs.Option.{is_some}
use Rattle.segment_core.specs.declared.format.Format.{Format}
use Rattle.segment_core.specs.declared.format.Format.TheVariants.{One, Two}
use Rattle.segment_core.specs.declared.format.Shape.{Shape}
use Rattle.segment_core.specs.Shape.{limit_of}
use Rattle.segment_core.specs.Frame.{Run, runs_len}
use Rattle.segment_core.specs.Runs.{change_len}
use Rattle.segment_core.specs.Tally.{are_ascending, are_inside}
use Rattle.pen_core.specs.declared.fault.PenFault.TheVariants.{OldFormat, Runs, OutOfRange, TooLarge, FileFull}
use Rattle.pen_core.specs.PenOf.{PenOf}
use Rattle.pen_core.specs.Refusals.{first_refusal, is_full, is_old, change_lines}

-- ---- several runs in a file of version 1

module _ {D : Type 0} (pen : PenOf D) (runs : List Run) where
  pub old_runs : (format : Format) → format ≡ One → 1 < length runs → is_old pen format runs ≡ true
  old_runs format is several = subst (λ f. is_old pen f runs ≡ true) (sym is) (lt-ltb 1 (length runs) several)

  pub not_old_runs : (format : Format) → length runs ≤ 1 → is_old pen format runs ≡ false
  not_old_runs One few = le-ltb 1 (length runs) few
  not_old_runs Two few = refl

  pub not_old_format : (format : Format) → (format ≡ One → ⊥) → is_old pen format runs ≡ false
  not_old_format One not = absurd (not refl)
  not_old_format Two not = refl

-- more of them than the limit make the payload too long
runs_len-least : (format : Format) (n : ℕ) → n ≤ runs_len format n
runs_len-least One n = omega arith
runs_len-least Two n = omega arith

pub change_len-least : (shape : Shape) (runs : List Run) → length runs ≤ change_len shape runs
change_len-least shape runs = omega (arith, runs_len-least shape.format (length runs))

-- ---- the tests in their order

module _ {D : Type 0} (pen : PenOf D) (runs : List Run) (whole : pen.broken ≡ false) (idle : is_some pen.job ≡ false) where
  pub refused_old : is_old pen pen.shape.format runs ≡ true → first_refusal (change_lines pen runs) ≡ Some OldFormat
  refused_old old = rw (whole, idle, old) refl

  module _ (new : is_old pen pen.shape.format runs ≡ false) where
    pub refused_disordered : (list_all (λ run. nat_lt 0 run.count) runs && are_ascending 0 runs) ≡ false
        → first_refusal (change_lines pen runs) ≡ Some Runs
    refused_disordered disordered = rw (whole, idle, new, disordered) refl

    module _ (ordered : (list_all (λ run. nat_lt 0 run.count) runs && are_ascending 0 runs) ≡ true) where
      pub refused_outside : are_inside pen.tally.size runs ≡ false → first_refusal (change_lines pen runs) ≡ Some OutOfRange
      refused_outside outside = rw (whole, idle, new, ordered, outside) refl

      module _ (inside : are_inside pen.tally.size runs ≡ true) where
        pub refused_long : limit_of pen.shape.format < change_len pen.shape runs → first_refusal (change_lines pen runs) ≡ Some TooLarge
        refused_long long = let past = lt-ltb (limit_of pen.shape.format) (change_len pen.shape runs) long in rw (whole, idle, new, ordered, inside, past) refl

        module _ (short : change_len pen.shape runs ≤ limit_of pen.shape.format) where
          fits : nat_lt (limit_of pen.shape.format) (change_len pen.shape runs) ≡ false
          fits = le-ltb (limit_of pen.shape.format) (change_len pen.shape runs) short

          pub refused_full : is_full pen (change_len pen.shape runs) ≡ true → first_refusal (change_lines pen runs) ≡ Some FileFull
          refused_full full = rw (whole, idle, new, ordered, inside, fits, full) refl

          pub refused_none : is_full pen (change_len pen.shape runs) ≡ false → first_refusal (change_lines pen runs) ≡ None
          refused_none room = rw (whole, idle, new, ordered, inside, fits, room) refl
