-- Which frame may come, test by test.
use Rattle.std.proofs.Common.{◌≡◌, ◌≢◌, ℕ, ◌+◌, true, false, Some, refl, arith}
use Rattle.std.specs.Prelude.{not, nat_lt}
use Rattle.segment_core.specs.declared.fault.Cause.TheVariants.{Runs, Range, Unfolded, FoldCount, TooLong}
use Rattle.segment_core.specs.declared.tally.Tally.{Tally}
use Rattle.segment_core.specs.Frame.{Frame, Group, Change, Shrink, Fold, kind_of}
use Rattle.segment_core.specs.Tally.{are_ascending, are_inside, is_disordered, is_outside, is_unfolded, is_miscounted, is_too_long}
use Rattle.segment_core.specs.Fault.{first_line, order_lines, damaged}
use Rattle.segment_core.specs.Reading.{runs_of, record_count}
use Rattle.segment_core.proofs.Lines.{first_line_at}

pub disordered_by_runs : (frame : Frame) → is_disordered frame ≡ not (are_ascending 0 (runs_of frame))
disordered_by_runs (Group lengths bytes) = refl
disordered_by_runs (Change runs bytes) = refl
disordered_by_runs (Shrink n) = refl
disordered_by_runs (Fold count) = refl

pub outside_by_runs : (tally : Tally) (frame : Frame) → kind_of frame ≢ 3 → is_outside tally frame ≡ not (are_inside tally.size (runs_of frame))
outside_by_runs tally (Group lengths bytes) other = refl
outside_by_runs tally (Change runs bytes) other = refl
outside_by_runs tally (Shrink n) other = absurd (other refl)
outside_by_runs tally (Fold count) other = refl

pub unfolded_by_shrink : (tally : Tally) (frame : Frame) → kind_of frame ≡ 3 → is_unfolded tally frame ≡ nat_lt tally.folded tally.changes
unfolded_by_shrink tally (Group lengths bytes) is = absurd (omega arith)
unfolded_by_shrink tally (Change runs bytes) is = absurd (omega arith)
unfolded_by_shrink tally (Shrink n) is = refl
unfolded_by_shrink tally (Fold count) is = absurd (omega arith)

pub folded_otherwise : (tally : Tally) (frame : Frame) → kind_of frame ≢ 3 → is_unfolded tally frame ≡ false
folded_otherwise tally (Group lengths bytes) other = refl
folded_otherwise tally (Change runs bytes) other = refl
folded_otherwise tally (Shrink n) other = absurd (other refl)
folded_otherwise tally (Fold count) other = refl

pub counted_otherwise : (tally : Tally) (frame : Frame) → kind_of frame ≢ 4 → is_miscounted tally frame ≡ false
counted_otherwise tally (Group lengths bytes) other = refl
counted_otherwise tally (Change runs bytes) other = refl
counted_otherwise tally (Shrink n) other = refl
counted_otherwise tally (Fold count) other = absurd (other refl)

pub too_long_group : (tally : Tally) (frame : Frame) → kind_of frame ≡ 1 → is_too_long tally frame ≡ nat_lt 4294967296 (tally.size + record_count frame)
too_long_group tally (Group lengths bytes) is = refl
too_long_group tally (Change runs bytes) is = absurd (omega arith)
too_long_group tally (Shrink n) is = absurd (omega arith)
too_long_group tally (Fold count) is = absurd (omega arith)

pub short_otherwise : (tally : Tally) (frame : Frame) → kind_of frame ≢ 1 → is_too_long tally frame ≡ false
short_otherwise tally (Group lengths bytes) other = absurd (other refl)
short_otherwise tally (Change runs bytes) other = refl
short_otherwise tally (Shrink n) other = refl
short_otherwise tally (Fold count) other = refl

-- ---- the table, line by line

pub finds_runs : (p : ℕ) (tally : Tally) (frame : Frame) → is_disordered frame ≡ true → first_line (order_lines p tally frame) ≡ Some (damaged (p + 6) Runs)
unfolding order_lines
finds_runs p tally frame a = first_line_at 0 (order_lines p tally frame) _ (a, refl)

pub finds_range : (p : ℕ) (tally : Tally) (frame : Frame)
    → is_disordered frame ≡ false → is_outside tally frame ≡ true
    → first_line (order_lines p tally frame) ≡ Some (damaged (p + 6) Range)
unfolding order_lines
finds_range p tally frame a b = first_line_at 1 (order_lines p tally frame) _ (a, (b, refl))

pub finds_unfolded : (p : ℕ) (tally : Tally) (frame : Frame)
    → is_disordered frame ≡ false → is_outside tally frame ≡ false → is_unfolded tally frame ≡ true
    → first_line (order_lines p tally frame) ≡ Some (damaged p Unfolded)
unfolding order_lines
finds_unfolded p tally frame a b d = first_line_at 2 (order_lines p tally frame) _ (a, (b, (d, refl)))

pub finds_fold_count : (p : ℕ) (tally : Tally) (frame : Frame)
    → is_disordered frame ≡ false → is_outside tally frame ≡ false → is_unfolded tally frame ≡ false
    → is_miscounted tally frame ≡ true
    → first_line (order_lines p tally frame) ≡ Some (damaged (p + 6) FoldCount)
unfolding order_lines
finds_fold_count p tally frame a b d e = first_line_at 3 (order_lines p tally frame) _ (a, (b, (d, (e, refl))))

pub finds_too_long : (p : ℕ) (tally : Tally) (frame : Frame)
    → is_disordered frame ≡ false → is_outside tally frame ≡ false → is_unfolded tally frame ≡ false
    → is_miscounted tally frame ≡ false → is_too_long tally frame ≡ true
    → first_line (order_lines p tally frame) ≡ Some (damaged (p + 6) TooLong)
unfolding order_lines
finds_too_long p tally frame a b d e f = first_line_at 4 (order_lines p tally frame) _ (a, (b, (d, (e, (f, refl)))))
