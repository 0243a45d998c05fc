-- A command that may come is committed as a frame that may, and no other is.
use Rattle.std.proofs.Common.{◌≡◌, ℕ, ◌+◌, ◌*◌, ◌^◌, ◌≤◌, ◌<◌, true, List, [], ◌∷◌, length, sum, refl, sym, ap, subst, ◌∙◌, arith}
use Rattle.std.specs.Prelude.{nat_le, nat_lt}
use Rattle.std.specs.List.{AllByRecursion, fold}
use Rattle.std.proofs.lemmas.Bool.{ltb-false, le-ltb, leb-true, and_parts, or_from, not-false, not_from_true}
use Rattle.std.proofs.lemmas.Nat.{mul-le}
use Rattle.record_core.specs.Bytes.{Encoding}
use Rattle.record_core.specs.Cells.{AreRecords}
use Rattle.segment_core.specs.declared.format.Format.{Format}
use Rattle.segment_core.specs.declared.format.Format.TheVariants.{One, Two}
use Rattle.segment_core.specs.declared.format.Shape.{Shape}
use Rattle.segment_core.specs.declared.tally.Tally.{Tally}
use Rattle.segment_core.specs.Shape.{limit_of, shape_of}
use Rattle.segment_core.specs.Frame.{Run, Frame, Group, Change, Shrink, Fold, records_of_runs}
use Rattle.segment_core.specs.Layout.{IsLength, IsRun, IsFrame}
use Rattle.segment_core.specs.Tally.{nothing, after, tally_from, tally_of, are_ascending, are_inside, MayFollow, AreLegalFrom, AreLegal}
use Rattle.segment_core.specs.Command.{Command, IsLegalCommand}
use Rattle.segment_core.specs.Command as commands
use Rattle.segment_core.specs.CommandFrame.{IsFrameOf}
use Rattle.segment_core.proofs.Payload.{limit_small}
use Rattle.segment_core.proofs.FrameParts.{length-payload_of, records_of_runs-cons}
use Rattle.segment_core.proofs.OneMore.{as_many}

-- ---- sizes

some_limit : (format : Format) → 8 ≤ limit_of format
some_limit One = omega arith
some_limit Two = omega arith

size_from : (shape : Shape) (tally : Tally) (frames : List Frame) → tally.size ≤ 2 ^ 32 → AreLegalFrom shape tally frames → (tally_from tally frames).size ≤ 2 ^ 32
size_from shape tally [] le legal = le
size_from shape tally (Group lengths bytes ∷ frames) le legal = size_from shape (after tally (Group lengths bytes)) frames (ltb-false (2 ^ 32) (tally.size + sum lengths) legal.1.short) legal.2
size_from shape tally (Change runs bytes ∷ frames) le legal = size_from shape (after tally (Change runs bytes)) frames le legal.2
size_from shape tally (Shrink n ∷ frames) le legal = let below = ltb-false tally.size n legal.1.inside in size_from shape (after tally (Shrink n)) frames (omega arith) legal.2
size_from shape tally (Fold count ∷ frames) le legal = size_from shape (after tally (Fold count)) frames le legal.2

-- the vector of a file has at most 2^32 records
pub size_limit : (shape : Shape) (frames : List Frame) → AreLegal shape frames → (tally_of frames).size ≤ 2 ^ 32
size_limit shape frames legal = size_from shape nothing frames (omega arith) legal

-- ---- from the frame to the command

above : (n : ℕ) (lengths : List ℕ) → n ≤ fold ◌+◌ n lengths
above n [] = omega arith
above n (more ∷ lengths) = let rest = above (n + more) lengths in omega arith

some_sum : (lengths : List ℕ) → 0 < length lengths → AllByRecursion IsLength lengths → 0 < sum lengths
some_sum [] some each = absurd (omega arith)
some_sum (n ∷ lengths) some each = let first = each.0.0 in let rest = above (0 + n) lengths in omega arith

each_counted : (runs : List Run) → AllByRecursion IsRun runs → AllByRecursion (λ run. 0 < run.count) runs
each_counted [] each = tt
each_counted (run ∷ runs) each = (each.0.1.0, each_counted runs each.1)

-- runs that are filled by few records, inside a vector
pub are_runs : (size : ℕ) (runs : List Run)
    → size ≤ 2 ^ 32 → records_of_runs runs < 2 ^ 32 → AllByRecursion (λ run. 0 < run.count) runs
    → are_inside size runs ≡ true
    → AllByRecursion IsRun runs
are_runs size [] limit few each inside = tt
are_runs size (run ∷ runs) limit few each inside =
    let both = and_parts (nat_le (run.start + run.count) size) (are_inside size runs) inside in
    let end = leb-true (run.start + run.count) size both.0 in
    let all = records_of_runs-cons run runs in
    ((omega arith, (each.0, omega arith)), are_runs size runs limit (omega arith) each.1 both.1)

module _ {R : Type 0} (format : Format) (form : Encoding R) (tally : Tally) (records : List R) (size : length records ≡ tally.size) where
  abbrev shape : Shape
  shape = shape_of format form

  pub IsLegalCommand_frame : (command : Command R) (frame : Frame) → IsFrameOf form command frame → IsFrame shape frame → MayFollow tally frame → IsLegalCommand shape records command
  IsLegalCommand_frame (commands.Grow new) frame is whole may = grow is.0 is.1 is.3 (subst (IsFrame shape) is.2 whole) (subst (MayFollow tally) is.2 may)
    where
      grow : (lengths bytes : List ℕ)
          → AreRecords form bytes new → IsFrame shape (Group lengths bytes) → MayFollow tally (Group lengths bytes)
          → IsLegalCommand shape records (commands.Grow new)
      grow lengths bytes are whole may =
          let many = as_many form bytes new (sum lengths) whole.wide are whole.layout.2 in
          let some = some_sum lengths whole.layout.0 whole.layout.1 in
          let short = ltb-false (2 ^ 32) (tally.size + sum lengths) may.short in
          let fits = whole.small in
          let all = length-payload_of format (Group lengths bytes) in
          let head = whole.layout.0 in
          (omega arith, omega (arith, are.filled), omega arith)
  IsLegalCommand_frame (commands.Shrink n) frame is whole may = let le = ltb-false tally.size n ((subst (MayFollow tally) is may).inside) in omega arith
  IsLegalCommand_frame (commands.Change runs new) frame is whole may = change is.0 is.2 (subst (IsFrame shape) is.1 whole) (subst (MayFollow tally) is.1 may)
    where
      change : (bytes : List ℕ)
          → AreRecords form bytes new → IsFrame shape (Change runs bytes) → MayFollow tally (Change runs bytes)
          → IsLegalCommand shape records (commands.Change runs new)
      change bytes are whole may =
          let fits = whole.small in
          let all = length-payload_of format (Change runs bytes) in (
            record {
              some = whole.layout.0;
              each = each_counted runs whole.layout.1;
              ordered = not-false (are_ascending 0 runs) may.ordered;
              inside = ap (λ n. are_inside n runs) size ∙ not-false (are_inside tally.size runs) may.inside;
              filled = as_many form bytes new (records_of_runs runs) whole.wide are whole.layout.2;
            },
            omega (arith, are.filled),
          )

  -- ---- from the command to the frame

  -- growths that are cut out of the records anywhere
  pub IsFrame_group : (new : List R) (lengths bytes : List ℕ)
      → 0 < form.width → AreRecords form bytes new → 0 < length lengths → AllByRecursion IsLength lengths
      → sum lengths ≡ length new
      → 4 + length lengths * 4 + length new * form.width ≤ limit_of format
      → IsFrame shape (Group lengths bytes)
  IsFrame_group new lengths bytes wide are some each all fits = record {
    wide = wide;
    small = omega (arith, length-payload_of format (Group lengths bytes), are.filled);
    layout = (some, each, are.filled ∙ ap (λ n. n * form.width) (sym all));
  }

  pub MayFollow_group : (new : List R) (lengths bytes : List ℕ) → sum lengths ≡ length new → length records + length new ≤ 2 ^ 32 → MayFollow tally (Group lengths bytes)
  MayFollow_group new lengths bytes all short = record { ordered = refl; inside = refl; folded = refl; counted = refl; short = le-ltb (2 ^ 32) (tally.size + sum lengths) (omega arith) }

  -- one growth
  pub IsFrame_grow : (new : List R) (bytes : List ℕ)
      → 0 < form.width → AreRecords form bytes new → IsLegalCommand shape records (commands.Grow new)
      → IsFrame shape (Group (length new ∷ []) bytes) × MayFollow tally (Group (length new ∷ []) bytes)
  IsFrame_grow new bytes wide are legal =
      let limit = limit_small format in
      let many = mul-le (length new) 1 (length new) form.width (omega arith) (omega arith) in
      let alone : sum (length new ∷ []) ≡ length new = omega arith in (
        IsFrame_group new (length new ∷ []) bytes wide are (omega arith) ((legal.0, omega (arith, legal.1)), tt) alone
            (omega (arith, legal.1)),
        MayFollow_group new (length new ∷ []) bytes alone legal.2,
      )

  pub IsFrame_shrink : (n : ℕ)
      → 0 < form.width → tally.size ≤ 2 ^ 32 → tally.changes ≤ tally.folded
      → IsLegalCommand shape records (commands.Shrink n)
      → IsFrame shape (Shrink n) × MayFollow tally (Shrink n)
  IsFrame_shrink n wide limit none legal = (
    record { wide = wide; small = some_limit format; layout = omega arith },
    record { ordered = refl; inside = le-ltb tally.size n (omega arith); folded = le-ltb tally.folded tally.changes none; counted = refl; short = refl },
  )

  pub IsFrame_fold : (count : ℕ) → 0 < form.width → count < 2 ^ 64 → tally.folded ≤ count → count ≤ tally.changes → IsFrame shape (Fold count) × MayFollow tally (Fold count)
  IsFrame_fold count wide few from upto = (
    record { wide = wide; small = some_limit format; layout = few },
    record {
      ordered = refl;
      inside = refl;
      folded = refl;
      counted = or_from (nat_lt count tally.folded) (nat_lt tally.changes count) (le-ltb count tally.folded from) (le-ltb tally.changes count upto);
      short = refl;
    },
  )

  pub IsFrame_change : (runs : List Run) (new : List R) (bytes : List ℕ)
      → 0 < form.width → tally.size ≤ 2 ^ 32 → AreRecords form bytes new
      → IsLegalCommand shape records (commands.Change runs new)
      → IsFrame shape (Change runs bytes) × MayFollow tally (Change runs bytes)
  IsFrame_change runs new bytes wide limit are legal =
      let least = mul-le (length new) 1 (length new) form.width (omega arith) (omega arith) in
      let few : records_of_runs runs < 2 ^ 32 = omega (arith, legal.0.filled, legal.1, limit_small format) in
      let runs_are = are_runs (length records) runs (omega arith) few legal.0.each legal.0.inside in (
        record {
          wide = wide;
          small = omega (arith, length-payload_of format (Change runs bytes), are.filled, legal.1);
          layout = (legal.0.some, runs_are, are.filled ∙ ap (λ n. n * form.width) legal.0.filled);
        },
        record {
          ordered = not_from_true (are_ascending 0 runs) legal.0.ordered;
          inside = not_from_true (are_inside tally.size runs) (ap (λ n. are_inside n runs) (sym size) ∙ legal.0.inside);
          folded = refl;
          counted = refl;
          short = refl;
        },
      )
