-- What is asked of one more frame is met on worked files: a growth of 5, whose record a change makes 7; and, once 7
-- stands in its home bytes, a fold that counts the change.
use Rattle.std.proofs.Common.{◌≡◌, ℕ, zero, suc, ◌<◌, List, [], ◌∷◌, ◌++◌, Option, Some, None, refl, subst, arith}
use Rattle.std.proofs.lemmas.Bool.{false≢true}
use Rattle.std.specs.Prelude.{slice_get, IsSome}
use Rattle.std.specs.Int.{w64, to_le_bytes}
use Rattle.record_core.specs.Bytes.{Encoding, unsigned}
use Rattle.record_core.specs.Cells.{cell, AreRecords}
use Rattle.segment_core.specs.declared.format.Format.TheVariants.{One}
use Rattle.segment_core.specs.declared.format.Shape.{Shape}
use Rattle.segment_core.specs.Shape.{shape_of}
use Rattle.segment_core.specs.Frame.{Frame, Group, Change, Fold, text}
use Rattle.segment_core.specs.Tally.{AreLegal, AreLegalFrom}
use Rattle.segment_core.specs.Image.{BeginsImage}
use Rattle.segment_core.specs.Vector.{change_of, place_of, record_at, IsVectorOf}
use Rattle.segment_core.specs.Folding.{home_record_at, HomesHold}
use Rattle.segment_core.proofs.Push.{BeginsImage_before}
use Rattle.segment_core.proofs.PlaceOf.{live_inside}
use Rattle.segment_core.proofs.OneMore.{IsVectorOf_change, IsVectorOf_fold}

abbrev numbers : Encoding ℕ
numbers = unsigned w64

abbrev shape : Shape
shape = shape_of One numbers

abbrev grown : List Frame
grown = Group (1 ∷ []) (to_le_bytes w64 5) ∷ []

abbrev change : Frame
change = Change (record { start = 0; count = 1 } ∷ []) (to_le_bytes w64 7)

abbrev written : List Frame
written = Group (1 ∷ []) (to_le_bytes w64 7) ∷ change ∷ []

abbrev changed_file : List ℕ
changed_file = text shape (grown ++ change ∷ []) ++ 0 ∷ []

abbrev folded_file : List ℕ
folded_file = text shape (written ++ Fold 1 ∷ []) ++ 0 ∷ []

-- a growth of one record, a change of it, and frames that may follow
legal_before : (n : ℕ) (rest : List Frame)
    → AreLegalFrom shape (record { size = 1; changes = 1; folded = 0 }) rest
    → AreLegal shape (Group (1 ∷ []) (to_le_bytes w64 n) ∷ change ∷ rest)
legal_before n rest legal = (
  record {
    wide = omega arith;
    small = omega arith;
    layout = (omega arith, ((omega arith, omega arith), tt), refl);
  },
  record { ordered = refl; inside = refl; folded = refl; counted = refl; short = refl },
  (
    record {
      wide = omega arith;
      small = omega arith;
      layout = (refl, ((omega arith, (omega arith, omega arith)), tt), refl);
    },
    record { ordered = refl; inside = refl; folded = refl; counted = refl; short = refl },
    legal,
  ),
)

changed_legal : AreLegal shape (grown ++ change ∷ [])
changed_legal = legal_before 5 [] tt

grown_vector : IsVectorOf One numbers changed_file grown (5 ∷ [])
unfolding place_of
grown_vector = record { size = refl; each = each }
  where
    each : (i : ℕ) → i < 1 → record_at One numbers changed_file grown i ≡ slice_get (5 ∷ []) i
    each zero lt = refl
    each (suc i) lt = absurd (omega arith)

seven : AreRecords numbers (to_le_bytes w64 7) (7 ∷ [])
seven = record { filled = refl; each = each }
  where
    each : (i : ℕ) → i < 1 → numbers.value_of (cell 8 (to_le_bytes w64 7) i) ≡ slice_get (7 ∷ []) i
    each zero lt = refl
    each (suc i) lt = absurd (omega arith)

changed_vector : IsVectorOf One numbers changed_file (grown ++ change ∷ []) (7 ∷ [])
changed_vector =
    IsVectorOf_change One numbers changed_file grown (5 ∷ []) grown_vector (record { start = 0; count = 1 } ∷ [])
    (to_le_bytes w64 7) (7 ∷ []) (record { legal = changed_legal; begins = (0 ∷ [], refl) }) seven

written_legal : AreLegal shape (written ++ Fold 1 ∷ [])
written_legal = legal_before 7 (Fold 1 ∷ []) (
  record { wide = omega arith; small = omega arith; layout = omega arith },
  record { ordered = refl; inside = refl; folded = refl; counted = refl; short = refl },
  tt,
)

written_begins : BeginsImage shape folded_file (written ++ Fold 1 ∷ [])
written_begins = record { legal = written_legal; begins = (0 ∷ [], refl) }

written_vector : IsVectorOf One numbers folded_file written (7 ∷ [])
unfolding place_of
written_vector = record { size = refl; each = each }
  where
    each : (i : ℕ) → i < 1 → record_at One numbers folded_file written i ≡ slice_get (7 ∷ []) i
    each zero lt = refl
    each (suc i) lt = absurd (omega arith)

written_home : HomesHold One numbers folded_file written 1 (7 ∷ [])
written_home i covered since = at (change_of shape 0 written i) i refl covered
  where
    told : (i : ℕ) → i < 1 → home_record_at One numbers folded_file written i ≡ slice_get (7 ∷ []) i
    told zero lt = refl
    told (suc i) lt = absurd (omega arith)

    at : (o : Option ℕ) (i : ℕ) → change_of shape 0 written i ≡ o → IsSome (change_of shape 0 written i) → home_record_at One numbers folded_file written i ≡ slice_get (7 ∷ []) i
    at None i is some = absurd (false≢true (subst (λ (o : Option ℕ). IsSome o) is some))
    at (Some place) i is some = told i (live_inside shape written i place ((BeginsImage_before shape folded_file written (Fold 1) written_begins).legal) is)

folded_vector : IsVectorOf One numbers folded_file (written ++ Fold 1 ∷ []) (7 ∷ [])
folded_vector = IsVectorOf_fold One numbers folded_file written (7 ∷ []) written_vector 1 written_begins written_home

-- the home says it then
folded_place : place_of shape (written ++ Fold 1 ∷ []) 0 ≡ Some 25
unfolding place_of
folded_place = refl
