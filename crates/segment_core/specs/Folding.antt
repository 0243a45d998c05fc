-- What stands in home bytes, and when a fold may say that changes stand there.
use Rattle.std.specs.Prelude.{◌≡◌, ℕ, ◌+◌, ◌≤◌, ◌<◌, List, slice_get, Option, Some, None, IsSome}
use Rattle.std.specs.Option.{option_and_then}
use Rattle.record_core.specs.Bytes.{Encoding}
use Rattle.segment_core.specs.declared.format.Format.{Format}
use Rattle.segment_core.specs.declared.format.Shape.{Shape}
use Rattle.segment_core.specs.Shape.{shape_of}
use Rattle.segment_core.specs.Frame.{Frame}
use Rattle.segment_core.specs.Tally.{tally_of}
use Rattle.segment_core.specs.Vector.{home_of, change_of, record_in}

-- the record in the home bytes of position i
abbrev pub home_record_at : {R : Type 0} → Format → Encoding R → List ℕ → List Frame → ℕ → Option R
home_record_at format form image frames i = option_and_then (record_in form image) (home_of (shape_of format form) frames i)

-- Each position that live changes cover, but none from number count on, has its record in its home bytes.
abbrev pub HomesHold : {R : Type 0} → Format → Encoding R → List ℕ → List Frame → ℕ → List R → Type 0
HomesHold format form image frames count records =
    let shape = shape_of format form in
    (i : ℕ) → IsSome (change_of shape (tally_of frames).folded frames i) → change_of shape count frames i ≡ None → home_record_at format form image frames i ≡ slice_get records i

-- Byte j is a home byte of a position that a live change covers: it says nothing of the vector.
pub record IsLoose (shape : Shape) (frames : List Frame) (j : ℕ) : Type 0 where
  pub position : ℕ
  pub place : ℕ
  pub told : ℕ
  pub home_is : home_of shape frames position ≡ Some place
  pub covered : change_of shape (tally_of frames).folded frames position ≡ Some told
  pub from : place ≤ j
  pub before : j < place + shape.width
