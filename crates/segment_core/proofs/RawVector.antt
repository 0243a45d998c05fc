-- Each image that has frames has a vector, each record as its bytes.
use Rattle.std.proofs.Common.{◌≡◌, ℕ, zero, suc, ◌+◌, ◌<◌, List, length, Option, Some, None, refl, sym, ap, ◌∙◌, arith}
use Rattle.std.specs.Prelude.{slice_get}
use Rattle.std.specs.Option.{option_and_then}
use Rattle.segment_core.specs.declared.format.Shape.{Shape}
use Rattle.segment_core.specs.Frame.{Frame}
use Rattle.segment_core.specs.Tally.{tally_of, AreLegal}
use Rattle.segment_core.specs.Image.{HasFrames}
use Rattle.segment_core.specs.Vector.{change_of, home_of, place_of, record_in, HasVector}
use Rattle.segment_core.specs.Raw.{raw}
use Rattle.segment_core.specs.Parsed.{cell_at, cells_from}
use Rattle.segment_core.proofs.PlaceOf.{has_home, some_or}

pub has_place : (shape : Shape) (frames : List Frame) (i : ℕ) → AreLegal shape frames → i < (tally_of frames).size → (place : ℕ) × (place_of shape frames i ≡ Some place)
unfolding place_of
has_place shape frames i legal lt =
    let home = has_home shape frames i legal lt in
    some_or (change_of shape (tally_of frames).folded frames i) (home_of shape frames i) home.0 home.1

length-cells_from : (shape : Shape) (n : ℕ) (frames : List Frame) (image : List ℕ) (i : ℕ) → length (cells_from shape n frames image i) ≡ n
length-cells_from shape zero frames image i = refl
length-cells_from shape (suc n) frames image i = ap suc (length-cells_from shape n frames image (suc i))

slice_get-cells_from : (shape : Shape) (n : ℕ) (frames : List Frame) (image : List ℕ) (i k : ℕ) → k < n
    → slice_get (cells_from shape n frames image i) k ≡ Some (cell_at shape.width image (place_of shape frames (i + k)))
slice_get-cells_from shape zero frames image i k lt = absurd (omega arith)
slice_get-cells_from shape (suc n) frames image i zero lt = let here : i ≡ i + 0 = omega arith in ap (λ m. Some (cell_at shape.width image (place_of shape frames m))) here
slice_get-cells_from shape (suc n) frames image i (suc k) lt =
    let here : suc i + k ≡ i + suc k = omega arith in
    slice_get-cells_from shape n frames image (suc i) k (omega arith) ∙ ap (λ m. Some (cell_at shape.width image (place_of shape frames m))) here

-- the bytes of each record
abbrev pub raw_cells : Shape → List ℕ → List Frame → List (List ℕ)
raw_cells shape image frames = cells_from shape (tally_of frames).size frames image 0

pub raw_vector : (shape : Shape) (image : List ℕ) (frames : List Frame) → HasFrames shape image frames → HasVector shape.format (raw shape.width) image frames (raw_cells shape image frames)
raw_vector shape image frames framed = record {
  framed = framed;
  read = record { size = size; each = λ i lt. each i (omega (arith, size)) };
}
  where
    size : length (raw_cells shape image frames) ≡ (tally_of frames).size
    size = length-cells_from shape (tally_of frames).size frames image 0

    there : (place : Option ℕ) (q : ℕ) → place ≡ Some q → option_and_then (record_in (raw shape.width) image) place ≡ Some (cell_at shape.width image place)
    there None q is = absurd cc
    there (Some place) q is = refl

    each : (i : ℕ) → i < (tally_of frames).size → option_and_then (record_in (raw shape.width) image) (place_of shape frames i) ≡ slice_get (raw_cells shape image frames) i
    each i lt =
        let at = has_place shape frames i framed.legal lt in
        let here : 0 + i ≡ i = omega arith in
        there (place_of shape frames i) at.0 at.1
        ∙ ap (λ m. Some (cell_at shape.width image (place_of shape frames m))) (sym here)
        ∙ sym (slice_get-cells_from shape (tally_of frames).size frames image 0 i lt)
