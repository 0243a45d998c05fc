-- The vector of an image as its records' bytes, and as records.
use Rattle.std.proofs.Common.{◌≡◌, ℕ, zero, suc, ◌+◌, ◌*◌, ◌<◌, List, [], ◌∷◌, ◌++◌, length, take, drop, map, sum, Option, Some, None, refl, sym, ap, ◌∙◌, arith}
use Rattle.std.specs.Prelude.{slice_get}
use Rattle.std.specs.Option.{option_map, option_and_then}
use Rattle.std.proofs.lemmas.List.{drop-drop, length-append, length-map, length-take-le, length-drop}
use Rattle.std.proofs.lemmas.Option.{slice_get-map}
use Rattle.record_core.specs.Bytes.{Encoding, IsBytes, WritesBack}
use Rattle.record_core.specs.Cells.{cell, AreRecords, AreReadAgain}
use Rattle.segment_core.specs.declared.format.Format.{Format}
use Rattle.segment_core.specs.declared.format.Shape.{Shape}
use Rattle.segment_core.specs.Shape.{shape_of}
use Rattle.segment_core.specs.Frame.{Frame, Group, Change, Shrink, Fold, records_of_runs, text}
use Rattle.segment_core.specs.Tally.{nothing}
use Rattle.segment_core.specs.Image.{BeginsImage}
use Rattle.segment_core.specs.Vector.{place_of, record_in, record_at, IsVectorOf}
use Rattle.segment_core.specs.Folding.{HomesHold}
use Rattle.segment_core.specs.Raw.{raw, cells_in, after_frame, AreReadAs}
use Rattle.segment_core.proofs.Push.{AreLegalFrom_last}
use Rattle.segment_core.proofs.Numbers.{IsBytes-drop, IsBytes-take}
use Rattle.segment_core.proofs.PlaceOf.{place_of_between}
use Rattle.segment_core.proofs.OneMore.{IsVectorOf_group, IsVectorOf_change, IsVectorOf_shrink, IsVectorOf_fold}

-- ---- the records of bytes

pub length-cells_in : (width n : ℕ) (bytes : List ℕ) → length (cells_in width n bytes) ≡ n
length-cells_in width zero bytes = refl
length-cells_in width (suc n) bytes = ap suc (length-cells_in width n (drop width bytes))

pub slice_get-cells_in : (width n : ℕ) (bytes : List ℕ) (i : ℕ) → i < n → slice_get (cells_in width n bytes) i ≡ Some (cell width bytes i)
slice_get-cells_in width zero bytes i lt = absurd (omega arith)
slice_get-cells_in width (suc n) bytes zero lt = let none : 0 * width ≡ 0 = omega arith in ap (λ k. Some (take width (drop k bytes))) (sym none)
slice_get-cells_in width (suc n) bytes (suc i) lt =
    let more : width + i * width ≡ suc i * width = omega arith in
    slice_get-cells_in width n (drop width bytes) i (omega arith)
    ∙ ap (λ (bs : List ℕ). Some (take width bs)) (drop-drop (i * width) width bytes)
    ∙ ap (λ k. Some (take width (drop k bytes))) more

pub AreRecords-cells_in : (width n : ℕ) (bytes : List ℕ) → length bytes ≡ n * width → AreRecords (raw width) bytes (cells_in width n bytes)
AreRecords-cells_in width n bytes filled = record {
  filled = filled ∙ ap (λ k. k * width) (sym (length-cells_in width n bytes));
  each = λ i lt. sym (slice_get-cells_in width n bytes i (omega (arith, length-cells_in width n bytes)));
}

-- ---- one more frame

pub IsVectorOf_frame : (format : Format) (width : ℕ) (image : List ℕ) (frames : List Frame) (cells : List (List ℕ))
    (frame : Frame)
    → IsVectorOf format (raw width) image frames cells
    → BeginsImage (shape_of format (raw width)) image (frames ++ frame ∷ [])
    → ((count : ℕ) → frame ≡ Fold count → HomesHold format (raw width) image frames count cells)
    → IsVectorOf format (raw width) image (frames ++ frame ∷ []) (after_frame width cells frame)
IsVectorOf_frame format width image frames cells (Group lengths bytes) read begins hold =
    let whole = (AreLegalFrom_last (shape_of format (raw width)) nothing frames (Group lengths bytes) begins.legal).0 in
    IsVectorOf_group format (raw width) image frames cells read lengths bytes (cells_in width (sum lengths) bytes) begins (AreRecords-cells_in width (sum lengths) bytes whole.layout.2)
IsVectorOf_frame format width image frames cells (Change runs bytes) read begins hold =
    let whole = (AreLegalFrom_last (shape_of format (raw width)) nothing frames (Change runs bytes) begins.legal).0 in
    IsVectorOf_change format (raw width) image frames cells read runs bytes (cells_in width (records_of_runs runs) bytes) begins (AreRecords-cells_in width (records_of_runs runs) bytes whole.layout.2)
IsVectorOf_frame format width image frames cells (Shrink n) read begins hold = IsVectorOf_shrink format (raw width) image frames cells read n begins
IsVectorOf_frame format width image frames cells (Fold count) read begins hold = IsVectorOf_fold format (raw width) image frames cells read count begins (hold count refl)

-- ---- records and their bytes

-- the same places say both
place_told : {R : Type 0} (form : Encoding R) (image : List ℕ) (place : Option ℕ)
    → option_and_then (record_in form image) place ≡ option_and_then form.value_of (option_and_then (record_in (raw form.width) image) place)
place_told form image None = refl
place_told form image (Some place) = refl

pub IsVectorOf_typed : {R : Type 0} (format : Format) (form : Encoding R) (image : List ℕ) (frames : List Frame)
    (cells : List (List ℕ)) (records : List R)
    → IsVectorOf format (raw form.width) image frames cells
    → AreReadAs form cells records
    → IsVectorOf format form image frames records
IsVectorOf_typed format form image frames cells records read are = record {
  size = sym are.size ∙ read.size;
  each = λ i lt. place_told form image (place_of (shape_of format form) frames i) ∙ ap (option_and_then form.value_of) (read.each i (omega (arith, are.size))) ∙ are.each i;
}

-- an element of a list
some_at : {X : Type 0} (xs : List X) (i : ℕ) → i < length xs → (x : X) × (slice_get xs i ≡ Some x)
some_at [] i lt = absurd (omega arith)
some_at (x ∷ xs) zero lt = (x, refl)
some_at (x ∷ xs) (suc i) lt = some_at xs i (omega arith)

-- what is read of bytes is written as them, so what an image says as records it says as their bytes
pub IsVectorOf_raw : {R : Type 0} (format : Format) (form : Encoding R) (image : List ℕ) (frames : List Frame)
    (records : List R)
    → WritesBack form → IsBytes image → BeginsImage (shape_of format form) image frames
    → IsVectorOf format form image frames records
    → IsVectorOf format (raw form.width) image frames (map form.bytes_of records)
IsVectorOf_raw {R} format form image frames records back fits begins read = record {
  size = length-map records form.bytes_of ∙ read.size;
  each = λ i lt. let small : i < length records = omega (arith, length-map records form.bytes_of) in at i (place_of shape frames i) (some_at records i small) refl (read.each i small);
}
  where
    shape : Shape
    shape = shape_of format form

    at : (i : ℕ) (o : Option ℕ)
        → (r : R) × (slice_get records i ≡ Some r) → place_of shape frames i ≡ o
        → record_at format form image frames i ≡ slice_get records i
        → option_and_then (record_in (raw form.width) image) (place_of shape frames i) ≡ slice_get (map form.bytes_of records) i
    at i None one is told =
        let none : Some one.0 ≡ None = sym one.1 ∙ sym told ∙ ap (option_and_then (record_in form image)) is in
        absurd cc
    at i (Some place) one is told =
        let inside = place_of_between shape frames i place begins.legal is in
        let size = ap length begins.begins.1 ∙ length-append (text shape frames) begins.begins.0 in
        let whole : length (take form.width (drop place image)) ≡ form.width = length-take-le form.width (drop place image) (omega (arith, inside.to, length-drop place image)) in
        let read_as : form.value_of (take form.width (drop place image)) ≡ Some one.0 = ap (option_and_then (record_in form image)) (sym is) ∙ told ∙ one.1 in
        let same = back (take form.width (drop place image)) one.0 (IsBytes-take form.width (drop place image) (IsBytes-drop place image fits)) whole read_as in
        ap (option_and_then (record_in (raw form.width) image)) is ∙ ap (λ (bs : List ℕ). Some bs) (sym same)
        ∙ sym (slice_get-map form.bytes_of records i ∙ ap (option_map form.bytes_of) one.1)

-- bytes that were written of records that are read again
pub AreReadAs_written : {R : Type 0} (form : Encoding R) (records : List R) → AreReadAgain form records → AreReadAs form (map form.bytes_of records) records
AreReadAs_written {R} form records again = record { size = length-map records form.bytes_of; each = λ i. each records again i }
  where
    each : (rs : List R) → AreReadAgain form rs → (i : ℕ) → option_and_then form.value_of (slice_get (map form.bytes_of rs) i) ≡ slice_get rs i
    each [] again i = refl
    each (r ∷ rs) again zero = again.0
    each (r ∷ rs) again (suc i) = each rs again.1 i
