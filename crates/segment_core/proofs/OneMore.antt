-- What one more frame makes of the vector: the records of a Group behind it, those of a Change in place of its runs'
-- records, the first records at a Shrink; and the same vector behind a Fold, where homes hold what its changes say.
use Rattle.std.proofs.Common.{◌≡◌, ℕ, ◌+◌, ◌-◌, ◌*◌, ◌≤◌, ◌<◌, true, subst, List, [], ◌∷◌, ◌++◌, length, take, drop, sum, Option, Some, None, refl, sym, ap, ◌∙◌, append_assoc, arith, inl, inr}
use Rattle.std.specs.Prelude.{nat_lt, slice_get, IsSome}
use Rattle.std.specs.Option.{option_or, option_and_then}
use Rattle.std.proofs.lemmas.List.{length-append, length-take-le, length-drop, take-append-le, drop-append-le, drop-drop, drop_at}
use Rattle.std.proofs.lemmas.Bool.{cases_lt, ltb-false, or_parts, not-false}
use Rattle.std.proofs.lemmas.Nat.{row_fits}
use Rattle.record_core.specs.Bytes.{Encoding}
use Rattle.record_core.specs.Cells.{AreRecords}
use Rattle.record_core.proofs.Cells.{slice_get-append_left}
use Rattle.segment_core.specs.declared.format.Format.{Format}
use Rattle.segment_core.specs.declared.format.Shape.{Shape}
use Rattle.segment_core.specs.declared.tally.Tally.{Tally}
use Rattle.segment_core.specs.Shape.{shape_of}
use Rattle.segment_core.specs.Frame.{Run, Frame, Group, Change, Shrink, Fold, runs_len, records_of_runs, text}
use Rattle.segment_core.specs.Layout.{IsFrame}
use Rattle.segment_core.specs.Tally.{nothing, after, tally_of, are_inside, MayFollow, AreLegal}
use Rattle.segment_core.specs.Image.{BeginsImage}
use Rattle.segment_core.specs.Vector.{place_in_runs, home_in, home_of, change_of, place_of, record_in, record_at, IsVectorOf}
use Rattle.segment_core.specs.Command.{Command, replaced, after_command}
use Rattle.segment_core.specs.Command as commands
use Rattle.segment_core.specs.CommandFrame.{IsFrameOf}
use Rattle.segment_core.specs.Reading.{record_bytes_of, record_count, head_len}
use Rattle.segment_core.specs.Folding.{HomesHold}
use Rattle.segment_core.proofs.Push.{tally_from_push, AreLegalFrom_last, BeginsImage_behind, BeginsImage_before}
use Rattle.segment_core.proofs.FrameParts.{front_text, length-front_text, frame_parts, records_filled}
use Rattle.segment_core.proofs.LastFrom.{none_or, place_is, place_of_push}
use Rattle.segment_core.proofs.PlaceAmong.{place_among_inside, place_among_below}
use Rattle.segment_core.proofs.PlaceOf.{change_in_live, place_of_between, folded_counted, live_inside, change_of_later}
use Rattle.segment_core.proofs.Replaced.{slice_get-append_right, slice_get-take, length-replaced, replaced_kept, replaced_told}

-- ---- records in an image

-- the bytes of one record, within what an image begins with
record_in_front : {R : Type 0} (form : Encoding R) (front rest : List ℕ) (place : ℕ) → place + form.width ≤ length front → record_in form (front ++ rest) place ≡ record_in form front place
record_in_front form front rest place fits =
    ap form.value_of (
    ap (take form.width) (drop-append-le place front rest (omega arith))
    ∙ take-append-le form.width (drop place front) rest (omega (arith, length-drop place front)))

-- record j of these, which stand behind other bytes
record_in_row : {R : Type 0} (form : Encoding R) (image front bytes rest : List ℕ) (records : List R) (j : ℕ)
    → image ≡ front ++ (bytes ++ rest) → AreRecords form bytes records
    → j < length records
    → record_in form image (length front + j * form.width) ≡ slice_get records j
record_in_row form image front bytes rest records j is are lt =
    let row = row_fits j form.width (length records) form.width lt (omega arith) in
    ap (λ (bs : List ℕ). record_in form bs (length front + j * form.width)) is
    ∙ ap (λ (bs : List ℕ). form.value_of (take form.width bs))
    (sym (drop-drop (j * form.width) (length front) (front ++ (bytes ++ rest))) ∙ ap (drop (j * form.width)) (drop_at front (bytes ++ rest) (length front) refl))
    ∙ record_in_front form bytes rest (j * form.width) (omega (arith, are.filled)) ∙ are.each j lt

-- as many as their bytes make
pub as_many : {R : Type 0} (form : Encoding R) (bytes : List ℕ) (records : List R) (n : ℕ)
    → 0 < form.width → AreRecords form bytes records → length bytes ≡ n * form.width
    → length records ≡ n
as_many form bytes records n wide are filled = elim (cases_lt (length records) n) [
  | inl few ↦ (let more = row_fits (length records) form.width n form.width few (omega arith) in absurd (omega (arith, are.filled)))
  | inr le ↦ elim (cases_lt n (length records)) [
    | inl many ↦ (let more = row_fits n form.width (length records) form.width many (omega arith) in absurd (omega (arith, are.filled)))
    | inr ge ↦ omega arith
  ]
]

-- What frames say stands in their text: it is the same in each image that begins with it.
pub IsVectorOf_begins : {R : Type 0} (format : Format) (form : Encoding R) (image other : List ℕ)
    (frames : List Frame) (records : List R)
    → BeginsImage (shape_of format form) image frames → BeginsImage (shape_of format form) other frames
    → IsVectorOf format form image frames records
    → IsVectorOf format form other frames records
IsVectorOf_begins {R} format form image other frames records begins begins' read = record { size = read.size; each = λ i lt. sym (same i (place_of shape frames i) refl) ∙ read.each i lt }
  where
    shape : Shape
    shape = shape_of format form

    same : (i : ℕ) (o : Option ℕ) → place_of shape frames i ≡ o → option_and_then (record_in form image) o ≡ option_and_then (record_in form other) o
    same i None at = refl
    same i (Some place) at =
        let inside = place_of_between shape frames i place begins.legal at in
        let fits = inside.to in
        ap (λ (bs : List ℕ). record_in form bs place) begins.begins.1 ∙ record_in_front form (text shape frames) begins.begins.0 place fits
        ∙ sym (ap (λ (bs : List ℕ). record_in form bs place) begins'.begins.1 ∙ record_in_front form (text shape frames) begins'.begins.0 place fits)

-- ---- one more frame

module _ {R : Type 0} (format : Format) (form : Encoding R) (image : List ℕ) (frames : List Frame) (records : List R) (read : IsVectorOf format form image frames records) where
  abbrev shape : Shape
  shape = shape_of format form

  abbrev tally : Tally
  tally = tally_of frames

  abbrev gate : ℕ
  gate = length (text shape frames)

  module _ (frame : Frame) (begins : BeginsImage shape image (frames ++ frame ∷ [])) where
    legal : AreLegal shape frames
    legal = (BeginsImage_before shape image frames frame begins).legal

    whole : IsFrame shape frame
    whole = (AreLegalFrom_last shape nothing frames frame begins.legal).0

    may : MayFollow tally frame
    may = (AreLegalFrom_last shape nothing frames frame begins.legal).1

    sized : (tally_of (frames ++ frame ∷ [])).size ≡ (after tally frame).size
    sized = ap (λ t. t.size) (tally_from_push nothing frames frame)

    -- where the place stays, the record stays
    kept : (i : ℕ) → i < tally.size → place_of shape (frames ++ frame ∷ []) i ≡ place_of shape frames i → record_at format form image (frames ++ frame ∷ []) i ≡ slice_get records i
    kept i lt place = ap (option_and_then (record_in form image)) place ∙ read.each i (omega (arith, read.size))

    -- the frame's own record j
    told : (new : List R) (i j : ℕ)
        → AreRecords form (record_bytes_of frame) new → j < length new
        → place_of shape (frames ++ frame ∷ []) i ≡ Some (gate + (6 + head_len format frame) + j * form.width)
        → record_at format form image (frames ++ frame ∷ []) i ≡ slice_get new j
    told new i j are lt place =
        let behind = BeginsImage_behind shape image frames frame begins in
        let rest : List ℕ = behind.0 in
        let front : List ℕ = front_text format frame in
        let bytes : List ℕ = record_bytes_of frame in
        let there : image ≡ text shape frames ++ front ++ (bytes ++ rest) =
        behind.1
        ∙ ap (λ (bs : List ℕ). text shape frames ++ (bs ++ rest)) (frame_parts format frame)
        ∙ ap (λ (bs : List ℕ). text shape frames ++ bs) (append_assoc front bytes rest)
        ∙ sym (append_assoc (text shape frames) front (bytes ++ rest)) in
        let at : gate + (6 + head_len format frame) ≡ length (text shape frames ++ front) = omega (arith, length-append (text shape frames) front, length-front_text format frame) in
        ap (option_and_then (record_in form image)) place
        ∙ ap (λ n. record_in form image (n + j * form.width)) at
        ∙ record_in_row form image (text shape frames ++ front) bytes rest new j there are lt

    counted : (new : List R) → AreRecords form (record_bytes_of frame) new → length new ≡ record_count frame
    counted new are = as_many form (record_bytes_of frame) new (record_count frame) whole.wide are (records_filled shape frame whole.layout)

  -- a Group appends its records
  pub IsVectorOf_group : (lengths bytes : List ℕ) (new : List R)
      → BeginsImage shape image (frames ++ Group lengths bytes ∷ []) → AreRecords form bytes new
      → IsVectorOf format form image (frames ++ Group lengths bytes ∷ []) (records ++ new)
  IsVectorOf_group lengths bytes new begins are = record { size = omega (arith, length-append records new, many, read.size, sized frame begins); each = at }
    where
      frame : Frame
      frame = Group lengths bytes

      many : length new ≡ sum lengths
      many = counted frame begins new are

      at : (i : ℕ) → i < length (records ++ new) → record_at format form image (frames ++ frame ∷ []) i ≡ slice_get (records ++ new) i
      at i lt = elim (cases_lt i tally.size) [
        | inl below ↦ (
            let out : home_in shape.width i gate tally frame ≡ None = place_among_below shape.width (gate + 10 + length lengths * 4) tally.size (sum lengths) i below in
            let place =
            place_of_push shape tally.folded frames frame i refl
            ∙ ap (λ o. option_or (change_of shape tally.folded frames i) (option_or o (home_of shape frames i))) out
            ∙ sym (place_is shape frames i) in
            kept frame begins i below place ∙ sym (slice_get-append_left records new i (omega (arith, read.size))))
        | inr past ↦ (
            let j : ℕ = i - tally.size in
            let inside : j < length new = omega (arith, length-append records new, read.size) in
            let none = none_or (change_of shape tally.folded frames i) (λ place live. let lt' = live_inside shape frames i place (legal frame begins) live in omega arith) in
            let here :
            home_in shape.width i gate tally frame ≡ Some (gate + 10 + length lengths * 4 + j * shape.width)
            = place_among_inside shape.width (gate + 10 + length lengths * 4) tally.size (sum lengths) i past (omega (arith, many)) in
            let where_is : gate + 10 + length lengths * 4 + j * shape.width ≡ gate + (6 + head_len format frame) + j * form.width = omega arith in
            let place =
            place_of_push shape tally.folded frames frame i refl
            ∙ ap (λ o. option_or o (option_or (home_in shape.width i gate tally frame) (home_of shape frames i))) none
            ∙ ap (λ o. option_or o (home_of shape frames i)) here
            ∙ ap (λ n. Some n) where_is in
            told frame begins new i j are inside place
            ∙ sym (slice_get-append_right records new i (omega (arith, read.size)) ∙ ap (λ n. slice_get new (i - n)) read.size))
      ]

  -- a Change replaces the records of its runs
  pub IsVectorOf_change : (runs : List Run) (bytes : List ℕ) (new : List R)
      → BeginsImage shape image (frames ++ Change runs bytes ∷ []) → AreRecords form bytes new
      → IsVectorOf format form image (frames ++ Change runs bytes ∷ []) (replaced records runs new)
  IsVectorOf_change runs bytes new begins are = record {
    size = long ∙ read.size ∙ sym (sized frame begins);
    each = λ i lt. at i (omega (arith, long, read.size)) (place_in_runs shape.width i from runs) refl;
  }
    where
      frame : Frame
      frame = Change runs bytes

      from : ℕ
      from = gate + 6 + runs_len shape.format (length runs)

      many : length new ≡ records_of_runs runs
      many = counted frame begins new are

      inside : are_inside (length records) runs ≡ true
      inside = ap (λ n. are_inside n runs) read.size ∙ not-false (are_inside tally.size runs) ((may frame begins).inside)

      long : length (replaced records runs new) ≡ length records
      long = length-replaced records runs new inside many

      said : (i : ℕ) (o : Option ℕ)
          → place_in_runs shape.width i from runs ≡ o
          → place_of shape (frames ++ frame ∷ []) i ≡ option_or (option_or o (change_of shape tally.folded frames i)) (home_of shape frames i)
      said i o is =
          place_of_push shape tally.folded frames frame i refl
          ∙ ap (λ x. option_or (option_or x (change_of shape tally.folded frames i)) (home_of shape frames i))
          (change_in_live shape tally.folded i gate tally runs bytes (folded_counted shape frames (legal frame begins)) ∙ is)

      at : (i : ℕ)
          → i < tally.size → (o : Option ℕ) → place_in_runs shape.width i from runs ≡ o
          → record_at format form image (frames ++ frame ∷ []) i ≡ slice_get (replaced records runs new) i
      at i lt None is = kept frame begins i lt (said i None is ∙ sym (place_is shape frames i)) ∙ sym (replaced_kept shape.width i from records runs new inside many is)
      at i lt (Some place) is =
          let n = replaced_told shape.width i from records runs new place inside many is in
          let where_is : place ≡ gate + (6 + head_len format frame) + n.index * form.width = omega (arith, n.at) in
          told frame begins new i n.index are n.inside (said i (Some place) is ∙ ap (λ p. Some p) where_is) ∙ sym n.same

  -- a Shrink keeps the first records
  pub IsVectorOf_shrink : (n : ℕ) → BeginsImage shape image (frames ++ Shrink n ∷ []) → IsVectorOf format form image (frames ++ Shrink n ∷ []) (take n records)
  IsVectorOf_shrink n begins =
      let frame : Frame = Shrink n in
      let le = ltb-false tally.size n ((may frame begins).inside) in
      let long = length-take-le n records (omega (arith, read.size)) in record {
        size = omega (arith, sized frame begins);
        each = λ i lt. kept frame begins i (omega arith) (place_of_push shape tally.folded frames frame i refl ∙ sym (place_is shape frames i)) ∙ sym (slice_get-take n records i (omega arith));
      }

  -- a Fold keeps the vector, where homes hold the records of the changes that it counts
  pub IsVectorOf_fold : (count : ℕ)
      → BeginsImage shape image (frames ++ Fold count ∷ []) → HomesHold format form image frames count records
      → IsVectorOf format form image (frames ++ Fold count ∷ []) records
  IsVectorOf_fold count begins hold = record {
    size = read.size ∙ sym (sized frame begins);
    each = λ i lt. at i (omega (arith, read.size)) (change_of shape count frames i) refl (change_of shape tally.folded frames i) refl;
  }
    where
      frame : Frame
      frame = Fold count

      later : tally.folded ≤ count
      later = ltb-false count tally.folded ((or_parts (nat_lt count tally.folded) (nat_lt tally.changes count) ((may frame begins).counted)).0)

      said : (i : ℕ) (o : Option ℕ) → change_of shape count frames i ≡ o → place_of shape (frames ++ frame ∷ []) i ≡ option_or o (home_of shape frames i)
      said i o is = place_of_push shape count frames frame i refl ∙ ap (λ x. option_or x (home_of shape frames i)) is

      at : (i : ℕ)
          → i < tally.size → (o : Option ℕ) → change_of shape count frames i ≡ o → (live : Option ℕ)
          → change_of shape tally.folded frames i ≡ live
          → record_at format form image (frames ++ frame ∷ []) i ≡ slice_get records i
      at i lt (Some place) is live covered =
          let still = change_of_later shape tally.folded count frames i place later is in
          kept frame begins i lt (said i (Some place) is ∙ sym (place_is shape frames i ∙ ap (λ o. option_or o (home_of shape frames i)) still))
      at i lt None is None covered = kept frame begins i lt (said i None is ∙ sym (place_is shape frames i ∙ ap (λ o. option_or o (home_of shape frames i)) covered))
      at i lt None is (Some place) covered = ap (option_and_then (record_in form image)) (said i None is) ∙ hold i (subst (λ (o : Option ℕ). IsSome o) (sym covered) refl) is

  -- the frame of a command makes of the vector what the command does
  pub IsVectorOf_command : (command : Command R) (frame : Frame)
      → IsFrameOf form command frame → BeginsImage shape image (frames ++ frame ∷ [])
      → IsVectorOf format form image (frames ++ frame ∷ []) (after_command records command)
  IsVectorOf_command (commands.Grow new) frame is begins =
      let begins' = subst (λ f. BeginsImage shape image (frames ++ f ∷ [])) is.2 begins in
      subst (λ f. IsVectorOf format form image (frames ++ f ∷ []) (records ++ new)) (sym is.2) (IsVectorOf_group is.0 is.1 new begins' is.3)
  IsVectorOf_command (commands.Shrink n) frame is begins =
      let begins' = subst (λ f. BeginsImage shape image (frames ++ f ∷ [])) is begins in
      subst (λ f. IsVectorOf format form image (frames ++ f ∷ []) (take n records)) (sym is) (IsVectorOf_shrink n begins')
  IsVectorOf_command (commands.Change runs new) frame is begins =
      let begins' = subst (λ f. BeginsImage shape image (frames ++ f ∷ [])) is.1 begins in
      subst (λ f. IsVectorOf format form image (frames ++ f ∷ []) (replaced records runs new)) (sym is.1) (IsVectorOf_change runs is.0 new begins' is.2)
