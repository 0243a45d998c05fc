-- Growths as a frame that may follow, and the records behind it.
use Rattle.std.proofs.Common.{false, ◌≡◌, ℕ, ◌+◌, ◌*◌, ◌^◌, ◌≤◌, ◌<◌, List, [], ◌∷◌, ◌++◌, length, map, sum, None, refl, sym, ap, subst, ◌∙◌, arith}
use Rattle.std.specs.List.{AllByRecursion}
use Rattle.std.proofs.lemmas.Bool.{le-ltb}
use Rattle.std.proofs.lemmas.List.{append-nil, length-append, length-map}
use Rattle.disk_core.specs.State.{State, now, IsImage}
use Rattle.disk_core.specs.Calls.{bytes_of}
use Rattle.record_core.specs.Bytes.{Encoding}
use Rattle.record_core.specs.Cells.{AreReadAgain}
use Rattle.record_core.proofs.Cells.{length-flat_map_bytes}
use Rattle.segment_core.specs.declared.format.Shape.{Shape}
use Rattle.segment_core.specs.declared.tally.Tally.{Tally}
use Rattle.segment_core.specs.Shape.{limit_of}
use Rattle.segment_core.specs.Frame.{Frame, frame_text}
use Rattle.segment_core.specs.Layout.{IsLength, IsFrame}
use Rattle.segment_core.specs.Tally.{MayFollow}
use Rattle.segment_core.specs.Raw.{after_frame, AreCellsOf}
use Rattle.segment_core.specs.Written.{group_frame, joined, payload_len}
use Rattle.segment_core.proofs.Payload.{limit_small, length-frame_text}
use Rattle.segment_core.proofs.ReadAs.{AreCellsOf_group}
use Rattle.segment_core.proofs.Written.{long_growth, sum-lengths, length-group_frame}
use Rattle.pen_core.specs.Vectors.{frame_at}
use Rattle.pen_core.specs.declared.pen.Pen.TheInside.{Inside}
use Rattle.pen_core.specs.Fields.{IsSoundPen}
use Rattle.pen_core.specs.InHand.{fold_of}
use Rattle.pen_core.specs.Listed.{homes_entered}
use Rattle.pen_core.specs.Refusals.{fold_len}
use Rattle.pen_core.proofs.FrameBegun.{Begins, begun_frame}

-- ---- how many records

-- each growth has a record, so there are no more growths than records
pub few_growths : {R : Type 0} (growths : List (List R)) → AllByRecursion (λ growth. 0 < length growth) growths
    → length growths ≤ length (joined growths)
few_growths [] each = omega arith
few_growths (growth ∷ growths) each = let rest = few_growths growths each.1 in let first = each.0 in omega (arith, length-append growth (joined growths))

-- ---- the frame

lengths_fit : {R : Type 0} (growths : List (List R)) → AllByRecursion (λ growth. 0 < length growth) growths
    → length (joined growths) < 2 ^ 32 → AllByRecursion IsLength (map length growths)
lengths_fit [] each few = tt
lengths_fit (growth ∷ growths) each few =
    let both = length-append growth (joined growths) in
    ((each.0, omega arith), lengths_fit growths each.1 (omega arith))

module _ {R : Type 0} (form : Encoding R) (shape : Shape) (tally : Tally) (growths : List (List R)) (wide : 1 ≤ form.width)
    (width : form.width ≡ shape.width) (size_of : (r : R) → length (form.bytes_of r) ≡ form.width)
    (some : 0 < length growths)
    (each : AllByRecursion (λ growth. 0 < length growth) growths) where
  pub group_framed : payload_len form.width growths ≤ limit_of shape.format → IsFrame shape (group_frame form growths)
  group_framed fits =
      let limit = limit_small shape.format in
      let long = long_growth form.width (length (joined growths)) wide in
      let all = length-group_frame shape.format form growths size_of in
      let filled = length-flat_map_bytes form (joined growths) size_of in
      record {
        wide = omega arith;
        small = omega arith;
        layout = (
          omega (arith, length-map growths length),
          lengths_fit growths each (omega arith),
          filled ∙ ap (λ n. n * form.width) (sum-lengths growths) ∙ ap (λ w. sum (map length growths) * w) width,
        );
      }

  pub group_follows : tally.size + length (joined growths) ≤ 2 ^ 32 → MayFollow tally (group_frame form growths)
  group_follows short =
      record {
        ordered = refl;
        inside = refl;
        folded = refl;
        counted = refl;
        short = le-ltb (2 ^ 32) (tally.size + sum (map length growths)) (omega (arith, sum-lengths growths));
      }

-- ---- begun

-- What growths are begun from.
pub record Grows {R D : Type 0} (form : Encoding R) (keeps : D → Type 0) (states : D → List State) (pen then : Inside D) (growths : List (List R)) : Type 0 where
  pub sound : IsSoundPen keeps states pen
  pub going : pen.broken ≡ false
  pub idle : pen.step ≡ None
  pub reads : (disk : D) → keeps disk → IsImage (now (states disk)) (bytes_of (states disk))
  pub spelled : then.bytes.items ≡ frame_text pen.shape.format (group_frame form growths) ++ 0 ∷ []
  pub wide : 1 ≤ form.width
  pub width : form.width ≡ pen.shape.width
  pub size_of : (r : R) → length (form.bytes_of r) ≡ form.width
  pub some : 0 < length growths
  pub each : AllByRecursion (λ growth. 0 < length growth) growths
  pub short : pen.tally.size + length (joined growths) ≤ 2 ^ 32
  pub fits : payload_len form.width growths ≤ limit_of pen.shape.format
  pub room : pen.gate + (6 + payload_len form.width growths) + fold_len (fold_of pen.fold) < 2 ^ 48
  pub next_is : then.next ≡ record { size = pen.tally.size + length (joined growths); changes = pen.tally.changes; folded = pen.tally.folded }
  pub homes_more : then.homes.homes.items ≡ pen.homes.homes.items ++ homes_entered pen.gate pen.tally.size (group_frame form growths)
  pub runs_same : then.homes.live.items ≡ pen.homes.live.items

module _ {R D : Type 0} {form : Encoding R} {keeps : D → Type 0} {states : D → List State} {pen then : Inside D}
    {growths : List (List R)} (grows : Grows form keeps states pen then growths) where
  abbrev frame : Frame
  frame = group_frame form growths

  abbrev counted : ℕ → Tally
  counted n = record { size = pen.tally.size + n; changes = pen.tally.changes; folded = pen.tally.folded }

  long : length (frame_text pen.shape.format frame) ≡ 6 + payload_len form.width growths
  long =
      length-frame_text pen.shape.format frame
      ∙ ap (λ n. 6 + n) (length-group_frame pen.shape.format form growths grows.size_of)

  pub group_begins : Begins keeps states pen then frame
  group_begins = record {
    sound = grows.sound;
    going = grows.going;
    idle = grows.idle;
    reads = grows.reads;
    spelled = grows.spelled;
    framed = group_framed form pen.shape pen.tally growths grows.wide grows.width grows.size_of grows.some grows.each grows.fits;
    follows = group_follows form pen.shape pen.tally growths grows.wide grows.width grows.size_of grows.some grows.each grows.short;
    counted = grows.next_is ∙ ap counted (sum-lengths growths);
    no_fold = λ count is. absurd cc;
    room = let all = grows.room in omega (arith, long);
    homes_more = grows.homes_more;
    runs_more = grows.runs_same ∙ sym (append-nil pen.homes.live.items);
  }

  pub group_tells : (vector : List (List ℕ)) (records : List R) → AreReadAgain form (joined growths) → AreCellsOf form vector records
      → AreCellsOf form (after_frame pen.shape.width vector (frame_at pen.shape then.bytes.items)) (records ++ joined growths)
  group_tells vector records again read =
      subst (λ f. AreCellsOf form (after_frame pen.shape.width vector f) (records ++ joined growths)) (sym (begun_frame group_begins))
      (AreCellsOf_group form pen.shape.width vector records growths grows.width grows.size_of again read)
