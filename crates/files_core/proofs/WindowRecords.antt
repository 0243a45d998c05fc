-- Records of a window that are read by the frames of a file alone.
use Rattle.std.proofs.Common.{◌≡◌, ℕ, ◌+◌, ◌-◌, ◌≤◌, ◌<◌, ◌^◌, List, [], ◌∷◌, ◌++◌, length, take, drop, Option, Some, None, inl, inr, refl, sym, ap, subst, ◌∙◌, arith}
use Rattle.std.specs.Prelude.{min, slice_get}
use Rattle.std.specs.Option.{option_and_then}
use Rattle.std.proofs.Math.Seq.{take-add}
use Rattle.std.proofs.lemmas.Bool.{cases_lt}
use Rattle.std.proofs.lemmas.List.{append-nil, drop-drop, drop_all, drop_at, length-append, length-drop, length-take, length-take-le, nil_from_length, take-append-drop, take_all, take_at}
use Rattle.record_core.specs.Bytes.{Encoding}
use Rattle.record_core.specs.Cells.{cell, AreRecords}
use Rattle.disk_core.specs.State.{State, now, settled, IsImage}
use Rattle.disk_core.specs.Calls.{bytes_of}
use Rattle.disk_core.specs.Moments.{clock, LeavesOnly, LeftSince}
use Rattle.disk_core.proofs.ImageLemmas.{IsImage-settled}
use Rattle.disk_core.proofs.JoinedMoments.{LeavesOnly-before, LeavesOnly-join, LeavesOnly-weaker}
use Rattle.segment_core.specs.declared.fault.ScanFault.TheVariants.{Memory}
use Rattle.segment_core.specs.declared.format.Shape.{Shape}
use Rattle.segment_core.specs.declared.frame_walk.Framed.{Framed}
use Rattle.segment_core.specs.Shape.{shape_of}
use Rattle.segment_core.specs.Frame.{Frame}
use Rattle.segment_core.specs.Tally.{nothing, tally_of}
use Rattle.segment_core.specs.Image.{HasFrames}
use Rattle.segment_core.specs.Vector.{place_of, record_in, HasVector}
use Rattle.segment_core.specs.Raw.{raw}
use Rattle.segment_core.proofs.OneVector.{one_list, same_items, sound_header}
use Rattle.segment_core.proofs.Raw.{IsVectorOf_typed}
use Rattle.segment_core.proofs.RawVector.{raw_cells, raw_vector}
use Rattle.segment_core.proofs.Refusals.{longest_closed, refused_for_memory}
use Rattle.segment_core.proofs.Replaced.{slice_get-drop, slice_get-take}
use Rattle.pen_core.specs.declared.fault.OpenFault.TheVariants.{Scan}
use Rattle.pen_core.specs.Framing.{IsFramedOn}
use Rattle.pen_core.specs.Opening.{IsOpenRefusal, OnlySyncs}
use Rattle.pen_core.specs.Typed.{OpensTo}
use Rattle.pen_core.specs.Window.{AreCellsFrom}
use Rattle.pen_core.proofs.Opening.{size_legal}
use Rattle.files_core.specs.declared.asked.Window.{Window}
use Rattle.files_core.specs.Listing.{AreRecordsFrom, AreWindowOf}
use Rattle.files_core.specs.Writable.{ReadsAny}
use Rattle.files_core.proofs.AnyBytes.{records_in, length-records_in, AreReadAs-records_in}

-- ---- parts of lists

pub taken_none : {X : Type 0} (xs : List X) → take 0 xs ≡ []
taken_none [] = refl
taken_none (x ∷ xs) = refl

-- one part more
pub taken_more : {X : Type 0} (from m n : ℕ) (xs so_far part : List X) → so_far ≡ take m (drop from xs) → part ≡ take n (drop (from + m) xs)
    → so_far ++ part ≡ take (m + n) (drop from xs)
taken_more {X} from m n xs so_far part was then =
    ap (λ (ys : List X). ys ++ part) was
    ∙ ap (λ (ys : List X). take m (drop from xs) ++ ys) (then ∙ ap (take n) (sym (drop-drop m from xs)))
    ∙ sym (take-add m n (drop from xs))

-- these in the place of those of a list from a position on
abbrev pub spliced : {X : Type 0} → ℕ → List X → List X → List X
spliced from read all = take from all ++ (read ++ drop (from + length read) all)

pub spliced_same : {X : Type 0} (from : ℕ) (read all : List X) → read ≡ take (length read) (drop from all) → spliced from read all ≡ all
spliced_same {X} from read all is =
    let n : ℕ = length read in
    ap (λ (ys : List X). take from all ++ (ys ++ drop (from + n) all)) is
    ∙ ap (λ (ys : List X). take from all ++ (take n (drop from all) ++ ys)) (sym (drop-drop n from all))
    ∙ ap (λ (ys : List X). take from all ++ ys) (take-append-drop n (drop from all))
    ∙ take-append-drop from all

-- and the window there shows them
pub spliced_shown : {X : Type 0} (start most from count : ℕ) (read all : List X) → from ≡ min start (length all) → count ≡ min most (length all - from) → length read ≡ count
    → take most (drop start (spliced from read all)) ≡ read
spliced_shown {X} start most from count read all first many len = elim (cases_lt (length all) start) [
  | inl past ↦ (
      let none : length read ≡ 0 = omega (arith, first, many, len, past) in
      let long = length-append (take from all) (read ++ drop (from + length read) all) in
      let behind = length-append read (drop (from + length read) all) in
      let size : length (spliced from read all) ≤ start
      = omega (arith, long, behind, none, length-take from all, length-drop (from + length read) all, first, past) in
      let nothing : List X = [] in
      ap (take most) (drop_all start (spliced from read all) size) ∙ take_all most nothing (omega arith) ∙ sym (nil_from_length read none))
  | inr inside ↦ (
      let same : from ≡ start = omega (arith, first, inside) in
      let front : length (take from all) ≡ start = length-take-le from all (omega (arith, same, inside)) ∙ same in
      let rest : List X = drop (from + length read) all in
      ap (take most) (drop_at (take from all) (read ++ rest) start front)
      ∙ elim (cases_lt (length all - from) most) [
        | inl fewer ↦ (
            let gone : rest ≡ [] = drop_all (from + length read) all (omega (arith, many, len, fewer)) in
            ap (λ (ys : List X). take most (read ++ ys)) gone
            ∙ ap (take most) (append-nil read)
            ∙ take_all most read (omega (arith, many, len, fewer)))
        | inr enough ↦ take_at read rest most (omega (arith, many, len, enough))
      ])
]

-- ---- a disk that was synced, and then read

LeftSince-sooner : (states : List State) (s t : ℕ) (image : List ℕ) → s ≤ t → LeftSince states t image → LeftSince states s image
LeftSince-sooner [] s t image le left = absurd left
LeftSince-sooner (state ∷ earlier) s t image le left = (
  let until = left.0 in omega (arith, le, until),
  elim left.1 [ inl here ↦ inl here | inr before ↦ inr (LeftSince-sooner earlier s t image le before) ],
)

pub only_syncs_then : (old mid new : List State) → IsImage (now old) (bytes_of old) → OnlySyncs old mid → now mid ≡ settled (bytes_of old) → now new ≡ now mid
    → LeavesOnly mid new (IsImage (now mid)) → OnlySyncs old new
only_syncs_then old mid new readable first is same leaves = record {
  stands = inr (same ∙ is);
  left_before = LeavesOnly-join old mid new (IsImage (now old)) first.left_before
      (LeavesOnly-weaker mid new (IsImage (now mid)) (IsImage (now old)) (λ image left. subst (IsImage (now old)) (sym (as_read image left)) readable) leaves);
  stays_as_read = λ later image left. elim (cases_lt (clock old + 1) (clock mid)) [
    | inl before ↦ elim (LeavesOnly-before mid new (IsImage (now mid)) leaves (clock old + 1) image (omega (arith, before)) left) [
      | inl earlier ↦ first.stays_as_read before image earlier
      | inr since ↦ as_read image since
    ]
    | inr behind ↦ as_read image (leaves.each image (LeftSince-sooner new (clock mid) (clock old + 1) image behind left))
  ];
}
  where
    as_read : (image : List ℕ) → IsImage (now mid) image → image ≡ bytes_of old
    as_read image left = IsImage-settled (bytes_of old) image (subst (λ s. IsImage s image) is left)

-- ---- a file whose frames were walked

pub framed_later : (keeps later : Type 0) (bytes others : List ℕ) (size : ℕ) (framed : Framed) → (later → keeps) → (later → bytes ≡ others) → IsFramedOn keeps bytes size framed
    → IsFramedOn later others size framed
framed_later keeps later bytes others size framed back same on = record {
  frames = on.frames;
  is = on.is;
  inside = on.inside;
  framed_by = λ model. subst (λ (bs : List ℕ). HasFrames framed.shape bs on.frames) (same model) (on.framed_by (back model));
}

-- no vector is longer
pub few_positions : (keeps : Type 0) (bytes : List ℕ) (size : ℕ) (framed : Framed) → IsFramedOn keeps bytes size framed → framed.tally.size ≤ 2 ^ 32
few_positions keeps bytes size framed on =
    let most = size_legal framed.shape nothing on.frames on.is.legal (omega arith) in
    let same = ap (λ t. t.size) on.is.tally_is in
    omega arith

-- a place's record, by its bytes
by_bytes : {R : Type 0} (form : Encoding R) (bytes : List ℕ) (place : Option ℕ)
    → option_and_then (record_in form bytes) place ≡ option_and_then form.value_of (option_and_then (record_in (raw form.width) bytes) place)
by_bytes form bytes None = refl
by_bytes form bytes (Some place) = refl

module _ {R : Type 0} (form : Encoding R) (small : form.width < 2 ^ 16) (keeps : Type 0) (bytes : List ℕ) (size : ℕ) (framed : Framed) (on : IsFramedOn keeps bytes size framed)
    (width : framed.shape.width ≡ form.width) where
  abbrev shape : Shape
  shape = shape_of framed.shape.format form

  has_frames : keeps → HasFrames shape bytes on.frames
  has_frames model = subst (λ w. HasFrames (record { format = framed.shape.format; width = w }) bytes on.frames) width (on.framed_by model)

  -- memory may be refused behind the walk
  pub memory_refused : keeps → IsOpenRefusal form bytes (Scan Memory)
  memory_refused model = refused_for_memory form framed.shape.format bytes Memory (sound_header framed.shape.format form.width bytes on.frames small (has_frames model)) refl

  module _ (model : keeps) (records : List R) (opens : OpensTo form bytes records) where
    abbrev cells : List (List ℕ)
    cells = raw_cells (shape_of opens.format form) bytes opens.frames

    has_cells : HasVector opens.format (raw form.width) bytes opens.frames cells
    has_cells = raw_vector (shape_of opens.format form) bytes opens.frames opens.vector.framed

    format_is : opens.format ≡ framed.shape.format
    format_is =
        sym (sound_header opens.format form.width bytes opens.frames small opens.vector.framed).names
        ∙ (sound_header framed.shape.format form.width bytes on.frames small (has_frames model)).names

    frames_are : opens.frames ≡ on.frames
    frames_are =
        one_list shape bytes opens.frames on.frames
        (subst (λ f. HasFrames (record { format = f; width = form.width }) bytes opens.frames) format_is opens.vector.framed)
        (longest_closed shape bytes on.frames (has_frames model))

    long : length records ≡ framed.tally.size
    long = opens.vector.read.size ∙ ap (λ fs. (tally_of fs).size) frames_are ∙ sym (ap (λ t. t.size) on.is.tally_is)

    walked_cells : HasVector framed.shape.format (raw framed.shape.width) bytes opens.frames cells
    walked_cells =
        subst (λ w. HasVector framed.shape.format (raw w) bytes opens.frames cells) (sym width)
        (subst (λ f. HasVector f (raw form.width) bytes opens.frames cells) format_is has_cells)

    record_is : (p : ℕ) → p < length records → slice_get records p ≡ option_and_then form.value_of (slice_get cells p)
    record_is p lt =
        let same : length cells ≡ length records = has_cells.read.size ∙ sym opens.vector.read.size in
        sym (opens.vector.read.each p lt)
        ∙ by_bytes form bytes (place_of (shape_of opens.format form) opens.frames p)
        ∙ ap (option_and_then form.value_of) (has_cells.read.each p (omega (arith, same, lt)))

  -- what was read of a window's bytes
  pub part_read : (from count : ℕ) (out : List ℕ) (read : List R) → from + count ≤ framed.tally.size
      → ((frames : List Frame) (cells : List (List ℕ)) → HasVector framed.shape.format (raw framed.shape.width) bytes frames cells → AreCellsFrom framed.shape.width from count cells out)
      → AreRecords form out read → length read ≡ count → keeps → AreRecordsFrom form bytes from count read
  part_read from count out read inside stand are len model records opens =
      same_items read (take count (drop from records))
      (len ∙ sym (length-take-le count (drop from records) (omega (arith, length-drop from records, long model records opens, inside))))
      (λ i lt. each i lt (omega (arith, lt, len)))
    where
      there : AreCellsFrom framed.shape.width from count (cells model records opens) out
      there = stand opens.frames (cells model records opens) (walked_cells model records opens)

      each : (i : ℕ) → i < length read → i < count → slice_get read i ≡ slice_get (take count (drop from records)) i
      each i lt few =
          sym (are.each i lt)
          ∙ ap (λ w. form.value_of (cell w out i)) (sym width)
          ∙ ap (option_and_then form.value_of) (sym (there i few))
          ∙ sym (record_is model records opens (from + i) (omega (arith, long model records opens, inside, few)))
          ∙ sym (slice_get-drop from records i)
          ∙ sym (slice_get-take count (drop from records) i few)

  -- the file's list, where the disk has kept the model; else some list that is as long
  abbrev pub frames_list : R → List R
  frames_list blank = records_in form blank framed.tally.size (raw_cells framed.shape bytes on.frames)

  pub length-frames_list : (blank : R) → length (frames_list blank) ≡ framed.tally.size
  length-frames_list blank = length-records_in form blank framed.tally.size (raw_cells framed.shape bytes on.frames)

  pub frames_vector : (blank : R) → ReadsAny form → keeps → HasVector framed.shape.format form bytes on.frames (frames_list blank)
  frames_vector blank any model =
      let stand : List (List ℕ) = raw_cells framed.shape bytes on.frames in
      let has : HasVector framed.shape.format (raw form.width) bytes on.frames stand
      = subst (λ w. HasVector framed.shape.format (raw w) bytes on.frames stand) width (raw_vector framed.shape bytes on.frames (on.framed_by model)) in
      let many : length stand ≡ framed.tally.size = has.read.size ∙ sym (ap (λ t. t.size) on.is.tally_is) in
      record {
        framed = has_frames model;
        read = IsVectorOf_typed framed.shape.format form bytes on.frames stand (frames_list blank) has.read (AreReadAs-records_in form blank framed.tally.size stand any many);
      }

  pub frames_open : (blank : R) → ReadsAny form → keeps → OpensTo form bytes (frames_list blank)
  frames_open blank any model = record { format = framed.shape.format; frames = on.frames; vector = frames_vector blank any model }

  -- Where the disk has kept the model these are the records of the file's window; else they are in some list's.
  pub window_read : (blank : R) → ReadsAny form → (window : Window) (from count : ℕ) (read : List R) → from ≡ min window.from framed.tally.size
      → count ≡ min window.count (framed.tally.size - from) → length read ≡ count → (keeps → AreRecordsFrom form bytes from count read) → AreWindowOf form window keeps bytes read
  window_read blank any window from count read first many len are = record {
    records = spliced from read all;
    file = λ model. subst (OpensTo form bytes) (sym (spliced_same from read all (are model all (opens model) ∙ ap (λ n. take n (drop from all)) (sym len)))) (opens model);
    shown = sym (spliced_shown window.from window.count from count read all (first ∙ ap (min window.from) (sym size_is)) (many ∙ ap (λ n. min window.count (n - from)) (sym size_is)) len);
  }
    where
      all : List R
      all = frames_list blank

      size_is : length all ≡ framed.tally.size
      size_is = length-frames_list blank

      opens : keeps → OpensTo form bytes all
      opens model = frames_open blank any model
