-- What a pen knows of a file that was opened, and what opening leaves.
use Rattle.std.proofs.Common.{◌≡◌, ℕ, zero, suc, ◌+◌, ◌≤◌, ◌<◌, ◌^◌, inl, inr, false, List, [], ◌∷◌, ◌++◌, length, map, get_or, Option, Some, None, refl, sym, ap, subst, ◌∙◌, arith}
use Rattle.std.specs.Prelude.{slice_get}
use Rattle.std.specs.List.{flat_map}
use Rattle.std.specs.Option.{option_and_then}
use Rattle.std.proofs.lemmas.Bool.{cases_lt}
use Rattle.std.proofs.lemmas.List.{append-nil, length-append, get_or_at}
use Rattle.record_core.specs.Bytes.{Encoding, IsBytes, WritesBack}
use Rattle.disk_core.specs.State.{State, now, settled}
use Rattle.disk_core.specs.Calls.{bytes_of}
use Rattle.disk_core.proofs.ImageLemmas.{settled_image}
use Rattle.segment_core.specs.declared.format.Format.{Format}
use Rattle.segment_core.specs.declared.format.Format.TheVariants.{One, Two}
use Rattle.segment_core.specs.declared.format.Shape.{Shape}
use Rattle.segment_core.specs.declared.tally.Tally.{Tally}
use Rattle.segment_core.specs.declared.found.Homes.{Homes}
use Rattle.segment_core.specs.declared.vector.Scanned.{Scanned}
use Rattle.segment_core.specs.Shape.{version_of, shape_of}
use Rattle.segment_core.specs.Frame.{Frame, frame_text, text}
use Rattle.segment_core.specs.Tally.{nothing, after, tally_from, tally_of, AreLegalFrom}
use Rattle.segment_core.specs.Image.{BeginsImage, HasFrames}
use Rattle.segment_core.specs.Vector.{place_of, record_in, IsVectorOf, HasVector}
use Rattle.segment_core.specs.Blanked.{all_blanked}
use Rattle.segment_core.specs.Raw.{raw, AreReadAs, AreCellsOf}
use Rattle.segment_core.proofs.Blanked.{tally_from-blanked}
use Rattle.segment_core.proofs.Fed.{frames_more}
use Rattle.segment_core.proofs.OneMore.{IsVectorOf_begins}
use Rattle.segment_core.proofs.Payload.{length-frame_text}
use Rattle.segment_core.proofs.Push.{length-text}
use Rattle.segment_core.proofs.Raw.{IsVectorOf_raw}
use Rattle.segment_core.proofs.RawVector.{raw_cells, raw_vector}
use Rattle.segment_core.proofs.OneVector.{one_list}
use Rattle.segment_core.proofs.Refusals.{longest_closed}
use Rattle.segment_core.proofs.ReadAs.{AreCellsOf_read}
use Rattle.pen_core.specs.Held.{HoldsFrames, gate_of}
use Rattle.pen_core.specs.Known.{IsFileOf, IsShut}
use Rattle.pen_core.specs.PenLog.{PenLog, vector_read}
use Rattle.pen_core.specs.PenOf.{PenOf}
use Rattle.pen_core.specs.Framing.{IsKnownFile}
use Rattle.pen_core.specs.Inside.{Knows, IsPen}
use Rattle.pen_core.specs.Opening.{IsOpened, IsFoundOn}
use Rattle.pen_core.specs.declared.fold.Fold.{Fold}
use Rattle.pen_core.specs.declared.stage.FoldStage.TheVariants as stages
use Rattle.pen_core.specs.InHand.{IsInHand}
use Rattle.pen_core.specs.Listed.{live_runs, HasLists}
use Rattle.pen_core.proofs.Again.{gate_behind}
use Rattle.pen_core.proofs.Parsed.{SeenAs, seen_as}
use Rattle.pen_core.proofs.Pens.{knows_rest}
use Rattle.pen_core.proofs.Whole.{after_size, after_changes, after_folded}

-- ---- what legal frames leave

pub size_legal : (shape : Shape) (tally : Tally) (frames : List Frame) → AreLegalFrom shape tally frames → tally.size ≤ 2 ^ 32
    → (tally_from tally frames).size ≤ 2 ^ 32
size_legal shape tally [] legal le = le
size_legal shape tally (frame ∷ frames) legal le = size_legal shape (after tally frame) frames legal.2 (after_size tally frame le legal.1)

folded_legal : (shape : Shape) (tally : Tally) (frames : List Frame) → AreLegalFrom shape tally frames
    → tally.folded ≤ tally.changes → (tally_from tally frames).folded ≤ (tally_from tally frames).changes
folded_legal shape tally [] legal le = le
folded_legal shape tally (frame ∷ frames) legal le = folded_legal shape (after tally frame) frames legal.2 (after_folded tally frame le legal.1)

-- a change has a byte at least
changes_short : (shape : Shape) (tally : Tally) (frames : List Frame)
    → (tally_from tally frames).changes ≤ tally.changes + length (flat_map (frame_text shape.format) frames)
changes_short shape tally [] = omega arith
changes_short shape tally (frame ∷ frames) =
    let rest : List ℕ = flat_map (frame_text shape.format) frames in
    let all = length-append (frame_text shape.format frame) rest in
    let here = length-frame_text shape.format frame in
    let one = after_changes tally frame in
    let more = changes_short shape (after tally frame) frames in
    omega arith

-- ---- the records and their bytes

-- what the same bytes say as bytes and as records
AreReadAs_same : {R : Type 0} (format : Format) (form : Encoding R) (image : List ℕ) (frames : List Frame)
    (cells : List (List ℕ)) (records : List R)
    → IsVectorOf format (raw form.width) image frames cells → IsVectorOf format form image frames records
    → AreReadAs form cells records
AreReadAs_same {R} format form image frames cells records read typed = record { size = size; each = each }
  where
    size : length cells ≡ length records
    size = read.size ∙ sym typed.size

    told : (place : Option ℕ)
        → option_and_then form.value_of (option_and_then (record_in (raw form.width) image) place) ≡ option_and_then
        (record_in form image) place
    told None = refl
    told (Some place) = refl

    past : {X : Type 0} (xs : List X) (i : ℕ) → length xs ≤ i → slice_get xs i ≡ None
    past [] i le = refl
    past (x ∷ xs) zero le = absurd (omega arith)
    past (x ∷ xs) (suc i) le = past xs i (omega arith)

    each : (i : ℕ) → option_and_then form.value_of (slice_get cells i) ≡ slice_get records i
    each i = elim (cases_lt i (length records)) [
      | inl lt ↦ ap (option_and_then form.value_of) (sym (read.each i (omega arith))) ∙ told (place_of (shape_of format form) frames i) ∙ typed.each i lt
      | inr ge ↦ ap (option_and_then form.value_of) (past cells i (omega arith)) ∙ sym (past records i ge)
    ]

-- ---- the file

begins_of : (shape : Shape) (image : List ℕ) (found : List Frame) → HasFrames shape image found → BeginsImage shape image found
begins_of shape image found framed = record { legal = framed.legal; begins = (framed.closed.0 ∷ framed.closed.1, framed.closed.3) }

-- bytes behind the closed gate say nothing
HasVector_more : {R : Type 0} (format : Format) (form : Encoding R) (image more : List ℕ) (found : List Frame)
    (records : List R)
    → HasVector format form image found records → HasVector format form (image ++ more) found records
HasVector_more format form image more found records has =
    let framed = frames_more (shape_of format form) image more found has.framed in
    record {
      framed = framed;
      read = IsVectorOf_begins format form image (image ++ more) found records
          (begins_of (shape_of format form) image found has.framed)
          (begins_of (shape_of format form) (image ++ more) found framed) has.read;
    }

-- what a file is whose records stand as their bytes
module _ (shape : Shape) (image : List ℕ) (found : List Frame) (cells : List (List ℕ)) (has : HasVector shape.format (raw shape.width) image found cells) where
  abbrev frames : List Frame
  frames = all_blanked found

  abbrev p : ℕ
  p = length (text shape found)

  holds : HoldsFrames shape frames cells image
  holds = record { found = found; alike = refl; begins = begins_of shape image found has.framed; read = has.read }

  gate_is : p ≡ gate_of shape frames
  gate_is = gate_behind shape found frames refl

  inside : p < length image
  inside = omega (arith, ap length has.framed.closed.3, length-append (text shape found) (has.framed.closed.0 ∷ has.framed.closed.1))

  file_is : IsFileOf shape 0 frames cells (settled image)
  file_is = record { holds = holds; gate_synced = omega (arith, gate_is, inside); pending_is_folded = λ j lt is. absurd cc }

  shut : IsShut p (settled image)
  shut = record {
    closed =
        λ opened.
        has.framed.closed.2
        (sym
        (ap (λ (bs : List ℕ). get_or bs p 0) has.framed.closed.3
        ∙ get_or_at (text shape found) has.framed.closed.0 has.framed.closed.1 0 p refl)
        ∙ opened);
    kept = refl;
  }

  seen : SeenAs shape p frames cells image
  seen = seen_as shape p frames cells image gate_is holds

  known_file : (bytes : List ℕ)
      → Knows 0 (record { shape = shape; gate = p; tally = tally_of found; bytes = bytes; step = None; broken = false }) frames cells (settled image)
  known_file bytes =
      knows_rest (record { shape = shape; gate = p; tally = tally_of found; bytes = bytes; step = None; broken = false })
      frames cells (settled image) gate_is (sym (tally_from-blanked nothing found)) file_is shut (settled_image image)

-- the records of what was read, as their bytes, in all that stands on the disk
read_raw : {R : Type 0} (format : Format) (form : Encoding R) (front more : List ℕ) (found : List Frame) (records : List R)
    → WritesBack form → IsBytes front → HasVector format form front found records
    → HasVector format (raw form.width) (front ++ more) found (map form.bytes_of records)
read_raw format form front more found records back fits read =
    let shape : Shape = shape_of format form in
    let has = HasVector_more format form front more found records read in
    record {
      framed = has.framed;
      read =
          IsVectorOf_begins format (raw form.width) front (front ++ more) found (map form.bytes_of records)
          (begins_of shape front found read.framed) (begins_of shape (front ++ more) found has.framed)
          (IsVectorOf_raw format form front found records back fits (begins_of shape front found read.framed) read.read);
    }

-- ---- a pen's fields

same_format : (a b : Format) (v : ℕ) → version_of a ≡ v → v ≡ version_of b → a ≡ b
same_format One One v is was = refl
same_format One Two v is was = absurd (omega arith)
same_format Two One v is was = absurd (omega arith)
same_format Two Two v is was = refl

same_tally : (t : Tally) (n c f : ℕ) → n ≡ t.size → c ≡ t.changes → f ≡ t.folded → record { size = n; changes = c; folded = f } ≡ t
same_tally t n c f size changes folded =
    ap (λ k. record { size = k; changes = c; folded = f }) size
    ∙ ap (λ k. record { size = t.size; changes = k; folded = f }) changes
    ∙ ap (λ k. record { size = t.size; changes = t.changes; folded = k }) folded

-- what a pen counts of a file that it goes on with, and what it knows of it
module _ {keeps : Type 0} {states : List State} {shape : Shape} {gate : ℕ} {tally : Tally} {homes : Homes} (on : IsKnownFile keeps states shape gate tally homes) where
  abbrev log : List ℕ → PenLog
  log bytes = record { shape = shape; gate = gate; tally = tally; bytes = bytes; step = None; broken = false }

  -- whichever way the file's frames are told
  pub seen_known : keeps → (frames : List Frame) (cells : List (List ℕ)) → HasVector shape.format (raw shape.width) (bytes_of states) frames cells
      → SeenAs shape gate (all_blanked frames) cells (bytes_of states)
  seen_known model frames cells has =
      let same : frames ≡ on.frames = one_list shape (bytes_of states) frames on.frames has.framed (longest_closed shape (bytes_of states) on.frames (on.framed model)) in
      subst (λ g. SeenAs shape g (all_blanked frames) cells (bytes_of states)) (ap (λ fs. length (text shape fs)) same ∙ sym on.gate_is)
      (seen shape (bytes_of states) frames cells has)

  abbrev cells : List (List ℕ)
  cells = raw_cells shape (bytes_of states) on.frames

  vector : keeps → HasVector shape.format (raw shape.width) (bytes_of states) on.frames cells
  vector model = raw_vector shape (bytes_of states) on.frames (on.framed model)

  has_known : (bytes : List ℕ) → keeps → Knows 0 (log bytes) (all_blanked on.frames) cells (now states)
  has_known bytes model =
      subst (λ g. Knows 0 (record (log bytes) { gate = g }) (all_blanked on.frames) cells (now states)) (sym on.gate_is)
      (subst (λ t. Knows 0 (record (log bytes) { gate = gate_of shape on.frames; tally = t }) (all_blanked on.frames) cells (now states)) (sym on.tally_is)
      (subst (λ s. Knows 0 (record (log bytes) { gate = gate_of shape on.frames; tally = tally_of on.frames }) (all_blanked on.frames) cells s) (sym (on.on_disk model))
      (known_file shape (bytes_of states) on.frames cells (vector model) bytes)))

  pub known_pen : (next : Tally) (bytes : List ℕ) → IsPen 0 keeps states (log bytes) next
  known_pen next bytes =
      let long = length-text shape on.frames in
      let all = ap (λ t. t.changes) on.tally_is in
      let few = changes_short shape nothing on.frames in
      let most = folded_legal shape nothing on.frames on.legal (omega arith) in
      let at = on.gate_is in
      record {
        wide = on.wide;
        gate_fits = on.gate_fits;
        size_fits = subst (λ t. t.size ≤ 2 ^ 32) (sym on.tally_is) (size_legal shape nothing on.frames on.legal (omega arith));
        changes_fit = omega (arith, at);
        folded_counted = subst (λ t. t.folded ≤ t.changes) (sym on.tally_is) most;
        job = tt;
        knows = λ model. (
            let told = seen_known model on.frames cells (vector model) in
            subst (λ fs. Knows 0 (log bytes) fs (vector_read states (log bytes)) (now states)) (sym told.frames_are)
            (subst (λ v. Knows 0 (log bytes) (all_blanked on.frames) v (now states)) (sym told.vector_is) (has_known bytes model)));
      }

  pub known_lists : (bytes : List ℕ) (live : ℕ) (fold : Fold) → fold.stage ≡ stages.None → live ≡ length homes.live.items
      → HasLists keeps states (log bytes) homes live fold
  known_lists bytes live fold at all = record {
    frames = on.frames;
    legal = on.legal;
    gate_is = on.gate_is;
    tally_is = on.tally_is;
    lists = record {
      told = homes.homes.items;
      are_homes = on.homes_are.homes_are;
      homes_are = sym (append-nil homes.homes.items);
      live_is = on.homes_are.live_is ∙ sym (append-nil (live_runs shape on.frames));
      counted = all ∙ ap length on.homes_are.live_is;
    };
    filed = λ count is. absurd cc;
    runs_are = λ held. absurd (subst IsInHand at held);
    same = λ model. (seen_known model on.frames cells (vector model)).frames_are;
  }

  -- any pen that counts so, and sees the file so, has opened it
  pub known_opened : {D : Type 0} (pen : PenOf D) → keeps → pen.shape ≡ shape → pen.gate ≡ gate → pen.tally ≡ tally
      → ((frames : List Frame) (cells : List (List ℕ)) → HasVector shape.format (raw shape.width) (bytes_of states) frames cells → (pen.frames ≡ all_blanked frames) × (pen.vector ≡ cells))
      → IsOpened (raw shape.width) (bytes_of states) pen pen.vector
  known_opened pen model same gate_same tally_same told =
      let here = told on.frames cells (vector model) in
      record {
        format = shape.format;
        found = on.frames;
        vector = subst (HasVector shape.format (raw shape.width) (bytes_of states) on.frames) (sym here.1) (vector model);
        shape_is = same;
        frames_are = here.0;
        cells_are = cells_of_raw shape.width pen.vector;
        tally_is = tally_same ∙ on.tally_is;
        gate_is = gate_same ∙ on.gate_is;
      }
    where
      cells_of_raw : (width : ℕ) (cells : List (List ℕ)) → AreCellsOf (raw width) cells cells
      cells_of_raw width [] = record { written = refl; read_again = tt }
      cells_of_raw width (cell ∷ cells) = let rest = cells_of_raw width cells in record { written = ap (λ cs. cell ∷ cs) rest.written; read_again = (refl, rest.read_again) }

module _ {R : Type 0} {form : Encoding R} {keeps : Type 0} {states : List State} {scanned : Scanned R} {homes : Homes}
    (on : IsFoundOn form keeps states scanned homes) (format : Format)
    (known : version_of format ≡ scanned.version) (n : ℕ) (counted : n ≡ length scanned.records.items) where
  abbrev named : Format
  named = on.scan.format

  abbrev found : List Frame
  found = on.scan.frames

  abbrev records : List R
  records = scanned.records.items

  abbrev told : Shape
  told = record { format = format; width = scanned.width }

  abbrev tally : Tally
  tally = record { size = n; changes = scanned.changes; folded = scanned.folded }

  abbrev file : Shape
  file = shape_of named form

  shape_same : told ≡ file
  shape_same =
      ap (λ f. record { format = f; width = scanned.width })
      (same_format format named scanned.version known on.scan.version_is)
      ∙ ap (λ w. record { format = named; width = w }) on.scan.width_is

  tally_same : tally ≡ tally_of found
  tally_same = same_tally (tally_of found) n scanned.changes scanned.folded (counted ∙ on.scan.vector.read.size) on.scan.changes_are on.scan.folded_is

  abbrev more : keeps → List ℕ
  more model = (on.on_disk model).0

  seen_same : (model : keeps) → bytes_of states ≡ on.image ++ more model
  seen_same model = ap (λ s. s.seen) (on.on_disk model).1

  typed_vector : (model : keeps) → HasVector named form (bytes_of states) found records
  typed_vector model =
      subst (λ (bs : List ℕ). HasVector named form bs found records) (sym (seen_same model))
      (HasVector_more named form on.image (more model) found records on.scan.vector)

  pub found_known : (1 ≤ form.width) × (form.width < 2 ^ 16) → IsKnownFile keeps states told scanned.gate tally homes
  found_known wide =
      let size = ap length on.scan.vector.framed.closed.3 ∙ length-append (text file found) (on.scan.vector.framed.closed.0 ∷ on.scan.vector.framed.closed.1) in
      subst (λ s. IsKnownFile keeps states s scanned.gate tally homes) (sym shape_same) (record {
        frames = found;
        wide = wide;
        legal = on.scan.vector.framed.legal;
        gate_is = on.scan.gate_is;
        gate_fits = omega (arith, on.scan.gate_is, on.short, size);
        tally_is = tally_same;
        homes_are = on.homes_are;
        framed = λ model. (typed_vector model).framed;
        on_disk = λ model. (on.on_disk model).1 ∙ ap settled (sym (seen_same model));
      })

  -- any pen that counts so, and sees the file so, has opened it
  pub found_opened : {D : Type 0} (pen : PenOf D) → WritesBack form → keeps → pen.shape ≡ told → pen.gate ≡ scanned.gate → pen.tally ≡ tally
      → ((frames : List Frame) (cells : List (List ℕ)) → HasVector format (raw scanned.width) (bytes_of states) frames cells → (pen.frames ≡ all_blanked frames) × (pen.vector ≡ cells))
      → IsOpened form (bytes_of states) pen records
  found_opened pen back model same gate_same tally_is seen =
      let raw_read : HasVector named (raw form.width) (bytes_of states) found (map form.bytes_of records)
      = subst (λ (bs : List ℕ). HasVector named (raw form.width) bs found (map form.bytes_of records)) (sym (seen_same model))
      (read_raw named form on.image (more model) found records back on.fits on.scan.vector) in
      let here = seen found (map form.bytes_of records)
      (subst (λ s. HasVector s.format (raw s.width) (bytes_of states) found (map form.bytes_of records)) (sym shape_same) raw_read) in
      record {
        format = named;
        found = found;
        vector = typed_vector model;
        shape_is = same ∙ shape_same;
        frames_are = here.0;
        cells_are =
            AreCellsOf_read form pen.vector records here.1
            (subst (λ cells. AreReadAs form cells records) (sym here.1)
            (AreReadAs_same named form (bytes_of states) found (map form.bytes_of records) records raw_read.read (typed_vector model).read));
        tally_is = tally_is ∙ tally_same;
        gate_is = gate_same ∙ on.scan.gate_is;
      }
