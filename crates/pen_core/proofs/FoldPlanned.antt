-- The writes that a fold plans: of records as their bytes, and below the gate, whatever its disk.
use Rattle.std.proofs.Common.{◌≡◌, ℕ, ◌-◌, ◌<◌, List, [], ◌∷◌, length, map, take, drop, All, refl, sym, ap, subst, ◌∙◌, arith}
use Rattle.std.specs.List.{flat_map, AllByRecursion}
use Rattle.std.proofs.lemmas.List.{drop-map, take-map, length-drop, length-map, length-take-le}
use Rattle.std.proofs.lemmas.List.Folds.{flat_map-map}
use Rattle.std.proofs.lemmas.List.Elements.{All-nil, All-cons, All-head, All-tail}
use Rattle.record_core.specs.Bytes.{Encoding}
use Rattle.segment_core.specs.declared.format.Shape.{Shape}
use Rattle.segment_core.specs.declared.found.Home.{Home}
use Rattle.segment_core.specs.Frame.{Frame}
use Rattle.segment_core.specs.Raw.{raw}
use Rattle.segment_core.specs.Tally.{tally_of, AreLegal}
use Rattle.pen_core.specs.declared.fold.Write.{Write}
use Rattle.pen_core.specs.Held.{gate_of}
use Rattle.pen_core.specs.HomeRuns.{AreHomeRuns}
use Rattle.pen_core.specs.InHand.{write_of, IsPlanned}
use Rattle.pen_core.specs.Values.{bytes_at, write_for, writes_for}
use Rattle.pen_core.proofs.FoldBegun.{all_placed}
use Rattle.pen_core.proofs.HomeRows.{HasWidth, SaysHomes, HasPlace}
use Rattle.pen_core.proofs.WritesFor.{Within}

-- ---- records, and their bytes

-- records are written as their bytes are
bytes_at-raw : {R : Type 0} (form : Encoding R) (width : ℕ) (records : List R) (from count : ℕ)
    → bytes_at form records from count ≡ bytes_at (raw width) (map form.bytes_of records) from count
bytes_at-raw form width records from count =
    sym (ap (λ cells. bytes_at (raw width) cells 0 count) (drop-map form.bytes_of from records)
    ∙ ap (flat_map (raw width).bytes_of) (take-map form.bytes_of count (drop from records))
    ∙ flat_map-map (raw width).bytes_of form.bytes_of (take count (drop from records)))

pub writes_for-raw : {R : Type 0} (form : Encoding R) (width : ℕ) (records : List R) (runs : List Home)
    → writes_for form records runs ≡ writes_for (raw width) (map form.bytes_of records) runs
writes_for-raw form width records [] = refl
writes_for-raw form width records (run ∷ runs) =
    ap (λ bs. record { place = run.place; bytes = bs } ∷ writes_for form records runs) (bytes_at-raw form width records run.position run.count)
    ∙ ap (λ ws. write_for (raw width) (map form.bytes_of records) run ∷ ws) (writes_for-raw form width records runs)

written_wide : {R : Type 0} (form : Encoding R) (width : ℕ) (records : List R) → ((r : R) → length (form.bytes_of r) ≡ width)
    → All (HasWidth width) (map form.bytes_of records)
written_wide form width [] each = All-nil (HasWidth width)
written_wide form width (r ∷ records) each =
    All-cons (HasWidth width) (form.bytes_of r) (map form.bytes_of records) (each r) (written_wide form width records each)

-- ---- plans

all_planned : (gate : ℕ) (bytes : List ℕ) (writes : List Write) → All (Within (length bytes)) writes
    → AllByRecursion (HasPlace gate) (map (write_of bytes) writes) → AllByRecursion (IsPlanned gate (length bytes)) writes
all_planned gate bytes [] within placed = tt
all_planned gate bytes (write ∷ writes) within placed =
    let inside = All-head (Within (length bytes)) write writes within in
    let count = length-take-le (write.to - write.from) (drop write.from bytes) (omega (arith, inside.0, inside.1, length-drop write.from bytes)) in
    let some = placed.0.some in
    let below = placed.0.below in (
      record { some = omega arith; inside = inside.1; below_gate = omega arith },
      all_planned gate bytes writes (All-tail (Within (length bytes)) write writes within) placed.1,
    )

pub ArePlanned-begun : {R : Type 0} (form : Encoding R) (shape : Shape) (frames : List Frame) (homes : List Home)
    (cover : List (ℕ × ℕ)) (runs : List Home) (records : List R) (bytes : List ℕ) (writes : List Write)
    → 0 < shape.width → ((r : R) → length (form.bytes_of r) ≡ shape.width) → AreLegal shape frames
    → SaysHomes shape frames homes → AreHomeRuns shape.width (tally_of frames).size homes cover runs
    → length records ≡ (tally_of frames).size
    → map (write_of bytes) writes ≡ writes_for form records runs → All (Within (length bytes)) writes
    → AllByRecursion (IsPlanned (gate_of shape frames) (length bytes)) writes
ArePlanned-begun form shape frames homes cover runs records bytes writes some each legal says at size made within =
    all_planned (gate_of shape frames) bytes writes within
    (subst (AllByRecursion (HasPlace (gate_of shape frames))) (sym (made ∙ writes_for-raw form shape.width records runs))
    (all_placed shape frames (map form.bytes_of records) legal (written_wide form shape.width records each)
    (length-map records form.bytes_of ∙ size) homes cover runs some says at))
