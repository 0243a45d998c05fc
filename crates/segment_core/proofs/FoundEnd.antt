-- The live changes laid over: the vector that the frames say, or its first bad record.
use Rattle.std.proofs.Common.{◌≡◌, ℕ, ◌<◌, List, [], ◌++◌, length, take, drop, Option, Some, None, refl, sym, ap, subst, ◌∙◌, arith}
use Rattle.std.specs.Prelude.{slice_get, MatchOption, IsSome}
use Rattle.std.specs.List.{AllByRecursion}
use Rattle.std.specs.Option.{option_or, option_and_then}
use Rattle.std.proofs.lemmas.List.{append-nil, drop_all, take_all}
use Rattle.record_core.specs.Bytes.{Encoding}
use Rattle.segment_core.specs.declared.fault.ScanFault.{ScanFault}
use Rattle.segment_core.specs.declared.format.Format.{Format}
use Rattle.segment_core.specs.declared.format.Shape.{Shape}
use Rattle.segment_core.specs.declared.found.Found.{Found}
use Rattle.segment_core.specs.declared.notes.Notes.{Notes}
use Rattle.segment_core.specs.Shape.{shape_of}
use Rattle.segment_core.specs.Frame.{Frame, text}
use Rattle.segment_core.specs.Tally.{tally_of}
use Rattle.segment_core.specs.Vector.{record_in, place_of, home_of, IsVectorOf}
use Rattle.segment_core.specs.Fault.{IsBadRecord}
use Rattle.segment_core.specs.Reading.{Seen}
use Rattle.segment_core.specs.Notes.{noted}
use Rattle.segment_core.specs.Found.{IsDecoded, IsLaidAt, AreLaid, live_among, live_of, changes_of, IsInside, HasHome, IsFound, IsLeastNoted}
use Rattle.segment_core.proofs.FoundChanges.{AreStanding, all_drop, change_of_live, changes_stand, changes_shaped}
use Rattle.segment_core.proofs.LastFrom.{place_is}
use Rattle.segment_core.proofs.FoundKept.{has_home_more}

pub place_live : (shape : Shape) (frames : List Frame) (i : ℕ) → place_of shape frames i ≡ option_or (live_among shape.width (live_of shape frames) i) (home_of shape frames i)
place_live shape frames i = place_is shape frames i ∙ ap (λ o. option_or o (home_of shape frames i)) (change_of_live shape (tally_of frames).folded frames i)

-- ---- one position

-- what is held of a position whose bytes are at a place of the image
record IsHeld {R : Type 0} (form : Encoding R) (image : List ℕ) (place : Option ℕ) (held : Option R) (told : Option ℕ) : Type 0 where
  at : ℕ
  is : place ≡ Some at
  decoded : IsDecoded form image at held told

held_after : {R : Type 0} (form : Encoding R) (image : List ℕ) (live home : Option ℕ) (held before : Option R)
    (told told_before : Option ℕ)
    → HasHome form image home before told_before → IsLaidAt form image live held before told told_before
    → IsHeld form image (option_or live home) held told
held_after {R} form image None home held before told told_before has laid = record {
  at = has.0;
  is = has.1;
  decoded = subst (λ (h : Option R). IsDecoded form image has.0 h told) (sym laid.0) (subst (λ (o : Option ℕ). IsDecoded form image has.0 before o) (sym laid.1) has.3);
}
held_after form image (Some q) home held before told told_before has laid = record { at = q; is = refl; decoded = laid }

good : {R : Type 0} (read held : Option R) (told : Option ℕ) (q : ℕ)
    → MatchOption read (told ≡ Some q) (λ r. (held ≡ Some r) × (told ≡ None)) → told ≡ None
    → (read ≡ held) × IsSome read
good None held told q decoded none = let clash : Some q ≡ None = sym decoded ∙ none in absurd cc
good (Some r) held told q decoded none = (sym decoded.0, refl)

bad : {R : Type 0} (read held : Option R) (told : Option ℕ) (q place : ℕ)
    → MatchOption read (told ≡ Some q) (λ r. (held ≡ Some r) × (told ≡ None)) → told ≡ Some place
    → (read ≡ None) × (q ≡ place)
bad None held told q place decoded some = let same : Some q ≡ Some place = sym decoded ∙ some in (refl, cc)
bad (Some r) held told q place decoded some = let clash : Some place ≡ None = sym some ∙ decoded.1 in absurd cc

-- ---- all positions

held_all : {R : Type 0} (form : Encoding R) (format : Format) (frames : List Frame) (image rest : List ℕ)
    (found : Found R) (new : List R) (told : Notes)
    → IsFound form format frames found → image ≡ text (shape_of format form) frames ++ rest
    → length new ≡ length found.records.items
    → AreLaid form found.live.items found.records.items found.notes new told
    → (i : ℕ) → i < length new
    → IsHeld form image (place_of (shape_of format form) frames i) (slice_get new i) (noted told i)
held_all form format frames image rest found new told is begins same laid i lt =
    let shape : Shape = shape_of format form in
    let size = is.size_is in
    let standing : AreStanding image found.live.items
    = subst (AreStanding image) (sym is.live_is) (all_drop _ (tally_of frames).folded (changes_of shape frames) (changes_stand shape image rest frames begins)) in
    let here =
    subst
    (λ (cs : List Seen). IsLaidAt form image (live_among form.width cs i) (slice_get new i) (slice_get found.records.items i) (noted told i) (noted found.notes i))
    is.live_is (laid image standing i lt) in
    let has =
    subst
    (λ (bs : List ℕ). HasHome form bs (home_of shape frames i) (slice_get found.records.items i) (noted found.notes i))
    (sym begins)
    (has_home_more form (text shape frames) rest (home_of shape frames i) (slice_get found.records.items i) (noted found.notes i) (is.each i (omega arith))) in
    subst (λ (o : Option ℕ). IsHeld form image o (slice_get new i) (noted told i)) (sym (place_live shape frames i))
    (held_after form image (live_among form.width (live_of shape frames) i) (home_of shape frames i) (slice_get new i) (slice_get found.records.items i) (noted told i) (noted found.notes i) has here)

pub vector_found : {R : Type 0} (form : Encoding R) (format : Format) (frames : List Frame) (image rest : List ℕ)
    (found : Found R) (new : List R) (told : Notes)
    → IsFound form format frames found → image ≡ text (shape_of format form) frames ++ rest
    → length new ≡ length found.records.items
    → AreLaid form found.live.items found.records.items found.notes new told → ((i : ℕ) → i < length new → noted told i ≡ None) → IsVectorOf format form image frames new
vector_found form format frames image rest found new told is begins same laid none = record {
  size = same ∙ is.size_is;
  each = λ i lt. (
      let held = held_all form format frames image rest found new told is begins same laid i lt in
      ap (option_and_then (record_in form image)) held.is ∙ (good (record_in form image held.at) (slice_get new i) (noted told i) held.at held.decoded (none i lt)).0);
}

pub first_bad_found : {R : Type 0} (form : Encoding R) (format : Format) (frames : List Frame) (image rest : List ℕ)
    (found : Found R) (new : List R) (told : Notes) (fault : ScanFault)
    → IsFound form format frames found → image ≡ text (shape_of format form) frames ++ rest
    → length new ≡ length found.records.items
    → AreLaid form found.live.items found.records.items found.notes new told → IsLeastNoted (length new) told fault → IsBadRecord format form image frames fault
first_bad_found form format frames image rest found new told fault is begins same laid least =
    let i : ℕ = least.0 in
    let place : ℕ = least.1 in
    let lt = least.2 in
    let size = is.size_is in
    let held = held_all form format frames image rest found new told is begins same laid i lt in
    let no = bad (record_in form image held.at) (slice_get new i) (noted told i) held.at place held.decoded least.3 in (
      i,
      place,
      record {
        inside = omega arith;
        bad = ap (option_and_then (record_in form image)) held.is ∙ no.0;
        before = λ k below. (
            let other = held_all form format frames image rest found new told is begins same laid k (omega arith) in
            subst IsSome (sym (ap (option_and_then (record_in form image)) other.is))
            (good (record_in form image other.at) (slice_get new k) (noted told k) other.at other.decoded (least.4 k below)).1);
      },
      held.is ∙ ap Some no.1,
      least.5,
    )

-- ---- what laying asks for

pub live_wide : {R : Type 0} (form : Encoding R) (format : Format) (frames : List Frame) (found : Found R)
    → IsFound form format frames found
    → AllByRecursion (λ change. change.shape.width ≡ form.width) found.live.items
live_wide form format frames found is =
    let shape : Shape = shape_of format form in
    subst (AllByRecursion (λ change. change.shape.width ≡ form.width)) (sym is.live_is)
    (all_drop (λ change. change.shape.width ≡ form.width) (tally_of frames).folded (changes_of shape frames) (changes_shaped shape frames))

pub live_inside : {R : Type 0} (form : Encoding R) (format : Format) (frames : List Frame) (found : Found R)
    → IsFound form format frames found
    → AllByRecursion (IsInside (length found.records.items)) found.live.items
live_inside form format frames found is = subst (λ n. AllByRecursion (IsInside n) found.live.items) (sym is.size_is) is.inside

-- ---- records that were lent and came back

pub came_back : {X : Type 0} (n : ℕ) (new old : List X) → n ≡ length old → length new ≡ length old → take n (new ++ drop (length new) old) ≡ new
came_back n new old is same =
    let none : drop (length new) old ≡ [] = drop_all (length new) old (omega arith) in
    ap (λ rest. take n (new ++ rest)) none ∙ ap (take n) (append-nil new) ∙ take_all n new (omega arith)
