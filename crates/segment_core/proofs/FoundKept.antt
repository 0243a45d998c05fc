-- What a frame more leaves of what was found: bytes behind it don't matter, and positions that stay keep their records.
use Rattle.std.proofs.Common.{◌≡◌, ℕ, zero, suc, ◌+◌, ◌*◌, ◌^◌, ◌≤◌, ◌<◌, true, false, List, [], ◌∷◌, ◌++◌, length, take, drop, Option, Some, None, refl, sym, ap, subst, ◌∙◌, arith}
use Rattle.std.specs.Prelude.{slice_get, MatchOption}
use Rattle.std.specs.Option.{option_or}
use Rattle.std.proofs.lemmas.Bool.{not-false, ltb-false, leb-true, le-leb, and_parts}
use Rattle.std.proofs.lemmas.List.{length-append}
use Rattle.record_core.specs.Bytes.{Encoding}
use Rattle.record_core.specs.Limits.{record_limit}
use Rattle.segment_core.specs.declared.format.Format.{Format}
use Rattle.segment_core.specs.declared.format.Shape.{Shape}
use Rattle.segment_core.specs.declared.found.Found.{Found}
use Rattle.segment_core.specs.declared.found.Home.{Home}
use Rattle.segment_core.specs.declared.tally.Tally.{Tally}
use Rattle.segment_core.specs.Shape.{shape_of}
use Rattle.segment_core.specs.Frame.{Run, Frame, Group, Change, Shrink, Fold, kind_of, frame_text, text}
use Rattle.segment_core.specs.Tally.{after, tally_of, are_inside, is_outside, is_too_long}
use Rattle.segment_core.specs.Vector.{place_among, home_in, home_of}
use Rattle.segment_core.specs.Reading.{runs_of, record_count, head_len}
use Rattle.segment_core.specs.Notes.{noted}
use Rattle.segment_core.specs.Found.{home_among, AreInTurn, AreHomes, changes_in, HasHome, IsFound, IsSame}
use Rattle.segment_core.proofs.Push.{text_push}
use Rattle.segment_core.proofs.LastFrom.{home_push}

-- ---- bytes behind don't matter

pub take_front : (n : ℕ) (xs ys : List ℕ) → n ≤ length xs → take n (xs ++ ys) ≡ take n xs
take_front zero xs ys le = refl
take_front (suc n) [] ys le = absurd (omega arith)
take_front (suc n) (x ∷ xs) ys le = ap (λ rest. x ∷ rest) (take_front n xs ys (omega arith))

pub take_inside : (n q : ℕ) (xs ys : List ℕ) → q + n ≤ length xs → take n (drop q (xs ++ ys)) ≡ take n (drop q xs)
take_inside n zero xs ys le = take_front n xs ys (omega arith)
take_inside n (suc q) [] ys le = let none : n ≡ 0 = omega arith in ap (λ m. take m (drop (suc q) ys)) none ∙ sym (ap (λ m. take m (drop {A = ℕ} (suc q) [])) none)
take_inside n (suc q) (x ∷ xs) ys le = take_inside n q xs ys (omega arith)

pub has_home_more : {R : Type 0} (form : Encoding R) (bytes more : List ℕ) (home : Option ℕ) (held : Option R)
    (told : Option ℕ)
    → HasHome form bytes home held told
    → HasHome form (bytes ++ more) home held told
has_home_more {R} form bytes more home held told has =
    let within = has.2 in
    let len = length-append bytes more in (
      has.0,
      has.1,
      omega arith,
      subst (λ (o : Option R). MatchOption o (told ≡ Some has.0) (λ r. (held ≡ Some r) × (told ≡ None))) (sym (ap form.value_of (take_inside form.width has.0 bytes more within))) has.3,
    )

pub has_home_as : {R : Type 0} (form : Encoding R) (bytes later : List ℕ) (home other : Option ℕ) (held still : Option R)
    (told same : Option ℕ)
    → later ≡ bytes → other ≡ home → still ≡ held → same ≡ told → HasHome form bytes home held told
    → HasHome form later other still same
has_home_as {R} form bytes later home other held still told same a b c d has =
    subst (λ (bs : List ℕ). HasHome form bs other still same) (sym a)
    (subst (λ (o : Option ℕ). HasHome form bytes o still same) (sym b)
    (subst (λ (h : Option R). HasHome form bytes home h same) (sym c)
    (subst (λ (o : Option ℕ). HasHome form bytes home held o) (sym d) has)))

-- ---- what each kind does

pub after_group : (t : Tally) (f : Frame) → kind_of f ≡ 1 → after t f ≡ record { size = t.size + record_count f; changes = t.changes; folded = t.folded }
after_group t (Group lengths bytes) kind = refl
after_group t (Change runs bytes) kind = absurd (omega (arith, kind))
after_group t (Shrink n) kind = absurd (omega (arith, kind))
after_group t (Fold count) kind = absurd (omega (arith, kind))

pub home_in_group : (format : Format) (width i p : ℕ) (t : Tally) (f : Frame) → kind_of f ≡ 1 → home_in width i p t f ≡ place_among width (p + 6 + head_len format f) t.size (record_count f) i
home_in_group format width i p t (Group lengths bytes) kind =
    let at : p + 10 + length lengths * 4 ≡ p + 6 + (4 + length lengths * 4) = omega arith in
    ap (λ n. place_among width n t.size (record_count (Group lengths bytes)) i) at
home_in_group format width i p t (Change runs bytes) kind = absurd (omega (arith, kind))
home_in_group format width i p t (Shrink n) kind = absurd (omega (arith, kind))
home_in_group format width i p t (Fold count) kind = absurd (omega (arith, kind))

pub changes_in_group : (shape : Shape) (p : ℕ) (f : Frame) → kind_of f ≡ 1 → changes_in shape p f ≡ []
changes_in_group shape p (Group lengths bytes) kind = refl
changes_in_group shape p (Change runs bytes) kind = absurd (omega (arith, kind))
changes_in_group shape p (Shrink n) kind = absurd (omega (arith, kind))
changes_in_group shape p (Fold count) kind = absurd (omega (arith, kind))

pub group_fits : (t : Tally) (f : Frame) → kind_of f ≡ 1 → is_too_long t f ≡ false → t.size + record_count f ≤ 2 ^ 32
group_fits t (Group lengths bytes) kind short = ltb-false (2 ^ 32) (t.size + record_count (Group lengths bytes)) short
group_fits t (Change runs bytes) kind short = absurd (omega (arith, kind))
group_fits t (Shrink n) kind short = absurd (omega (arith, kind))
group_fits t (Fold count) kind short = absurd (omega (arith, kind))

-- no other kind has home bytes
pub no_home : (width i p : ℕ) (t : Tally) (f : Frame) → 1 < kind_of f → home_in width i p t f ≡ None
no_home width i p t (Group lengths bytes) kind = absurd (omega (arith, kind))
no_home width i p t (Change runs bytes) kind = refl
no_home width i p t (Shrink n) kind = refl
no_home width i p t (Fold count) kind = refl

pub after_change : (t : Tally) (f : Frame) → kind_of f ≡ 2 → after t f ≡ record { size = t.size; changes = t.changes + 1; folded = t.folded }
after_change t (Group lengths bytes) kind = absurd (omega (arith, kind))
after_change t (Change runs bytes) kind = refl
after_change t (Shrink n) kind = absurd (omega (arith, kind))
after_change t (Fold count) kind = absurd (omega (arith, kind))

pub changes_in_change : (shape : Shape) (p : ℕ) (f : Frame) → kind_of f ≡ 2 → changes_in shape p f ≡ record { at = p; shape = shape; frame = f } ∷ []
changes_in_change shape p (Group lengths bytes) kind = absurd (omega (arith, kind))
changes_in_change shape p (Change runs bytes) kind = refl
changes_in_change shape p (Shrink n) kind = absurd (omega (arith, kind))
changes_in_change shape p (Fold count) kind = absurd (omega (arith, kind))

pub change_inside : (t : Tally) (f : Frame) → kind_of f ≡ 2 → is_outside t f ≡ false → are_inside t.size (runs_of f) ≡ true
change_inside t (Group lengths bytes) kind inside = absurd (omega (arith, kind))
change_inside t (Change runs bytes) kind inside = not-false (are_inside t.size runs) inside
change_inside t (Shrink n) kind inside = absurd (omega (arith, kind))
change_inside t (Fold count) kind inside = absurd (omega (arith, kind))

pub inside_longer : (size more : ℕ) (runs : List Run) → size ≤ more → are_inside size runs ≡ true → are_inside more runs ≡ true
inside_longer size more [] le inside = refl
inside_longer size more (run ∷ runs) le inside =
    let parts = and_parts _ (are_inside size runs) inside in
    let end = leb-true (run.start + run.count) size parts.0 in
    rw (le-leb (run.start + run.count) more (omega arith)) (inside_longer size more runs le parts.1)

-- ---- positions that stay

pub kept : {R : Type 0} (form : Encoding R) (format : Format) (frames : List Frame) (f : Frame) (old new : Found R)
    (i : ℕ)
    → home_in form.width i (length (text (shape_of format form) frames)) (tally_of frames) f ≡ None
    → slice_get new.records.items i ≡ slice_get old.records.items i → noted new.notes i ≡ noted old.notes i
    → HasHome form (text (shape_of format form) frames) (home_of (shape_of format form) frames i) (slice_get old.records.items i) (noted old.notes i)
    → HasHome form (text (shape_of format form) (frames ++ f ∷ [])) (home_of (shape_of format form) (frames ++ f ∷ []) i) (slice_get new.records.items i) (noted new.notes i)
kept form format frames f old new i none same told has =
    let shape : Shape = shape_of format form in
    has_home_as form (text shape frames ++ frame_text format f) (text shape (frames ++ f ∷ []))
    (home_of shape frames i) (home_of shape (frames ++ f ∷ []) i) (slice_get old.records.items i)
    (slice_get new.records.items i) (noted old.notes i) (noted new.notes i)
    (text_push shape frames f) (home_push shape frames f i ∙ ap (λ o. option_or o (home_of shape frames i)) none) same told
    (has_home_more form (text shape frames) (frame_text format f) (home_of shape frames i) (slice_get old.records.items i) (noted old.notes i) has)

pub homes_kept : (shape : Shape) (frames : List Frame) (f : Frame) (homes later : List Home)
    → 1 < kind_of f → (tally_of (frames ++ f ∷ [])).size ≤ (tally_of frames).size
    → AreHomes shape frames homes
    → AreInTurn 0 later (tally_of (frames ++ f ∷ [])).size
    → ((i : ℕ) → i < (tally_of (frames ++ f ∷ [])).size → home_among shape.width later i ≡ home_among shape.width homes i)
    → AreHomes shape (frames ++ f ∷ []) later
homes_kept shape frames f homes later kind shorter has turn same = record {
  in_turn = turn;
  each = λ i lt. (
      same i lt ∙ has.each i (omega arith)
      ∙ sym (home_push shape frames f i ∙ ap (λ o. option_or o (home_of shape frames i)) (no_home shape.width i (length (text shape frames)) (tally_of frames) f kind)));
}

pub same_shape : {R : Type 0} (form : Encoding R) (shape : Shape) → shape.width ≡ form.width → shape ≡ shape_of shape.format form
same_shape form shape wide = ap (λ w. record { format = shape.format; width = w }) wide

-- what is found of the positions where a frame leaves them as they were
pub record StayFound {R : Type 0} (form : Encoding R) (format : Format) (frames : List Frame) (f : Frame) (new : Found R) : Type 0 where
  pub size_is : length new.records.items ≡ (tally_of (frames ++ f ∷ [])).size
  pub small : (tally_of (frames ++ f ∷ [])).size ≤ record_limit
  pub each : (i : ℕ) → i < (tally_of (frames ++ f ∷ [])).size
      → HasHome form (text (shape_of format form) (frames ++ f ∷ [])) (home_of (shape_of format form) (frames ++ f ∷ []) i) (slice_get new.records.items i) (noted new.notes i)
  pub homes : AreHomes (shape_of format form) (frames ++ f ∷ []) new.homes.items

pub stay_found : {R : Type 0} (form : Encoding R) (format : Format) (frames : List Frame) (f : Frame) (old new : Found R)
    → 1 < kind_of f → IsFound form format frames old → IsSame old new
    → (tally_of (frames ++ f ∷ [])).size ≡ (tally_of frames).size
    → StayFound form format frames f new
stay_found form format frames f old new kind behind same size =
    let shape : Shape = shape_of format form in
    record {
      size_is = ap length same.records_are ∙ behind.size_is ∙ sym size;
      small = let small = behind.small in omega arith;
      each = λ i lt.
          kept form format frames f old new i (no_home form.width i (length (text shape frames)) (tally_of frames) f kind)
          (ap (λ rs. slice_get rs i) same.records_are) (same.notes_are i) (behind.each i (omega arith));
      homes = homes_kept shape frames f old.homes.items new.homes.items kind (omega arith) behind.homes
          (subst (λ (hs : List Home). AreInTurn 0 hs (tally_of (frames ++ f ∷ [])).size) (sym same.homes_are) (subst (AreInTurn 0 old.homes.items) (sym size) behind.homes.in_turn))
          (λ i lt. ap (λ (hs : List Home). home_among shape.width hs i) same.homes_are);
    }
