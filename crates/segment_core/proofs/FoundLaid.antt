-- Records laid over records: one position more, one run more, one change more.
use Rattle.std.proofs.Common.{◌≡◌, ◌≢◌, ℕ, zero, suc, ◌+◌, ◌-◌, ◌*◌, ◌≤◌, ◌<◌, Bool, true, List, [], ◌∷◌, ◌++◌, length, take, drop, Option, Some, None, refl, sym, ap, subst, ◌∙◌, arith, inl, inr}
use Rattle.std.specs.Prelude.{nat_le, slice_get, MatchOption}
use Rattle.std.specs.List.{list_all}
use Rattle.std.specs.Option.{option_or}
use Rattle.std.proofs.lemmas.Bool.{cases_lt, and_parts, leb-true}
use Rattle.std.proofs.Common.{get_or}
use Rattle.std.proofs.Math.ListN.{set}
use Rattle.std.proofs.lemmas.List.{length-take-le, length-drop, length-set, length_push, take_more, drop-take, take-take, drop-drop, get_or-set_same, get_or-set_other}
use Rattle.std.proofs.lemmas.Nat.{mul-le}
use Rattle.std.proofs.lemmas.Option.{slice_get-get_or, slice_get_within, get_or_from_slice_get}
use Rattle.record_core.proofs.Cells.{slice_get-append_left, slice_get_push}
use Rattle.record_core.specs.Bytes.{Encoding}
use Rattle.segment_core.specs.declared.notes.Notes.{Notes}
use Rattle.segment_core.specs.Frame.{Run, Frame, Group, Change, Shrink, Fold, records_of_runs}
use Rattle.segment_core.specs.Tally.{are_inside}
use Rattle.segment_core.specs.Reading.{Seen, runs_of, record_count}
use Rattle.segment_core.specs.Vector.{place_among, place_in_runs, record_in}
use Rattle.segment_core.specs.Notes.{noted}
use Rattle.segment_core.specs.Found.{StandsAt, IsDecoded, IsLaidAt, IsLaid}
use Rattle.segment_core.proofs.RunRows.{records_of_runs_push}
use Rattle.segment_core.proofs.FrameParts.{records_of_runs-cons}
use Rattle.segment_core.proofs.PlaceAmong.{place_among_inside, place_among_below, place_among_past}
use Rattle.segment_core.proofs.LastFrom.{option_or_assoc, option_or_none}

-- ---- the place of a position among consecutive ones

pub place_among_none : (width p start i : ℕ) → place_among width p start 0 i ≡ None
place_among_none width p start i = elim (cases_lt i start) [
  | inl below ↦ place_among_below width p start 0 i below
  | inr past ↦ place_among_past width p start 0 i (omega arith)
]

pub place_among_last : (width p start k i : ℕ) → i ≡ start + k → place_among width p start (k + 1) i ≡ Some (p + k * width)
place_among_last width p start k i is =
    let index : i - start ≡ k = omega arith in
    place_among_inside width p start (k + 1) i (omega arith) (omega arith) ∙ ap (λ n. Some (p + n * width)) index

-- positions but the last of more are told by fewer
pub place_among_other : (width p start k i : ℕ) → i ≢ start + k → place_among width p start (k + 1) i ≡ place_among width p start k i
place_among_other width p start k i other = elim (cases_lt i start) [
  | inl below ↦ place_among_below width p start (k + 1) i below ∙ sym (place_among_below width p start k i below)
  | inr from ↦ elim (cases_lt i (start + k)) [
    | inl inside ↦ place_among_inside width p start (k + 1) i from (omega arith) ∙ sym (place_among_inside width p start k i from inside)
    | inr past ↦ place_among_past width p start (k + 1) i (omega arith) ∙ sym (place_among_past width p start k i past)
  ]
]

-- ---- bytes that stand in an image

pub stands_part : (image : List ℕ) (place : ℕ) (area : List ℕ) (a n : ℕ) → StandsAt image place area → a + n ≤ length area → StandsAt image (place + a) (take n (drop a area))
stands_part image place area a n stands within =
    let rest : ℕ = length area - (a + n) in
    let parts : length area ≡ a + (n + rest) = omega arith in
    let is : take n (drop a area) ≡ take n (drop (place + a) image) =
    ap (λ (bs : List ℕ). take n (drop a bs)) (sym stands)
    ∙ ap (λ m. take n (drop a (take m (drop place image)))) parts
    ∙ ap (take n) (drop-take a (n + rest) (drop place image))
    ∙ take-take n (n + rest) (drop a (drop place image)) (omega arith)
    ∙ ap (take n) (drop-drop a place image) in
    let left = length-drop a area in
    let len : length (take n (drop a area)) ≡ n = length-take-le n (drop a area) (omega arith) in
    ap (λ m. take m (drop (place + a) image)) len ∙ sym is

-- ---- one position more

laid_at_same : {R : Type 0} (form : Encoding R) (image : List ℕ) (place : Option ℕ) (held later before : Option R)
    (seen seen_later seen_before : Option ℕ)
    → later ≡ held
    → seen_later ≡ seen
    → IsLaidAt form image place held before seen seen_before → IsLaidAt form image place later before seen_later seen_before
laid_at_same {R} form image place held later before seen seen_later seen_before is is_note laid =
    subst (λ (h : Option R). IsLaidAt form image place h before seen_later seen_before) (sym is)
    (subst (λ (n : Option ℕ). IsLaidAt form image place held before n seen_before) (sym is_note) laid)

pub laid_nothing : {R : Type 0} (form : Encoding R) (image : List ℕ) (says : ℕ → Option ℕ) (records : List R)
    (notes : Notes)
    → ((i : ℕ) → says i ≡ None)
    → IsLaid form image says records notes records notes
laid_nothing form image says records notes none i lt =
    subst (λ (o : Option ℕ). IsLaidAt form image o (slice_get records i) (slice_get records i) (noted notes i) (noted notes i)) (sym (none i)) (refl, refl)

pub laid_more :
    {R : Type 0} (form : Encoding R) (image : List ℕ) (place start k : ℕ) (old : List R) (old_notes : Notes)
    (mid : List R) (mid_notes : Notes) (new : List R) (new_notes : Notes) (r : R)
    → IsLaid form image (place_among form.width place start k) old old_notes mid mid_notes
    → IsDecoded form image (place + k * form.width) (Some r) (noted new_notes (start + k))
    → ((q : ℕ) → q ≢ start + k → noted new_notes q ≡ noted mid_notes q)
    → slice_get new (start + k) ≡ Some r
    → ((i : ℕ) → i < length new → i ≢ start + k → (i < length mid) × (slice_get new i ≡ slice_get mid i))
    → IsLaid form image (place_among form.width place start (k + 1)) old old_notes new new_notes
laid_more {R} form image place start k old old_notes mid mid_notes new new_notes r laid decoded others got kept i lt =
    let other : i ≢ start + k → IsLaidAt form image (place_among form.width place start (k + 1) i) (slice_get new i) (slice_get old i) (noted new_notes i) (noted old_notes i) = λ apart. (
    let same = kept i lt apart in
    subst (λ (o : Option ℕ). IsLaidAt form image o (slice_get new i) (slice_get old i) (noted new_notes i) (noted old_notes i)) (sym (place_among_other form.width place start k i apart))
    (laid_at_same form image (place_among form.width place start k i) (slice_get mid i) (slice_get new i)
    (slice_get old i) (noted mid_notes i) (noted new_notes i) (noted old_notes i) same.1 (others i apart)
    (laid i same.0))) in
    elim (cases_lt i (start + k)) [
      | inl below ↦ other (omega arith)
      | inr from ↦ elim (cases_lt (start + k) i) [
        | inl past ↦ other (omega arith)
        | inr to ↦ (
            let here : i ≡ start + k = omega arith in
            let held : slice_get new i ≡ Some r = ap (slice_get new) here ∙ got in
            let told : noted new_notes i ≡ noted new_notes (start + k) = ap (noted new_notes) here in
            subst (λ (o : Option ℕ). IsLaidAt form image o (slice_get new i) (slice_get old i) (noted new_notes i) (noted old_notes i)) (sym (place_among_last form.width place start k i here))
            (subst (λ (h : Option R). IsDecoded form image (place + k * form.width) h (noted new_notes i)) (sym held)
            (subst (λ (n : Option ℕ). IsDecoded form image (place + k * form.width) (Some r) n) (sym told) decoded)))
      ]
    ]

-- bytes of a record, as the code cuts them out
pub cell_within : (k count w width size : ℕ) → w ≡ width → k < count → size ≡ count * width → k * w + (k * w + w - k * w) ≤ size
cell_within k count w width size is lt filled =
    let more : (k + 1) * width ≤ count * width = mul-le (k + 1) width count width (omega arith) (omega arith) in
    let same : k * w ≡ k * width = ap (λ n. k * n) is in
    omega arith

decoded_as : {R : Type 0} (form : Encoding R) (image : List ℕ) (place k w position at : ℕ) (held : Option R)
    (notes : Notes)
    → w ≡ form.width → position ≡ at → IsDecoded form image (place + k * w) held (noted notes position)
    → IsDecoded form image (place + k * form.width) held (noted notes at)
decoded_as {R} form image place k w position at held notes is here decoded =
    subst (λ n. IsDecoded form image (place + k * n) held (noted notes at)) is (subst (λ n. IsDecoded form image (place + k * w) held (noted notes n)) here decoded)

others_as : (old new : Notes) (position at : ℕ) → position ≡ at → ((q : ℕ) → q ≢ position → noted new q ≡ noted old q) → (q : ℕ) → q ≢ at → noted new q ≡ noted old q
others_as old new position at here others q apart = others q (λ is. apart (is ∙ here))

-- bytes that are a record, at a position of which nothing is noted
pub decoded_whole : {R : Type 0} (form : Encoding R) (image : List ℕ) (place : ℕ) (bytes : List ℕ) (r : R)
    (note : Option ℕ)
    → length bytes ≡ form.width → form.value_of bytes ≡ Some r → StandsAt image place bytes → note ≡ None
    → IsDecoded form image place (Some r) note
decoded_whole {R} form image place bytes r note wide value stands none =
    let is : record_in form image place ≡ Some r = ap (λ n. form.value_of (take n (drop place image))) (sym wide) ∙ ap form.value_of stands ∙ value in
    subst (λ (o : Option R). MatchOption o (note ≡ Some place) (λ held. (Some r ≡ Some held) × (note ≡ None))) (sym is) (refl, none)

-- a record that was pushed
pub laid_push : {R : Type 0} (form : Encoding R) (image : List ℕ) (place start k w position : ℕ) (old : List R)
    (old_notes : Notes) (mid : List R) (mid_notes : Notes) (new : List R) (new_notes : Notes) (r : R)
    → w ≡ form.width → position ≡ start + k → length mid ≡ start + k → new ≡ mid ++ r ∷ []
    → IsLaid form image (place_among form.width place start k) old old_notes mid mid_notes
    → IsDecoded form image (place + k * w) (Some r) (noted new_notes position)
    → ((q : ℕ) → q ≢ position → noted new_notes q ≡ noted mid_notes q)
    → IsLaid form image (place_among form.width place start (k + 1)) old old_notes new new_notes
laid_push form image place start k w position old old_notes mid mid_notes new new_notes r is here len pushed laid decoded others =
    laid_more form image place start k old old_notes mid mid_notes new new_notes r laid
    (decoded_as form image place k w position (start + k) (Some r) new_notes is here decoded)
    (others_as mid_notes new_notes position (start + k) here others)
    (ap (slice_get new) (sym len) ∙ ap (λ rs. slice_get rs (length mid)) pushed ∙ slice_get_push mid r)
    (λ i lt apart. (
    let all = ap length pushed ∙ length_push mid r in
    let below : i < length mid = omega arith in
    (below, ap (λ rs. slice_get rs i) pushed ∙ slice_get-append_left mid (r ∷ []) i below)))

-- a record that was written over another
pub laid_set : {R : Type 0} (form : Encoding R) (image : List ℕ) (place start k w position : ℕ) (old : List R)
    (old_notes : Notes) (mid : List R) (mid_notes : Notes) (new : List R) (new_notes : Notes) (r : R)
    → w ≡ form.width → position ≡ start + k → start + k < length mid → new ≡ set mid (start + k) r
    → IsLaid form image (place_among form.width place start k) old old_notes mid mid_notes
    → IsDecoded form image (place + k * w) (Some r) (noted new_notes position)
    → ((q : ℕ) → q ≢ position → noted new_notes q ≡ noted mid_notes q)
    → IsLaid form image (place_among form.width place start (k + 1)) old old_notes new new_notes
laid_set form image place start k w position old old_notes mid mid_notes new new_notes r is here inside written laid decoded others =
    let len : length new ≡ length mid = ap length written ∙ length-set mid (start + k) r in
    laid_more form image place start k old old_notes mid mid_notes new new_notes r laid
    (decoded_as form image place k w position (start + k) (Some r) new_notes is here decoded)
    (others_as mid_notes new_notes position (start + k) here others)
    (slice_get-get_or new (start + k) r (omega arith) ∙ ap (λ rs. Some (get_or rs (start + k) r)) written ∙ ap Some (get_or-set_same mid (start + k) r r inside))
    (λ i lt apart. (
    let below : i < length mid = omega arith in
    (below, slice_get-get_or new i r lt ∙ ap (λ rs. Some (get_or rs i r)) written ∙ ap Some (get_or-set_other mid (start + k) i r r apart) ∙ sym (slice_get-get_or mid i r below))))

-- ---- one list of places after the other

laid_at_then : {R : Type 0} (form : Encoding R) (image : List ℕ) (later first : Option ℕ) (a b c : Option R) (note_a note_b note_c : Option ℕ)
    → IsLaidAt form image first b a note_b note_a → IsLaidAt form image later c b note_c note_b → IsLaidAt form image (option_or later first) c a note_c note_a
laid_at_then form image None first a b c note_a note_b note_c one two = laid_at_same form image first b c a note_b note_c note_a two.0 two.1 one
laid_at_then form image (Some q) first a b c note_a note_b note_c one two = two

pub laid_then : {R : Type 0} (form : Encoding R) (image : List ℕ) (later first : ℕ → Option ℕ) (a : List R)
    (note_a : Notes) (b : List R) (note_b : Notes) (c : List R) (note_c : Notes)
    → length c ≡ length b
    → IsLaid form image first a note_a b note_b → IsLaid form image later b note_b c note_c → IsLaid form image (λ i. option_or (later i) (first i)) a note_a c note_c
laid_then form image later first a note_a b note_b c note_c same one two i lt =
    laid_at_then form image (later i) (first i) (slice_get a i) (slice_get b i) (slice_get c i) (noted note_a i) (noted note_b i) (noted note_c i) (one i (omega arith)) (two i lt)

pub laid_as : {R : Type 0} (form : Encoding R) (image : List ℕ) (says others : ℕ → Option ℕ) (a : List R) (note_a : Notes) (b : List R) (note_b : Notes) → ((i : ℕ) → others i ≡ says i)
    → IsLaid form image says a note_a b note_b → IsLaid form image others a note_a b note_b
laid_as form image says others a note_a b note_b same laid i lt =
    subst (λ (o : Option ℕ). IsLaidAt form image o (slice_get b i) (slice_get a i) (noted note_b i) (noted note_a i)) (sym (same i)) (laid i lt)

-- ---- one run more

pub records_of_runs-take : (n : ℕ) (runs : List Run) → records_of_runs (take n runs) ≤ records_of_runs runs
records_of_runs-take zero runs = omega arith
records_of_runs-take (suc n) [] = omega arith
records_of_runs-take (suc n) (first ∷ runs) =
    let rest = records_of_runs-take n runs in
    let a = records_of_runs-cons first (take n runs) in
    let b = records_of_runs-cons first runs in
    omega arith

pub runs_fill : (frame : Frame) → records_of_runs (runs_of frame) ≤ record_count frame
runs_fill (Group lengths bytes) = omega arith
runs_fill (Change runs bytes) = omega arith
runs_fill (Shrink n) = omega arith
runs_fill (Fold count) = omega arith

list_all-at : {X : Type 0} (test : X → Bool) (xs : List X) (k : ℕ) (x : X) → list_all test xs ≡ true → slice_get xs k ≡ Some x → test x ≡ true
list_all-at test [] k x all is = absurd cc
list_all-at test (y ∷ xs) zero x all is = let same : y ≡ x = cc in ap test (sym same) ∙ (and_parts (test y) (list_all test xs) all).0
list_all-at test (y ∷ xs) (suc k) x all is = list_all-at test xs k x (and_parts (test y) (list_all test xs) all).1 is

-- run k of a change lies in the vector, and the bytes from at on begin with its records
pub record RunFits (width size k at w : ℕ) (area : List ℕ) (runs : List Run) (run : Run) : Type 0 where
  pub more : take (k + 1) runs ≡ take k runs ++ run ∷ []
  pub inside : run.start + run.count ≤ size
  pub within : at + run.count * w ≤ length area
  pub filled : length (take (at + run.count * w - at) (drop at area)) ≡ run.count * width
  pub next : at + run.count * w ≡ records_of_runs (take (k + 1) runs) * width

pub run_fits : (width size k at w : ℕ) (area : List ℕ) (change : Seen) (run : Run)
    → w ≡ width → change.shape.width ≡ width → length area ≡ record_count change.frame * change.shape.width
    → are_inside size (runs_of change.frame) ≡ true
    → slice_get (runs_of change.frame) k ≡ Some run → at ≡ records_of_runs (take k (runs_of change.frame)) * width → RunFits width size k at w area (runs_of change.frame) run
run_fits width size k at w area change run is wide area_len inside told here =
    let runs : List Run = runs_of change.frame in
    let all : ℕ = record_count change.frame in
    let fill = runs_fill change.frame in
    let filled : length area ≡ all * width = area_len ∙ ap (λ n. all * n) wide in
    let product : run.count * w ≡ run.count * width = ap (λ n. run.count * n) is in
    let lt = slice_get_within runs k run told in
    let more : take (k + 1) runs ≡ take k runs ++ run ∷ [] = take_more runs k run lt ∙ ap (λ r. take k runs ++ r ∷ []) (get_or_from_slice_get runs k run run told) in
    let sum : records_of_runs (take (k + 1) runs) ≡ records_of_runs (take k runs) + run.count = ap records_of_runs more ∙ records_of_runs_push (take k runs) run in
    let split : (records_of_runs (take k runs) + run.count) * width ≡ records_of_runs (take k runs) * width + run.count * width = omega arith in
    let next : at + run.count * w ≡ records_of_runs (take (k + 1) runs) * width
    = ap (λ n. at + n) product
    ∙ ap (λ n. n + run.count * width) here
    ∙ sym split
    ∙ ap (λ n. n * width) (sym sum) in
    let some = records_of_runs-take (k + 1) runs in
    let below : records_of_runs (take (k + 1) runs) * width ≤ all * width = mul-le (records_of_runs (take (k + 1) runs)) width all width (omega arith) (omega arith) in
    let left = length-drop at area in
    let part = length-take-le (at + run.count * w - at) (drop at area) (omega arith) in
    record {
      more = more;
      inside = leb-true (run.start + run.count) size (list_all-at (λ r. nat_le (r.start + r.count) size) runs k run inside told);
      within = omega arith;
      filled = omega arith;
      next = next;
    }

pub place_in_runs_push : (width i p : ℕ) (runs : List Run) (run : Run)
    → place_in_runs width i p (runs ++ run ∷ []) ≡ option_or (place_among width (p + records_of_runs runs * width) run.start run.count i) (place_in_runs width i p runs)
place_in_runs_push width i p [] run =
    let here : p + 0 * width ≡ p = omega arith in
    sym
    (option_or_none (place_among width (p + 0 * width) run.start run.count i) ∙ ap (λ n. place_among width n run.start run.count i) here)
place_in_runs_push width i p (first ∷ runs) run =
    let n : ℕ = p + first.count * width in
    let all = records_of_runs-cons first runs in
    let split : n + records_of_runs runs * width ≡ p + (first.count + records_of_runs runs) * width = omega arith in
    let at : n + records_of_runs runs * width ≡ p + records_of_runs (first ∷ runs) * width = split ∙ ap (λ m. p + m * width) (sym all) in
    let here : Option ℕ = place_among width p first.start first.count i in
    let rest : Option ℕ = place_in_runs width i n runs in
    ap (λ o. option_or o here) (place_in_runs_push width i n runs run)
    ∙ option_or_assoc (place_among width (n + records_of_runs runs * width) run.start run.count i) rest here
    ∙ ap (λ m. option_or (place_among width m run.start run.count i) (option_or rest here)) at

-- the records of run k were laid
pub laid_run :
    {R : Type 0} (form : Encoding R) (image : List ℕ) (place at k start count : ℕ) (runs : List Run) (old : List R)
    (old_notes : Notes) (mid : List R) (mid_notes : Notes) (new : List R) (new_notes : Notes)
    → at ≡ records_of_runs (take k runs) * form.width → take (k + 1) runs ≡ take k runs ++ record { start = start; count = count } ∷ [] → length new ≡ length mid
    → IsLaid form image (λ i. place_in_runs form.width i place (take k runs)) old old_notes mid mid_notes
    → IsLaid form image (place_among form.width (place + at) start count) mid mid_notes new new_notes
    → IsLaid form image (λ i. place_in_runs form.width i place (take (k + 1) runs)) old old_notes new new_notes
laid_run form image place at k start count runs old old_notes mid mid_notes new new_notes here more same laid one =
    let run : Run = record { start = start; count = count } in
    laid_as form image
    (λ i. option_or (place_among form.width (place + at) start count i) (place_in_runs form.width i place (take k runs)))
    (λ i. place_in_runs form.width i place (take (k + 1) runs)) old old_notes new new_notes
    (λ i.
    ap (place_in_runs form.width i place) more
    ∙ place_in_runs_push form.width i place (take k runs) run
    ∙ ap (λ n. option_or (place_among form.width (place + n) start count i) (place_in_runs form.width i place (take k runs))) (sym here))
    (laid_then form image (place_among form.width (place + at) start count) (λ i. place_in_runs form.width i place (take k runs)) old old_notes mid mid_notes new new_notes same laid one)
