-- The changes of frames: one frame more, those that no fold covers, and where their records stand.
use Rattle.std.proofs.Common.{◌≡◌, ℕ, zero, suc, ◌+◌, ◌-◌, ◌<◌, cond, List, [], ◌∷◌, ◌++◌, length, map, take, drop, get_or, Option, None, refl, sym, ap, subst, ◌∙◌, append_assoc, arith, inl, inr}
use Rattle.std.specs.List.{flat_map, AllByRecursion}
use Rattle.std.specs.Option.{option_or}
use Rattle.std.proofs.lemmas.Bool.{cases_lt, le-leb, lt-leb}
use Rattle.std.proofs.lemmas.List.{append-nil, length-append, take_at, drop_at, take_more, map_push}
use Rattle.record_core.specs.Bytes.{Encoding}
use Rattle.segment_core.specs.declared.format.Format.{Format}
use Rattle.segment_core.specs.declared.format.Shape.{Shape}
use Rattle.segment_core.specs.declared.notes.Notes.{Notes}
use Rattle.segment_core.specs.declared.tally.Tally.{Tally}
use Rattle.segment_core.specs.Frame.{Run, Frame, Group, Change, Shrink, Fold, runs_len, header, frame_text, text}
use Rattle.segment_core.specs.Tally.{nothing, after, tally_from, tally_of}
use Rattle.segment_core.specs.Vector.{place_in_runs, last_from, change_in, change_of}
use Rattle.segment_core.specs.Reading.{Seen, runs_of, record_bytes_of, head_len}
use Rattle.segment_core.specs.Found.{StandsAt, first_record_of, IsLaid, changes_in, changes_from, changes_of, live_among}
use Rattle.segment_core.proofs.FrameParts.{front_text, length-front_text, frame_parts}
use Rattle.segment_core.proofs.LastFrom.{option_or_assoc, option_or_none, gate_is}
use Rattle.segment_core.proofs.FoundLaid.{laid_as, laid_then}

-- ---- lists of which something holds

pub all_at : {X : Type 0} (P : X → Type 0) (xs : List X) (k : ℕ) (x : X) → AllByRecursion P xs → k < length xs → x ≡ get_or xs k x → P x
all_at P [] k x all lt is = absurd (omega arith)
all_at P (y ∷ xs) zero x all lt is = subst P (sym is) all.0
all_at P (y ∷ xs) (suc k) x all lt is = all_at P xs k x all.1 (omega arith) is

pub all_push : {X : Type 0} (P : X → Type 0) (xs : List X) (x : X) → AllByRecursion P xs → P x → AllByRecursion P (xs ++ x ∷ [])
all_push P [] x all one = (one, tt)
all_push P (y ∷ xs) x all one = (all.0, all_push P xs x all.1 one)

pub all_drop : {X : Type 0} (P : X → Type 0) (n : ℕ) (xs : List X) → AllByRecursion P xs → AllByRecursion P (drop n xs)
all_drop P zero xs all = all
all_drop P (suc n) [] all = tt
all_drop P (suc n) (x ∷ xs) all = all_drop P n xs all.1

pub all_map : {X : Type 0} (P Q : X → Type 0) (xs : List X) → ((x : X) → P x → Q x) → AllByRecursion P xs → AllByRecursion Q xs
all_map P Q [] f all = tt
all_map P Q (x ∷ xs) f all = (f x all.0, all_map P Q xs f all.1)

drop_nothing : (n : ℕ) → drop {A = Seen} n [] ≡ []
drop_nothing zero = refl
drop_nothing (suc n) = refl

-- ---- pairs

abbrev pub pair_of : Run → ℕ × ℕ
pair_of run = (run.start, run.count)

pub pairs_more : (runs : List Run) (k : ℕ) (run : Run) → take (k + 1) runs ≡ take k runs ++ run ∷ [] → map pair_of (take (k + 1) runs) ≡ map pair_of (take k runs) ++ pair_of run ∷ []
pairs_more runs k run more = ap (map pair_of) more ∙ map_push pair_of (take k runs) run

-- ---- one change more

pub live_among_push : (width i : ℕ) (changes : List Seen) (change : Seen)
    → live_among width (changes ++ change ∷ []) i ≡ option_or (place_in_runs width i (first_record_of change) (runs_of change.frame)) (live_among width changes i)
live_among_push width i [] change = sym (option_or_none (place_in_runs width i (first_record_of change) (runs_of change.frame)))
live_among_push width i (first ∷ changes) change =
    let here : Option ℕ = place_in_runs width i (first_record_of first) (runs_of first.frame) in
    ap (λ o. option_or o here) (live_among_push width i changes change)
    ∙ option_or_assoc (place_in_runs width i (first_record_of change) (runs_of change.frame)) (live_among width changes i) here

pub laid_change :
    {R : Type 0} (form : Encoding R) (image : List ℕ) (k : ℕ) (changes : List Seen) (change : Seen) (old : List R)
    (old_notes : Notes) (mid : List R) (mid_notes : Notes) (new : List R) (new_notes : Notes)
    → k < length changes → change ≡ get_or changes k change → length new ≡ length mid
    → IsLaid form image (live_among form.width (take k changes)) old old_notes mid mid_notes
    → IsLaid form image (λ i. place_in_runs form.width i (first_record_of change) (runs_of change.frame)) mid mid_notes new new_notes
    → IsLaid form image (live_among form.width (take (k + 1) changes)) old old_notes new new_notes
laid_change form image k changes change old old_notes mid mid_notes new new_notes lt is same laid one =
    let more : take (k + 1) changes ≡ take k changes ++ change ∷ [] = take_more changes k change lt ∙ ap (λ x. take k changes ++ x ∷ []) (sym is) in
    let later : ℕ → Option ℕ = λ i. place_in_runs form.width i (first_record_of change) (runs_of change.frame) in
    laid_as form image (λ i. option_or (later i) (live_among form.width (take k changes) i)) (live_among form.width (take (k + 1) changes)) old old_notes new new_notes
    (λ i. ap (λ cs. live_among form.width cs i) more ∙ live_among_push form.width i (take k changes) change)
    (laid_then form image later (live_among form.width (take k changes)) old old_notes mid mid_notes new new_notes same laid one)

-- ---- one frame more

changes_from_push : (shape : Shape) (p : ℕ) (frames : List Frame) (f : Frame)
    → changes_from shape p (frames ++ f ∷ []) ≡ changes_from shape p frames ++ changes_in shape (p + length (flat_map (frame_text shape.format) frames)) f
changes_from_push shape p [] f = let here : p + 0 ≡ p = omega arith in append-nil (changes_in shape p f) ∙ ap (λ n. changes_in shape n f) (sym here)
changes_from_push shape p (g ∷ frames) f =
    let n : ℕ = p + length (frame_text shape.format g) in
    let all = length-append (frame_text shape.format g) (flat_map (frame_text shape.format) frames) in
    let at : n + length (flat_map (frame_text shape.format) frames) ≡ p + length (flat_map (frame_text shape.format) (g ∷ frames)) = omega arith in
    ap (λ cs. changes_in shape p g ++ cs) (changes_from_push shape n frames f)
    ∙ sym (append_assoc (changes_in shape p g) (changes_from shape n frames) (changes_in shape (n + length (flat_map (frame_text shape.format) frames)) f))
    ∙ ap (λ m. (changes_in shape p g ++ changes_from shape n frames) ++ changes_in shape m f) at

pub changes_push : (shape : Shape) (frames : List Frame) (f : Frame) → changes_of shape (frames ++ f ∷ []) ≡ changes_of shape frames ++ changes_in shape (length (text shape frames)) f
changes_push shape frames f = changes_from_push shape (length (header shape)) frames f ∙ ap (λ n. changes_of shape frames ++ changes_in shape n f) (gate_is shape frames)

changes_counted_from : (shape : Shape) (p : ℕ) (t : Tally) (frames : List Frame) → (tally_from t frames).changes ≡ t.changes + length (changes_from shape p frames)
changes_counted_from shape p t [] = omega arith
changes_counted_from shape p t (Group lengths bytes ∷ frames) = changes_counted_from shape (p + length (frame_text shape.format (Group lengths bytes))) (after t (Group lengths bytes)) frames
changes_counted_from shape p t (Change runs bytes ∷ frames) =
    let rest =
    changes_counted_from shape (p + length (frame_text shape.format (Change runs bytes))) (after t (Change runs bytes)) frames in
    rest ∙ omega arith
changes_counted_from shape p t (Shrink n ∷ frames) = changes_counted_from shape (p + length (frame_text shape.format (Shrink n))) (after t (Shrink n)) frames
changes_counted_from shape p t (Fold count ∷ frames) = changes_counted_from shape (p + length (frame_text shape.format (Fold count))) (after t (Fold count)) frames

pub changes_counted : (shape : Shape) (frames : List Frame) → (tally_of frames).changes ≡ length (changes_of shape frames)
changes_counted shape frames = changes_counted_from shape (length (header shape)) nothing frames ∙ omega arith

-- ---- what the changes from a number on say

live_from : (shape : Shape) (folded i p : ℕ) (t : Tally) (frames : List Frame)
    → last_from (change_in shape folded i) shape.format p t frames ≡ live_among shape.width (drop (folded - t.changes) (changes_from shape p frames)) i
live_from shape folded i p t [] = sym (ap (λ cs. live_among shape.width cs i) (drop_nothing (folded - t.changes)))
live_from shape folded i p t (Group lengths bytes ∷ frames) =
    option_or_none _
    ∙ live_from shape folded i (p + length (frame_text shape.format (Group lengths bytes))) (after t (Group lengths bytes)) frames
live_from shape folded i p t (Shrink n ∷ frames) = option_or_none _ ∙ live_from shape folded i (p + length (frame_text shape.format (Shrink n))) (after t (Shrink n)) frames
live_from shape folded i p t (Fold count ∷ frames) = option_or_none _ ∙ live_from shape folded i (p + length (frame_text shape.format (Fold count))) (after t (Fold count)) frames
live_from shape folded i p t (Change runs bytes ∷ frames) =
    let f : Frame = Change runs bytes in
    let n : ℕ = p + length (frame_text shape.format f) in
    let here : Option ℕ = place_in_runs shape.width i (p + 6 + runs_len shape.format (length runs)) runs in
    let rest : Option ℕ = last_from (change_in shape folded i) shape.format n (after t f) frames in
    let later = live_from shape folded i n (after t f) frames in
    let changes : List Seen = changes_from shape n frames in
    let change : Seen = record { at = p; shape = shape; frame = f } in
    elim (cases_lt t.changes folded) [
      | inl covered ↦ (
          let index : folded - t.changes ≡ suc (folded - (t.changes + 1)) = omega arith in
          ap (λ b. option_or rest (cond b here None)) (lt-leb folded t.changes covered)
          ∙ option_or_none rest ∙ later ∙ sym (ap (λ m. live_among shape.width (drop m (change ∷ changes)) i) index))
      | inr live ↦ (
          let none : folded - t.changes ≡ 0 = omega arith in
          let none' : folded - (t.changes + 1) ≡ 0 = omega arith in
          ap (λ b. option_or rest (cond b here None)) (le-leb folded t.changes live)
          ∙ ap (λ o. option_or o here) (later ∙ ap (λ m. live_among shape.width (drop m changes) i) none')
          ∙ sym (ap (λ m. live_among shape.width (drop m (change ∷ changes)) i) none))
    ]

pub change_of_live : (shape : Shape) (folded : ℕ) (frames : List Frame) (i : ℕ) → change_of shape folded frames i ≡ live_among shape.width (drop folded (changes_of shape frames)) i
change_of_live shape folded frames i =
    let all : folded - 0 ≡ folded = omega arith in
    live_from shape folded i (length (header shape)) nothing frames
    ∙ ap (λ m. live_among shape.width (drop m (changes_of shape frames)) i) all

-- ---- where records stand

pub records_stand : (format : Format) (frame : Frame) (image before rest : List ℕ) (p : ℕ)
    → image ≡ before ++ (frame_text format frame ++ rest) → p ≡ length before
    → StandsAt image (p + 6 + head_len format frame) (record_bytes_of frame)
records_stand format frame image before rest p is here =
    let front : List ℕ = front_text format frame in
    let bytes : List ℕ = record_bytes_of frame in
    let parts : image ≡ (before ++ front) ++ (bytes ++ rest) =
    is
    ∙ ap (λ (bs : List ℕ). before ++ (bs ++ rest)) (frame_parts format frame)
    ∙ ap (λ (bs : List ℕ). before ++ bs) (append_assoc front bytes rest)
    ∙ sym (append_assoc before front (bytes ++ rest)) in
    let len = length-append before front in
    let first = length-front_text format frame in
    let at : p + 6 + head_len format frame ≡ length (before ++ front) = omega arith in
    let behind : drop (p + 6 + head_len format frame) image ≡ bytes ++ rest
    = ap (λ n. drop n image) at
    ∙ ap (drop (length (before ++ front))) parts
    ∙ drop_at (before ++ front) (bytes ++ rest) (length (before ++ front)) refl in
    ap (take (length bytes)) behind ∙ take_at bytes rest (length bytes) refl

abbrev pub AreStanding : List ℕ → List Seen → Type 0
AreStanding image changes = AllByRecursion (λ change. StandsAt image (first_record_of change) (record_bytes_of change.frame)) changes

-- behind the first of more frames
record Behind (shape : Shape) (image before rest : List ℕ) (p : ℕ) (f : Frame) (frames : List Frame) : Type 0 where
  is : image ≡ (before ++ frame_text shape.format f) ++ (flat_map (frame_text shape.format) frames ++ rest)
  here : p + length (frame_text shape.format f) ≡ length (before ++ frame_text shape.format f)

behind_first : (shape : Shape) (image before rest : List ℕ) (p : ℕ) (f : Frame) (frames : List Frame)
    → image ≡ before ++ (flat_map (frame_text shape.format) (f ∷ frames) ++ rest) → p ≡ length before
    → Behind shape image before rest p f frames
behind_first shape image before rest p f frames is here =
    let one : List ℕ = frame_text shape.format f in
    let len = length-append before one in
    record {
      is =
          is
          ∙ ap (λ (bs : List ℕ). before ++ bs) (append_assoc one (flat_map (frame_text shape.format) frames) rest)
          ∙ sym (append_assoc before one (flat_map (frame_text shape.format) frames ++ rest));
      here = omega arith;
    }

changes_stand_from : (shape : Shape) (image before rest : List ℕ) (p : ℕ) (frames : List Frame)
    → image ≡ before ++ (flat_map (frame_text shape.format) frames ++ rest) → p ≡ length before
    → AreStanding image (changes_from shape p frames)
changes_stand_from shape image before rest p [] is here = tt
changes_stand_from shape image before rest p (Group lengths bytes ∷ frames) is here =
    let f : Frame = Group lengths bytes in
    let next = behind_first shape image before rest p f frames is here in
    changes_stand_from shape image (before ++ frame_text shape.format f) rest (p + length (frame_text shape.format f)) frames next.is next.here
changes_stand_from shape image before rest p (Change runs bytes ∷ frames) is here =
    let f : Frame = Change runs bytes in
    let next = behind_first shape image before rest p f frames is here in (
      records_stand shape.format f image before (flat_map (frame_text shape.format) frames ++ rest) p
          (is ∙ ap (λ (bs : List ℕ). before ++ bs) (append_assoc (frame_text shape.format f) (flat_map (frame_text shape.format) frames) rest))
          here,
      changes_stand_from shape image (before ++ frame_text shape.format f) rest (p + length (frame_text shape.format f)) frames next.is next.here,
    )
changes_stand_from shape image before rest p (Shrink n ∷ frames) is here =
    let f : Frame = Shrink n in
    let next = behind_first shape image before rest p f frames is here in
    changes_stand_from shape image (before ++ frame_text shape.format f) rest (p + length (frame_text shape.format f)) frames next.is next.here
changes_stand_from shape image before rest p (Fold count ∷ frames) is here =
    let f : Frame = Fold count in
    let next = behind_first shape image before rest p f frames is here in
    changes_stand_from shape image (before ++ frame_text shape.format f) rest (p + length (frame_text shape.format f)) frames next.is next.here

pub changes_stand : (shape : Shape) (image rest : List ℕ) (frames : List Frame) → image ≡ text shape frames ++ rest → AreStanding image (changes_of shape frames)
changes_stand shape image rest frames is =
    changes_stand_from shape image (header shape) rest (length (header shape)) frames
    (is ∙ append_assoc (header shape) (flat_map (frame_text shape.format) frames) rest) refl

changes_shaped_from : (shape : Shape) (p : ℕ) (frames : List Frame) → AllByRecursion (λ change. change.shape.width ≡ shape.width) (changes_from shape p frames)
changes_shaped_from shape p [] = tt
changes_shaped_from shape p (Group lengths bytes ∷ frames) = changes_shaped_from shape (p + length (frame_text shape.format (Group lengths bytes))) frames
changes_shaped_from shape p (Change runs bytes ∷ frames) = (refl, changes_shaped_from shape (p + length (frame_text shape.format (Change runs bytes))) frames)
changes_shaped_from shape p (Shrink n ∷ frames) = changes_shaped_from shape (p + length (frame_text shape.format (Shrink n))) frames
changes_shaped_from shape p (Fold count ∷ frames) = changes_shaped_from shape (p + length (frame_text shape.format (Fold count))) frames

pub changes_shaped : (shape : Shape) (frames : List Frame) → AllByRecursion (λ change. change.shape.width ≡ shape.width) (changes_of shape frames)
changes_shaped shape frames = changes_shaped_from shape (length (header shape)) frames
