-- Bytes that are those of frames but for home bytes are frames too, with other home bytes.
use Rattle.std.proofs.Common.{◌≡◌, ℕ, ◌+◌, ◌*◌, ◌≤◌, ◌<◌, List, [], ◌∷◌, ◌++◌, length, take, drop, get_or, Some, refl, sym, ap, ◌∙◌, arith, inl, inr, replicate, append_assoc}
use Rattle.std.specs.List.{flat_map}
use Rattle.std.specs.Int.{w32, to_le_bytes}
use Rattle.std.proofs.lemmas.List.{length-append, length-drop, length-take-le, get_or-take, get_or-drop, get_or_append_left, get_or-append-add, take-append-drop, drop-drop, ext_get_or}
use Rattle.segment_core.specs.declared.format.Format.{Format}
use Rattle.segment_core.specs.declared.format.Shape.{Shape}
use Rattle.segment_core.specs.declared.tally.Tally.{Tally}
use Rattle.segment_core.specs.Frame.{Frame, Group, Change, Shrink, Fold, payload_of, frame_text}
use Rattle.segment_core.specs.Layout.{IsFrame}
use Rattle.segment_core.specs.Tally.{after, AreLegalFrom}
use Rattle.segment_core.specs.Vector.{last_from, home_in}
use Rattle.segment_core.specs.Blanked.{blanked, all_blanked}
use Rattle.segment_core.proofs.Push.{append-empty}
use Rattle.segment_core.proofs.FrameParts.{head_text, front_text, length-front_text, frame_parts, length-payload_of}
use Rattle.segment_core.proofs.LastFrom.{option_or_cases}
use Rattle.segment_core.proofs.PlaceOf.{home_in_between, last_from_between}

-- ---- one frame

-- the frame with other bytes in its homes
abbrev pub with_homes : Frame → List ℕ → Frame
with_homes (Group lengths bytes) new = Group lengths new
with_homes (Change runs bytes) new = Change runs bytes
with_homes (Shrink n) new = Shrink n
with_homes (Fold count) new = Fold count

abbrev pub home_bytes_of : Frame → List ℕ
home_bytes_of (Group lengths bytes) = bytes
home_bytes_of (Change runs bytes) = []
home_bytes_of (Shrink n) = []
home_bytes_of (Fold count) = []

-- what stands before the home bytes: all of a frame that has none
abbrev pub before_homes : Format → Frame → List ℕ
before_homes format (Group lengths bytes) = front_text format (Group lengths bytes)
before_homes format (Change runs bytes) = frame_text format (Change runs bytes)
before_homes format (Shrink n) = frame_text format (Shrink n)
before_homes format (Fold count) = frame_text format (Fold count)

home_behind : (shape : Shape) (i p : ℕ) (tally : Tally) (frame : Frame) (place : ℕ)
    → IsFrame shape frame → home_in shape.width i p tally frame ≡ Some place
    → p + length (before_homes shape.format frame) ≤ place
home_behind shape i p tally (Group lengths bytes) place whole is =
    let b = home_in_between shape i p tally (Group lengths bytes) place whole is in
    omega (arith, b.from, length-front_text shape.format (Group lengths bytes))
home_behind shape i p tally (Change runs bytes) place whole is = absurd cc
home_behind shape i p tally (Shrink n) place whole is = absurd cc
home_behind shape i p tally (Fold count) place whole is = absurd cc

frame_text-with_homes : (format : Format) (frame : Frame) (new : List ℕ)
    → length new ≡ length (home_bytes_of frame)
    → frame_text format (with_homes frame new) ≡ before_homes format frame ++ new
frame_text-with_homes format (Group lengths bytes) new same =
    let payloads : length (payload_of format (Group lengths new)) ≡ length (payload_of format (Group lengths bytes))
    = length-payload_of format (Group lengths new)
    ∙ ap (λ n. 4 + length lengths * 4 + n) same
    ∙ sym (length-payload_of format (Group lengths bytes)) in
    frame_parts format (Group lengths new)
    ∙ ap (λ n. (1 ∷ 1 ∷ to_le_bytes w32 n) ++ head_text format (Group lengths new) ++ new) payloads
frame_text-with_homes format (Change runs bytes) new same = append-empty (frame_text format (Change runs bytes)) new same
frame_text-with_homes format (Shrink n) new same = append-empty (frame_text format (Shrink n)) new same
frame_text-with_homes format (Fold count) new same = append-empty (frame_text format (Fold count)) new same

with_own : (frame : Frame) → with_homes frame (home_bytes_of frame) ≡ frame
with_own (Group lengths bytes) = refl
with_own (Change runs bytes) = refl
with_own (Shrink n) = refl
with_own (Fold count) = refl

home_parts : (format : Format) (frame : Frame) → frame_text format frame ≡ before_homes format frame ++ home_bytes_of frame
home_parts format frame = ap (frame_text format) (sym (with_own frame)) ∙ frame_text-with_homes format frame (home_bytes_of frame) refl

blanked-with_homes : (frame : Frame) (new : List ℕ) → length new ≡ length (home_bytes_of frame) → blanked (with_homes frame new) ≡ blanked frame
blanked-with_homes (Group lengths bytes) new same = ap (λ n. Group lengths (replicate n 0)) same
blanked-with_homes (Change runs bytes) new same = refl
blanked-with_homes (Shrink n) new same = refl
blanked-with_homes (Fold count) new same = refl

-- ---- frames one behind the other, the first gate at p

-- byte j behind p is in no home
abbrev pub IsNoHome : Shape → ℕ → Tally → List Frame → ℕ → Type 0
IsNoHome shape p tally frames j = (i place : ℕ) → last_from (home_in shape.width i) shape.format p tally frames ≡ Some place → place ≤ p + j → p + j < place + shape.width → ⊥

-- the bytes begin with the text of frames that differ in home bytes alone
pub record BeginsAlike (format : Format) (frames : List Frame) (new : List ℕ) : Type 0 where
  pub others : List Frame
  pub alike : all_blanked others ≡ all_blanked frames
  pub begins : new ≡ flat_map (frame_text format) others ++ drop (length (flat_map (frame_text format) frames)) new

module _ (shape : Shape) (p : ℕ) (tally : Tally) (frame : Frame) (frames : List Frame) (new old : List ℕ) where
  abbrev format : Format
  format = shape.format

  abbrev front : List ℕ
  front = before_homes format frame

  abbrev k : ℕ
  k = length front

  abbrev m : ℕ
  m = length (home_bytes_of frame)

  parted : length (frame_text format frame) ≡ k + m
  parted = ap length (home_parts format frame) ∙ length-append front (home_bytes_of frame)

  -- what stands before the homes of the first frame stays
  front_stays : (behind : List ℕ) → AreLegalFrom shape tally (frame ∷ frames) → old ≡ frame_text format frame ++ behind → k + m ≤ length new
      → ((j : ℕ) → j < k + m → IsNoHome shape p tally (frame ∷ frames) j → get_or new j 0 ≡ get_or old j 0) → take k new ≡ front
  front_stays behind legal is long same =
      ext_get_or 0 (take k new) front (length-take-le k new (omega arith)) (λ j lt.
      let size = length-take-le k new (omega arith) in
      let below : j < k = omega arith in
      let no_home : IsNoHome shape p tally (frame ∷ frames) j
      = λ i place at from before.
      elim
      (option_or_cases (last_from (home_in shape.width i) format (p + length (frame_text format frame)) (after tally frame) frames) (home_in shape.width i p tally frame) place at) [
        | inl later ↦
            (let b =
            last_from_between shape (home_in shape.width i) (p + length (frame_text format frame)) (after tally frame) frames place (home_in_between shape i) legal.2 later in
            omega (arith, b.from, parted))
        | inr here ↦ (let b = home_behind shape i p tally frame place legal.0 here.1 in omega arith)
      ] in
      let there : old ≡ front ++ (home_bytes_of frame ++ behind) = is ∙ ap (λ (bs : List ℕ). bs ++ behind) (home_parts format frame) ∙ append_assoc front (home_bytes_of frame) behind in
      get_or-take k new j 0 below ∙ same j (omega arith) no_home ∙ ap (λ (bs : List ℕ). get_or bs j 0) there ∙ get_or_append_left front (home_bytes_of frame ++ behind) 0 j below)

  -- and what stands behind it, too
  rest_stays : (behind : List ℕ) → AreLegalFrom shape tally (frame ∷ frames) → old ≡ frame_text format frame ++ behind → (n : ℕ)
      → ((j : ℕ) → j < k + m + n → IsNoHome shape p tally (frame ∷ frames) j → get_or new j 0 ≡ get_or old j 0)
      → (j : ℕ) → j < n → IsNoHome shape (p + length (frame_text format frame)) (after tally frame) frames j → get_or (drop (k + m) new) j 0 ≡ get_or behind j 0
  rest_stays behind legal is n same j lt not =
      let no_home : IsNoHome shape p tally (frame ∷ frames) (k + m + j)
      = λ i place at from before.
      elim
      (option_or_cases (last_from (home_in shape.width i) format (p + length (frame_text format frame)) (after tally frame) frames) (home_in shape.width i p tally frame) place at) [
        | inl later ↦ not i place later (omega (arith, parted)) (omega (arith, parted))
        | inr here ↦ (let b = home_in_between shape i p tally frame place legal.0 here.1 in omega (arith, b.to, parted))
      ] in
      get_or-drop (k + m) new j 0 ∙ same (k + m + j) (omega arith) no_home ∙ ap (λ (bs : List ℕ). get_or bs (k + m + j) 0) is
      ∙ ap (λ n. get_or (frame_text format frame ++ behind) (n + j) 0) (sym parted) ∙ get_or-append-add (frame_text format frame) behind j 0

  joined : (rest : BeginsAlike format frames (drop (k + m) new)) → take k new ≡ front → k + m ≤ length new → BeginsAlike format (frame ∷ frames) new
  joined rest front_is long =
      let homes : List ℕ = take m (drop k new) in
      let full : length homes ≡ m = length-take-le m (drop k new) (omega (arith, length-drop k new)) in
      let other : Frame = with_homes frame homes in
      let all = length-append (frame_text format frame) (flat_map (frame_text format) frames) in
      let size : length (flat_map (frame_text format) (frame ∷ frames)) ≡ k + m + length (flat_map (frame_text format) frames) = omega (arith, parted) in
      let tail : List ℕ = drop (length (flat_map (frame_text format) (frame ∷ frames))) new in
      let behind : drop (k + m) new ≡ flat_map (frame_text format) rest.others ++ tail =
      rest.begins
      ∙ ap (λ (bs : List ℕ). flat_map (frame_text format) rest.others ++ bs) (drop-drop (length (flat_map (frame_text format) frames)) (k + m) new ∙ ap (λ n. drop n new) (sym size)) in
      record {
        others = other ∷ rest.others;
        alike = ap (λ f. f ∷ all_blanked rest.others) (blanked-with_homes frame homes full) ∙ ap (λ (fs : List Frame). blanked frame ∷ fs) rest.alike;
        begins =
            sym (take-append-drop k new)
            ∙ ap (λ (bs : List ℕ). bs ++ drop k new) front_is
            ∙ ap (λ (bs : List ℕ). front ++ bs) (sym (take-append-drop m (drop k new)) ∙ ap (λ (bs : List ℕ). homes ++ bs) (drop-drop m k new ∙ behind))
            ∙ sym (append_assoc front homes (flat_map (frame_text format) rest.others ++ tail))
            ∙ ap (λ (bs : List ℕ). bs ++ (flat_map (frame_text format) rest.others ++ tail)) (sym (frame_text-with_homes format frame homes full))
            ∙ sym (append_assoc (frame_text format other) (flat_map (frame_text format) rest.others) tail);
      }

pub begins_alike : (shape : Shape) (p : ℕ) (tally : Tally) (frames : List Frame) (old rest new : List ℕ)
    → AreLegalFrom shape tally frames → old ≡ flat_map (frame_text shape.format) frames ++ rest
    → length (flat_map (frame_text shape.format) frames) ≤ length new
    → ((j : ℕ) → j < length (flat_map (frame_text shape.format) frames) → IsNoHome shape p tally frames j → get_or new j 0 ≡ get_or old j 0) → BeginsAlike shape.format frames new
begins_alike shape p tally [] old rest new legal is long same = record { others = []; alike = refl; begins = refl }
begins_alike shape p tally (frame ∷ frames) old rest new legal is long same =
    let behind : List ℕ = flat_map (frame_text shape.format) frames ++ rest in
    let k : ℕ = length (before_homes shape.format frame) in
    let m : ℕ = length (home_bytes_of frame) in
    let n : ℕ = length (flat_map (frame_text shape.format) frames) in
    let there : old ≡ frame_text shape.format frame ++ behind = is ∙ append_assoc (frame_text shape.format frame) (flat_map (frame_text shape.format) frames) rest in
    let size : length (flat_map (frame_text shape.format) (frame ∷ frames)) ≡ k + m + n
    = length-append (frame_text shape.format frame) (flat_map (frame_text shape.format) frames)
    ∙ ap (λ a. a + n) (parted shape p tally frame frames new old) in
    let enough : k + m ≤ length new = omega arith in
    let same' : (j : ℕ) → j < k + m + n → IsNoHome shape p tally (frame ∷ frames) j → get_or new j 0 ≡ get_or old j 0 = λ j lt not. same j (omega arith) not in
    joined shape p tally frame frames new old
    (begins_alike shape (p + length (frame_text shape.format frame)) (after tally frame) frames behind rest
    (drop (k + m) new) legal.2 refl (let l = length-drop (k + m) new in omega arith)
    (rest_stays shape p tally frame frames new old behind legal there n same'))
    (front_stays shape p tally frame frames new old behind legal there enough (λ j lt not. same' j (omega arith) not))
    enough
