-- The homes and the live changes of one frame more.
use Rattle.std.proofs.Common.{◌≡◌, ℕ, ◌+◌, ◌-◌, ◌*◌, ◌≤◌, ◌<◌, List, [], ◌∷◌, ◌++◌, length, sum, drop, Option, None, refl, sym, ap, subst, ◌∙◌, arith, inl, inr}
use Rattle.std.specs.Option.{option_or}
use Rattle.std.proofs.lemmas.Bool.{cases_lt}
use Rattle.std.proofs.lemmas.List.{drop-append-le, append-nil, drop-drop}
use Rattle.segment_core.specs.declared.format.Shape.{Shape}
use Rattle.segment_core.specs.declared.found.Home.{Home}
use Rattle.segment_core.specs.declared.tally.Tally.{Tally}
use Rattle.segment_core.specs.Frame.{Run, Frame, Group, Change, Fold, text}
use Rattle.segment_core.specs.Tally.{nothing, after, tally_of}
use Rattle.segment_core.specs.Vector.{place_among, home_in, home_of}
use Rattle.segment_core.specs.Reading.{Seen}
use Rattle.segment_core.specs.Found.{home_among, AreInTurn, AreHomes, changes_in, changes_of, live_of}
use Rattle.segment_core.proofs.Push.{tally_from_push}
use Rattle.segment_core.proofs.LastFrom.{home_push}
use Rattle.segment_core.proofs.PlaceAmong.{place_among_inside}
use Rattle.segment_core.proofs.FoundHomes.{home_among_push, in_turn_push}
use Rattle.segment_core.proofs.FoundChanges.{changes_push, changes_counted}

-- ---- homes

-- where the records of a group have their home bytes, in a file of these frames
abbrev pub group_home : Shape → List Frame → List ℕ → Home
group_home shape frames lengths = record { position = (tally_of frames).size; place = length (text shape frames) + 10 + length lengths * 4; count = sum lengths }

pub AreHomes_group : (shape : Shape) (frames : List Frame) (lengths bytes : List ℕ) (homes : List Home)
    → AreHomes shape frames homes
    → AreHomes shape (frames ++ Group lengths bytes ∷ []) (homes ++ group_home shape frames lengths ∷ [])
AreHomes_group shape frames lengths bytes homes has =
    let f : Frame = Group lengths bytes in
    let t : Tally = tally_of frames in
    let here : Home = group_home shape frames lengths in
    let size : (tally_of (frames ++ f ∷ [])).size ≡ t.size + sum lengths = ap (λ x. x.size) (tally_from_push nothing frames f) in
    record {
      in_turn = in_turn_push 0 t.size (tally_of (frames ++ f ∷ [])).size homes here has.in_turn refl (sym size);
      each = λ i lt. (
          let says : Option ℕ = place_among shape.width here.place t.size (sum lengths) i in
          home_among_push shape.width i homes here
          ∙ (elim (cases_lt i t.size) [
            | inl below ↦ ap (option_or says) (has.each i below)
            | inr from ↦ (
                let some = place_among_inside shape.width here.place t.size (sum lengths) i from (omega arith) in
                ap (λ o. option_or o (home_among shape.width homes i)) some ∙ sym (ap (λ o. option_or o (home_of shape frames i)) some))
          ])
          ∙ sym (home_push shape frames f i));
    }

-- a frame that has no home bytes, and leaves as many records at most
pub AreHomes_same : (shape : Shape) (frames : List Frame) (f : Frame) (homes later : List Home)
    → ((i p : ℕ) (t : Tally) → home_in shape.width i p t f ≡ None)
    → (after (tally_of frames) f).size ≤ (tally_of frames).size
    → AreHomes shape frames homes
    → AreInTurn 0 later (after (tally_of frames) f).size
    → ((i : ℕ) → i < (after (tally_of frames) f).size → home_among shape.width later i ≡ home_among shape.width homes i)
    → AreHomes shape (frames ++ f ∷ []) later
AreHomes_same shape frames f homes later none shorter has turn same =
    let size : (tally_of (frames ++ f ∷ [])).size ≡ (after (tally_of frames) f).size = ap (λ x. x.size) (tally_from_push nothing frames f) in
    record {
      in_turn = subst (AreInTurn 0 later) (sym size) turn;
      each = λ i lt. (
          same i (omega arith) ∙ has.each i (omega arith)
          ∙ sym (home_push shape frames f i ∙ ap (λ o. option_or o (home_of shape frames i)) (none i (length (text shape frames)) (tally_of frames))));
    }

-- ---- live changes

-- a frame that is no change and no fold
pub live_of_same : (shape : Shape) (frames : List Frame) (f : Frame)
    → ((p : ℕ) → changes_in shape p f ≡ []) → (after (tally_of frames) f).folded ≡ (tally_of frames).folded
    → live_of shape (frames ++ f ∷ []) ≡ live_of shape frames
live_of_same shape frames f none folded =
    ap (λ m. drop m (changes_of shape (frames ++ f ∷ []))) (ap (λ x. x.folded) (tally_from_push nothing frames f) ∙ folded)
    ∙ ap (drop (tally_of frames).folded)
    (changes_push shape frames f ∙ ap (λ (cs : List Seen). changes_of shape frames ++ cs) (none (length (text shape frames))) ∙ append-nil (changes_of shape frames))

pub live_of_change : (shape : Shape) (frames : List Frame) (runs : List Run) (bytes : List ℕ) → (tally_of frames).folded ≤ (tally_of frames).changes
    → live_of shape (frames ++ Change runs bytes ∷ []) ≡ live_of shape frames ++ record { at = length (text shape frames); shape = shape; frame = Change runs bytes } ∷ []
live_of_change shape frames runs bytes few =
    let f : Frame = Change runs bytes in
    let counted = changes_counted shape frames in
    ap (λ m. drop m (changes_of shape (frames ++ f ∷ []))) (ap (λ x. x.folded) (tally_from_push nothing frames f))
    ∙ ap (drop (tally_of frames).folded) (changes_push shape frames f)
    ∙ drop-append-le (tally_of frames).folded (changes_of shape frames) (record { at = length (text shape frames); shape = shape; frame = f } ∷ []) (omega arith)

pub live_of_fold : (shape : Shape) (frames : List Frame) (count : ℕ)
    → (tally_of frames).folded ≤ count
    → live_of shape (frames ++ Fold count ∷ []) ≡ drop (count - (tally_of frames).folded) (live_of shape frames)
live_of_fold shape frames count from =
    let f : Frame = Fold count in
    let both : (tally_of frames).folded + (count - (tally_of frames).folded) ≡ count = omega arith in
    ap (λ m. drop m (changes_of shape (frames ++ f ∷ []))) (ap (λ x. x.folded) (tally_from_push nothing frames f))
    ∙ ap (drop count) (changes_push shape frames f ∙ append-nil (changes_of shape frames))
    ∙ sym (drop-drop (count - (tally_of frames).folded) (tally_of frames).folded (changes_of shape frames) ∙ ap (λ m. drop m (changes_of shape frames)) both)
