-- What is being folded is so behind one more frame.
use Rattle.std.proofs.Common.{◌≡◌, ℕ, ◌<◌, List, length, Option, Some, None, refl, ap, ◌∙◌}
use Rattle.std.specs.Option.{option_or}
use Rattle.segment_core.specs.declared.format.Shape.{Shape}
use Rattle.segment_core.specs.declared.tally.Tally.{Tally}
use Rattle.segment_core.specs.Frame.{Frame, Group, Change, Shrink, Fold, header, text}
use Rattle.segment_core.specs.Tally.{nothing, after, tally_of, AreLegal}
use Rattle.segment_core.specs.Vector.{last_from, home_of}
use Rattle.segment_core.specs.Blanked.{blanked}
use Rattle.segment_core.proofs.Push.{tally_from_push}
use Rattle.segment_core.proofs.LastFrom.{last_push, home_push}
use Rattle.segment_core.proofs.PlaceOf.{live_inside}
use Rattle.segment_core.proofs.HomesHold.{home_in_before}
use Rattle.pen_core.specs.Held.{IsBeingFolded, early_in}
use Rattle.pen_core.specs.Vectors.{frames_with}
use Rattle.pen_core.proofs.Again.{folded_covered}

record Told (a : Option ℕ) (told : ℕ) : Type 0 where
  turned : ℕ
  is : option_or a (Some told) ≡ Some turned

told_again : (a : Option ℕ) (told : ℕ) → Told a told
told_again None told = record { turned = told; is = refl }
told_again (Some x) told = record { turned = x; is = refl }

same_folded : (tally : Tally) (f : Frame) → ((count : ℕ) → f ≡ Fold count → ⊥) → (after tally (blanked f)).folded ≡ tally.folded
same_folded tally (Group lengths bytes) no_fold = refl
same_folded tally (Change runs bytes) no_fold = refl
same_folded tally (Shrink n) no_fold = refl
same_folded tally (Fold count) no_fold = absurd (no_fold count refl)

pub IsBeingFolded_push : (shape : Shape) (count : ℕ) (frames : List Frame) (f : Frame) (j : ℕ) → AreLegal shape frames
    → ((fold : ℕ) → f ≡ Fold fold → ⊥) → IsBeingFolded shape count frames j
    → IsBeingFolded shape count (frames_with frames f) j
IsBeingFolded_push shape count frames f j legal no_fold is =
    let t : Tally = tally_of frames in
    let i : ℕ = is.position in
    let covered = folded_covered shape count frames j is in
    let inside : i < t.size = live_inside shape frames i covered.0 legal covered.1 in
    let folded : (tally_of (frames_with frames f)).folded ≡ t.folded =
    ap (λ u. u.folded) (tally_from_push nothing frames (blanked f)) ∙ same_folded t f no_fold in
    let here : Option ℕ = early_in shape t.folded count i (length (text shape frames)) t (blanked f) in
    let again = told_again here is.told in
    record {
      position = i;
      place = is.place;
      told = again.turned;
      home_is =
          home_push shape frames (blanked f) i
          ∙ ap (λ o. option_or o (home_of shape frames i))
          (home_in_before shape.width i (length (text shape frames)) t (blanked f) inside)
          ∙ is.home_is;
      covered =
          ap (λ n. last_from (early_in shape n count i) shape.format (length (header shape)) nothing (frames_with frames f)) folded
          ∙ last_push (early_in shape t.folded count i) shape frames (blanked f) ∙ ap (option_or here) is.covered ∙ again.is;
      from = is.from;
      before = is.before;
    }
