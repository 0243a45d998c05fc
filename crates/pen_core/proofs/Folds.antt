-- What a fold in hand knows stays while groups and later changes are committed.
use Rattle.std.proofs.Common.{◌≡◌, ℕ, ◌+◌, ◌≤◌, ◌<◌, List, [], ◌∷◌, ◌++◌, length, get_or, Some, refl, sym, ap, subst, ◌∙◌, arith, inl, inr}
use Rattle.std.specs.List.{AllByRecursion}
use Rattle.std.proofs.lemmas.Bool.{cases_lt}
use Rattle.disk_core.specs.State.{State, overlay, written}
use Rattle.disk_core.proofs.ImageLemmas.{length-overlay, get_or-overlay}
use Rattle.segment_core.specs.declared.format.Shape.{Shape}
use Rattle.segment_core.specs.Frame.{Frame, Group, Change, Shrink, Fold}
use Rattle.segment_core.specs.Tally.{tally_of, AreLegal}
use Rattle.segment_core.specs.Image.{BeginsImage}
use Rattle.segment_core.specs.Vector.{IsVectorOf}
use Rattle.segment_core.specs.Folding.{HomesHold}
use Rattle.segment_core.specs.Blanked.{blanked, all_blanked}
use Rattle.segment_core.specs.Raw.{raw}
use Rattle.segment_core.specs.Parsed.{frames_before}
use Rattle.segment_core.proofs.PlaceOf.{home_of_between}
use Rattle.segment_core.proofs.Loose.{take_same}
use Rattle.segment_core.proofs.Push.{BeginsImage_before}
use Rattle.segment_core.proofs.Blanked.{all_blanked-all_blanked, same_tally, same_gate}
use Rattle.segment_core.proofs.HomesHold.{Appends, HomesHold_push, HomesHold_same, HomesHold_blanked}
use Rattle.segment_core.proofs.Parsed.{frames_before-text}
use Rattle.pen_core.specs.Held.{HoldsFrames, gate_of}
use Rattle.pen_core.specs.Vectors.{frames_with}
use Rattle.pen_core.specs.PenOf.{HomeWrite}
use Rattle.pen_core.specs.Folds.{laid, IsHomeWrite, IsFolding}
use Rattle.pen_core.proofs.Again.{blank_again}
use Rattle.pen_core.proofs.BeingFolded.{IsBeingFolded_push}
use Rattle.pen_core.proofs.Begun.{held_legal}
use Rattle.pen_core.proofs.Pens.{gate_with}
use Rattle.pen_core.proofs.Overlaid.{overlaid}

-- ---- laid writes

-- bytes that agree below n
pub record LaidAlike (n : ℕ) (a b : List ℕ) : Type 0 where
  pub long : n ≤ length a
  pub long_too : n ≤ length b
  pub each : (j : ℕ) → j < n → get_or a j 0 ≡ get_or b j 0

overlays_agree : (a b : List ℕ) (at : ℕ) (bytes : List ℕ) (n j : ℕ) → n ≤ length a → n ≤ length b → at + length bytes ≤ n
    → j < n → get_or a j 0 ≡ get_or b j 0 → get_or (overlay a at bytes) j 0 ≡ get_or (overlay b at bytes) j 0
overlays_agree a b at bytes n j la lb fits lt same = elim (cases_lt j at) [
  | inl before ↦ get_or-overlay a at bytes j (omega arith) (omega arith) (inl before) ∙ same
      ∙ sym (get_or-overlay b at bytes j (omega arith) (omega arith) (inl before))
  | inr from ↦ elim (cases_lt j (at + length bytes)) [
    | inl inside ↦ overlaid a at bytes j (omega arith) from inside ∙ sym (overlaid b at bytes j (omega arith) from inside)
    | inr past ↦ get_or-overlay a at bytes j (omega arith) (omega arith) (inr past) ∙ same
        ∙ sym (get_or-overlay b at bytes j (omega arith) (omega arith) (inr past))
  ]
]

laid_alike : (shape : Shape) (count : ℕ) (frames : List Frame) (left : List HomeWrite) (a b : List ℕ)
    → AllByRecursion (IsHomeWrite shape count frames) left → LaidAlike (gate_of shape frames) a b
    → LaidAlike (gate_of shape frames) (laid left a) (laid left b)
laid_alike shape count frames [] a b below same = same
laid_alike shape count frames (w ∷ left) a b below same =
    let n : ℕ = gate_of shape frames in
    let fits = below.0.below_gate in
    let la = same.long in
    let lb = same.long_too in
    laid_alike shape count frames left (overlay a w.place w.bytes) (overlay b w.place w.bytes) below.1 (record {
      long = omega (arith, length-overlay a w.place w.bytes (omega arith));
      long_too = omega (arith, length-overlay b w.place w.bytes (omega arith));
      each = λ j lt. overlays_agree a b w.place w.bytes n j la lb fits lt (same.each j lt);
    })

-- a call that changes nothing below the gate
pub folding_alike : (shape : Shape) (count : ℕ) (frames : List Frame) (vector : List (List ℕ)) (left : List HomeWrite)
    (s t : State)
    → AreLegal shape frames → LaidAlike (gate_of shape frames) s.seen t.seen → IsFolding shape count frames vector left s
    → IsFolding shape count frames vector left t
folding_alike shape count frames vector left s t legal same fold =
    let both = laid_alike shape count frames left s.seen t.seen fold.into_homes same in
    let la = both.long in
    let lb = both.long_too in
    record {
      homes_hold = HomesHold_same shape.format (raw shape.width) (laid left s.seen) (laid left t.seen) frames count vector
          (λ i place at. (
          let b = home_of_between shape frames i place legal at in
          ap (λ c. Some c)
          (sym
          (take_same shape.width place (laid left s.seen) (laid left t.seen) (omega (arith, b.to))
          (omega (arith, b.to)) (λ j from before. both.each j (omega (arith, b.to)))))))
          fold.homes_hold;
      into_homes = fold.into_homes;
    }

pub folding_seen : (shape : Shape) (count : ℕ) (frames : List Frame) (vector : List (List ℕ)) (left : List HomeWrite)
    (s t : State)
    → s.seen ≡ t.seen → IsFolding shape count frames vector left s → IsFolding shape count frames vector left t
folding_seen shape count frames vector left s t same fold =
    record {
      homes_hold = subst (λ bs. HomesHold shape.format (raw shape.width) (laid left bs) frames count vector) same
          fold.homes_hold;
      into_homes = fold.into_homes;
    }

-- ---- one more group or change

-- a list that ends with a frame, but for home bytes
record Ends (frames front : List Frame) (last : Frame) : Type 0 where
  init : List Frame
  end : Frame
  is : frames ≡ init ++ end ∷ []
  alike : all_blanked init ≡ front
  ends_alike : blanked end ≡ last

ends_with : (frames front : List Frame) (last : Frame) → all_blanked frames ≡ front ++ last ∷ [] → Ends frames front last
ends_with [] [] last is = absurd cc
ends_with [] (g ∷ front) last is = absurd cc
ends_with (f ∷ []) [] last is = record { init = []; end = f; is = refl; alike = refl; ends_alike = cc }
ends_with (f ∷ g ∷ frames) [] last is = absurd cc
ends_with (f ∷ frames) (g ∷ front) last is =
    let rest = ends_with frames front last cc in
    let first : blanked f ≡ g = cc in
    record {
      init = f ∷ rest.init;
      end = rest.end;
      is = ap (λ fs. f ∷ fs) rest.is;
      alike = ap (λ x. x ∷ all_blanked rest.init) first ∙ ap (λ fs. g ∷ fs) rest.alike;
      ends_alike = rest.ends_alike;
    }

same_appends : (f g : Frame) → blanked f ≡ blanked g → Appends g → Appends f
same_appends (Group lengths bytes) g same appends = tt
same_appends (Change runs bytes) g same appends = tt
same_appends (Shrink n) (Group lengths bytes) same appends = absurd cc
same_appends (Shrink n) (Change runs bytes) same appends = absurd cc
same_appends (Shrink n) (Shrink m) same appends = absurd appends
same_appends (Shrink n) (Fold c) same appends = absurd appends
same_appends (Fold c) (Group lengths bytes) same appends = absurd cc
same_appends (Fold c) (Change runs bytes) same appends = absurd cc
same_appends (Fold c) (Shrink m) same appends = absurd appends
same_appends (Fold c) (Fold d) same appends = absurd appends

no_fold : (f : Frame) → Appends f → (fold : ℕ) → f ≡ Fold fold → ⊥
no_fold (Group lengths bytes) appends fold is = absurd cc
no_fold (Change runs bytes) appends fold is = absurd cc
no_fold (Shrink n) appends fold is = absurd appends
no_fold (Fold c) appends fold is = absurd appends

module _ (shape : Shape) (count : ℕ) (frames : List Frame) (f : Frame) (vector then : List (List ℕ)) (bytes : List ℕ)
    (has : HoldsFrames shape frames vector bytes) (more : HoldsFrames shape (frames_with frames f) then bytes) (appends : Appends f) where
  ends : Ends more.found frames (blanked f)
  ends = ends_with more.found frames (blanked f) more.alike

  begins : BeginsImage shape bytes (ends.init ++ ends.end ∷ [])
  begins = subst (BeginsImage shape bytes) ends.is more.begins

  -- the frames that were held begin those that are
  init_is : has.found ≡ ends.init
  init_is =
      let same : all_blanked has.found ≡ all_blanked ends.init = has.alike ∙ sym ends.alike in
      sym (frames_before-text shape bytes has.found has.begins) ∙ ap (λ n. frames_before shape n bytes) (same_gate has.found ends.init same shape)
      ∙ frames_before-text shape bytes ends.init (begins_before)
    where
      begins_before : BeginsImage shape bytes ends.init
      begins_before = BeginsImage_before shape bytes ends.init ends.end begins

  pub HomesHold_more : (held : List ℕ) → (tally_of frames).folded ≤ count → count ≤ (tally_of frames).changes
      → HomesHold shape.format (raw shape.width) held frames count vector
      → HomesHold shape.format (raw shape.width) held (frames_with frames f) count then
  HomesHold_more held from upto hold =
      let tally = same_tally has.found frames (sym (blank_again has.found frames has.alike)) in
      let read = subst (λ fs. IsVectorOf shape.format (raw shape.width) bytes fs vector) init_is has.read in
      let read' = subst (λ fs. IsVectorOf shape.format (raw shape.width) bytes fs then) ends.is more.read in
      let tally' : tally_of ends.init ≡ tally_of frames = ap tally_of (sym init_is) ∙ tally in
      HomesHold_blanked shape.format (raw shape.width) held (ends.init ++ ends.end ∷ []) (frames_with frames f) count then
      (sym (blank_again (ends.init ++ ends.end ∷ []) (frames_with frames f) (ap all_blanked (sym ends.is) ∙ more.alike)))
      (HomesHold_push shape.format (raw shape.width) bytes held ends.init count vector then ends.end begins (same_appends ends.end f (ends.ends_alike) appends)
      (subst (λ t. t.folded ≤ count) (sym tally') from) (subst (λ t. count ≤ t.changes) (sym tally') upto) read read'
      (HomesHold_blanked shape.format (raw shape.width) held frames ends.init count vector (ap all_blanked (sym ends.alike) ∙ blank_twice) hold))
    where
      blank_twice : all_blanked (all_blanked ends.init) ≡ all_blanked ends.init
      blank_twice = all_blanked-all_blanked ends.init

-- the writes stay home writes
homes_behind : (shape : Shape) (count : ℕ) (frames : List Frame) (f : Frame) (left : List HomeWrite) → AreLegal shape frames
    → Appends f → AllByRecursion (IsHomeWrite shape count frames) left
    → AllByRecursion (IsHomeWrite shape count (frames_with frames f)) left
homes_behind shape count frames f [] legal appends all = tt
homes_behind shape count frames f (w ∷ left) legal appends all =
    let below = all.0.below_gate in (
      record {
        some = all.0.some;
        below_gate = omega (arith, gate_with shape frames f);
        folded = λ j from before.
            IsBeingFolded_push shape count frames f j legal (no_fold f appends) (all.0.folded j from before);
      },
      homes_behind shape count frames f left legal appends all.1,
    )

pub folding_more : (shape : Shape) (count : ℕ) (frames : List Frame) (f : Frame) (vector then : List (List ℕ))
    (left : List HomeWrite) (s : State)
    → HoldsFrames shape frames vector s.seen → HoldsFrames shape (frames_with frames f) then s.seen → Appends f
    → (tally_of frames).folded ≤ count
    → count ≤ (tally_of frames).changes → IsFolding shape count frames vector left s → IsFolding shape count (frames_with frames f) then left s
folding_more shape count frames f vector then left s has more appends from upto fold = record {
  homes_hold = HomesHold_more shape count frames f vector then s.seen has more appends (laid left s.seen) from upto fold.homes_hold;
  into_homes = homes_behind shape count frames f left (held_legal shape frames vector s.seen has) appends fold.into_homes;
}

-- ---- a home write

pub folding_written : (shape : Shape) (count : ℕ) (frames : List Frame) (vector : List (List ℕ)) (write : HomeWrite)
    (left : List HomeWrite) (s : State)
    → IsFolding shape count frames vector (write ∷ left) s
    → IsFolding shape count frames vector left (written s write.place write.bytes)
folding_written shape count frames vector write left s fold = record { homes_hold = fold.homes_hold; into_homes = fold.into_homes.1 }
