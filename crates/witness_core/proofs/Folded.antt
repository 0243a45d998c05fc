-- What a fold writes anew is what a later change covers.
use Rattle.std.proofs.Common.{◌≡◌, ℕ, ◌+◌, ◌-◌, ◌*◌, ◌≤◌, ◌<◌, true, false, List, [], ◌∷◌, length, Some, None, refl, sym, ap, subst, ◌∙◌, arith, inl, inr}
use Rattle.std.specs.Prelude.{nat_lt, not, sum, IsSome}
use Rattle.std.specs.Option.{option_or}
use Rattle.std.proofs.lemmas.Bool.{cases_lt, ltb-false, or_parts}
use Rattle.segment_core.specs.declared.format.Shape.{Shape}
use Rattle.segment_core.specs.declared.tally.Tally.{Tally}
use Rattle.segment_core.specs.Frame.{Run, Frame, Group, Change, Shrink, Fold, frame_text, runs_len}
use Rattle.segment_core.specs.Tally.{nothing, after, tally_from, tally_of, are_inside, AreLegalFrom, AreLegal}
use Rattle.segment_core.specs.Vector.{last_from, home_in, change_in, home_of, change_of, place_among, place_in_runs}
use Rattle.segment_core.specs.Blanked.{all_blanked}
use Rattle.segment_core.proofs.LastFrom.{option_or_cases, both_none}
use Rattle.segment_core.proofs.PlaceAmong.{place_among_some, place_among_inside, place_among_below, place_in_runs_inside}
use Rattle.segment_core.proofs.PlaceOf.{change_in_some, home_in_between, last_from_between, some_or}
use Rattle.segment_core.proofs.Blanked.{tally_from-blanked, home_of-blanked, change_of-blanked}
use Rattle.pen_core.specs.Held.{IsBeingFolded}
use Rattle.pen_core.proofs.Again.{folded_covered}
use Rattle.beside_core.specs.MayDiffer.{LiesInRuns, WillChange, size_after, MayDifferIn, MayDiffer}
use Rattle.beside_core.proofs.MayDiffer.{size_after-is}

-- ---- runs

-- runs say of the same positions something, wherever they stand
runs_say : (i w p v q : ℕ) (runs : List Run) (x : ℕ) → place_in_runs w i p runs ≡ Some x → (y : ℕ) × (place_in_runs v i q runs ≡ Some y)
runs_say i w p v q [] x is = absurd cc
runs_say i w p v q (run ∷ runs) x is = elim (option_or_cases (place_in_runs w i (p + run.count * w) runs) (place_among w p run.start run.count i) x is) [
  | inl later ↦ (
      let rest = runs_say i w (p + run.count * w) v (q + run.count * v) runs x later in
      (rest.0, ap (λ o. option_or o (place_among v q run.start run.count i)) rest.1))
  | inr here ↦ (
      let among = place_among_some w p run.start run.count i x here.1 in
      some_or (place_in_runs v i (q + run.count * v) runs) (place_among v q run.start run.count i) (q + (i - run.start) * v)
      (place_among_inside v q run.start run.count i among.from among.before))
]

lie_in_runs : (i w p : ℕ) (runs : List Run) (x : ℕ) → place_in_runs w i p runs ≡ Some x → LiesInRuns i runs
lie_in_runs i w p runs x is = let said = runs_say i w p 1 0 runs x is in subst IsSome (sym said.1) refl

not_false : (b : _) → not b ≡ false → b ≡ true
not_false true is = refl
not_false false is = absurd cc

-- ---- a live change comes behind the home of its positions

module _ (shape : Shape) (i folded : ℕ) where
  folded_grows : (tally : Tally) (frames : List Frame) → AreLegalFrom shape tally frames → tally.folded ≤ (tally_from tally frames).folded
  folded_grows tally [] legal = omega arith
  folded_grows tally (Group lengths bytes ∷ frames) legal = folded_grows (after tally (Group lengths bytes)) frames legal.2
  folded_grows tally (Change runs bytes ∷ frames) legal = folded_grows (after tally (Change runs bytes)) frames legal.2
  folded_grows tally (Shrink n ∷ frames) legal = folded_grows (after tally (Shrink n)) frames legal.2
  folded_grows tally (Fold count ∷ frames) legal =
      let rest = folded_grows (after tally (Fold count)) frames legal.2 in
      let kept : tally.folded ≤ count = ltb-false count tally.folded ((or_parts (nat_lt count tally.folded) (nat_lt tally.changes count) legal.1.counted).0) in
      omega arith

  -- the position was there when a change was made that stays live: no later frame makes a home for it
  no_later_home : (tally : Tally) (p : ℕ) (frames : List Frame) → AreLegalFrom shape tally frames → i < tally.size → folded < tally.changes → (tally_from tally frames).folded ≤ folded
      → last_from (home_in shape.width i) shape.format p tally frames ≡ None
  no_later_home tally p [] legal inside live upto = refl
  no_later_home tally p (Group lengths bytes ∷ frames) legal inside live upto =
      let f = Group lengths bytes in
      ap (λ o. option_or o (home_in shape.width i p tally f)) (no_later_home (after tally f) (p + length (frame_text shape.format f)) frames legal.2 (omega arith) live upto)
      ∙ place_among_below shape.width (p + 10 + length lengths * 4) tally.size (sum lengths) i inside
  no_later_home tally p (Change runs bytes ∷ frames) legal inside live upto =
      let f = Change runs bytes in
      ap (λ o. option_or o None) (no_later_home (after tally f) (p + length (frame_text shape.format f)) frames legal.2 inside (omega arith) upto)
  no_later_home tally p (Shrink n ∷ frames) legal inside live upto =
      let none : tally.changes ≤ tally.folded = ltb-false tally.folded tally.changes legal.1.folded in
      let rest = folded_grows (after tally (Shrink n)) frames legal.2 in
      absurd (omega arith)
  no_later_home tally p (Fold count ∷ frames) legal inside live upto =
      let f = Fold count in
      ap (λ o. option_or o None) (no_later_home (after tally f) (p + length (frame_text shape.format f)) frames legal.2 inside live upto)

  change_inside : (tally : Tally) (p : ℕ) (runs : List Run) (bytes : List ℕ) (told : ℕ) → AreLegalFrom shape tally (Change runs bytes ∷ [])
      → change_in shape folded i p tally (Change runs bytes) ≡ Some told → (folded ≤ tally.changes) × (i < tally.size) × LiesInRuns i runs
  change_inside tally p runs bytes told legal is =
      let said = change_in_some shape folded i p tally runs bytes told is in
      let inside = not_false (are_inside tally.size runs) legal.1.inside in (
        said.0,
        place_in_runs_inside shape.width i (p + 6 + runs_len shape.format (length runs)) tally.size runs told inside said.1,
        lie_in_runs i shape.width (p + 6 + runs_len shape.format (length runs)) runs told said.1,
      )

  -- frames that change a position, and make no home for it: it was there before them, and no shrink comes first that cuts it off
  will_change : (tally : Tally) (p : ℕ) (frames : List Frame) (told : ℕ) → AreLegalFrom shape tally frames → last_from (home_in shape.width i) shape.format p tally frames ≡ None
      → last_from (change_in shape folded i) shape.format p tally frames ≡ Some told → (i < tally.size) × WillChange i frames
  will_change tally p [] told legal none said = absurd cc
  will_change tally p (Group lengths bytes ∷ frames) told legal none said =
      let f = Group lengths bytes in
      let q : ℕ = p + length (frame_text shape.format f) in
      let homeless = both_none (last_from (home_in shape.width i) shape.format q (after tally f) frames) (home_in shape.width i p tally f) none in
      elim (option_or_cases (last_from (change_in shape folded i) shape.format q (after tally f) frames) None told said) [
        | inl later ↦ (let rest = will_change (after tally f) q frames told legal.2 homeless.0 later in (not_in_group lengths (p + 10 + length lengths * 4) tally homeless.1 rest.0, rest.1))
        | inr here ↦ absurd cc
      ]
    where
      not_in_group : (lengths : List ℕ) (at : ℕ) (tally : Tally) → place_among shape.width at tally.size (sum lengths) i ≡ None → i < tally.size + sum lengths → i < tally.size
      not_in_group lengths at tally homeless lt = elim (cases_lt i tally.size) [
        | inl below ↦ below
        | inr from ↦ (let some = place_among_inside shape.width at tally.size (sum lengths) i from lt in let clash = sym homeless ∙ some in absurd cc)
      ]
  will_change tally p (Change runs bytes ∷ frames) told legal none said =
      let f = Change runs bytes in
      let q : ℕ = p + length (frame_text shape.format f) in
      let homeless = both_none (last_from (home_in shape.width i) shape.format q (after tally f) frames) None none in
      elim (option_or_cases (last_from (change_in shape folded i) shape.format q (after tally f) frames) (change_in shape folded i p tally f) told said) [
        | inl later ↦ (let rest = will_change (after tally f) q frames told legal.2 homeless.0 later in (rest.0, inr rest.1))
        | inr here ↦ (let one = change_inside tally p runs bytes told (legal.0, legal.1, tt) here.1 in (one.1, inl one.2))
      ]
  will_change tally p (Shrink n ∷ frames) told legal none said =
      let f = Shrink n in
      let q : ℕ = p + length (frame_text shape.format f) in
      let homeless = both_none (last_from (home_in shape.width i) shape.format q (after tally f) frames) None none in
      let fits : n ≤ tally.size = ltb-false tally.size n legal.1.inside in
      elim (option_or_cases (last_from (change_in shape folded i) shape.format q (after tally f) frames) None told said) [
        | inl later ↦ (let rest = will_change (after tally f) q frames told legal.2 homeless.0 later in let cut = rest.0 in (omega arith, (cut, rest.1)))
        | inr here ↦ absurd cc
      ]
  will_change tally p (Fold count ∷ frames) told legal none said =
      let f = Fold count in
      let q : ℕ = p + length (frame_text shape.format f) in
      let homeless = both_none (last_from (home_in shape.width i) shape.format q (after tally f) frames) None none in
      elim (option_or_cases (last_from (change_in shape folded i) shape.format q (after tally f) frames) None told said) [
        | inl later ↦ will_change (after tally f) q frames told legal.2 homeless.0 later
        | inr here ↦ absurd cc
      ]

  -- ---- so its home bytes may differ

  module _ (place j : ℕ) (from : place ≤ j) (before : j < place + shape.width) where
    in_frame : (tally : Tally) (p : ℕ) (frame : Frame) (later : List Frame) (told : ℕ) → AreLegalFrom shape tally (frame ∷ later) → home_in shape.width i p tally frame ≡ Some place
        → last_from (home_in shape.width i) shape.format (p + length (frame_text shape.format frame)) (after tally frame) later ≡ None
        → last_from (change_in shape folded i) shape.format p tally (frame ∷ later) ≡ Some told → MayDifferIn shape tally.size later frame (j - p)
    in_frame tally p (Group lengths bytes) later told legal home none said =
        let f = Group lengths bytes in
        let q : ℕ = p + length (frame_text shape.format f) in
        let among = place_among_some shape.width (p + 10 + length lengths * 4) tally.size (sum lengths) i place home in
        let first = among.from in
        let last = among.before in
        let at = among.at in
        let here : tally.size + (i - tally.size) ≡ i = omega arith in
        elim (option_or_cases (last_from (change_in shape folded i) shape.format q (after tally f) later) None told said) [
          | inl then ↦ (
            i - tally.size,
            omega arith,
            omega arith,
            omega arith,
            subst (λ k. WillChange k later) (sym here) ((will_change (after tally f) q later told legal.2 none then).1),
          )
          | inr none ↦ absurd cc
        ]
    in_frame tally p (Change runs bytes) later told legal home none said = absurd cc
    in_frame tally p (Shrink n) later told legal home none said = absurd cc
    in_frame tally p (Fold count) later told legal home none said = absurd cc

    -- a change that is live can't come before the home
    home_is_first : (tally : Tally) (p : ℕ) (frame : Frame) (later : List Frame) (told : ℕ) → AreLegalFrom shape tally (frame ∷ later) → (tally_from tally (frame ∷ later)).folded ≤ folded
        → last_from (home_in shape.width i) shape.format (p + length (frame_text shape.format frame)) (after tally frame) later ≡ Some place
        → change_in shape folded i p tally frame ≡ Some told → ⊥
    home_is_first tally p (Group lengths bytes) later told legal upto home said = absurd cc
    home_is_first tally p (Change runs bytes) later told legal upto home said =
        let f = Change runs bytes in
        let one = change_inside tally p runs bytes told (legal.0, legal.1, tt) said in
        let live = one.0 in
        let none = no_later_home (after tally f) (p + length (frame_text shape.format f)) later legal.2 one.1 (omega arith) upto in
        let clash = sym none ∙ home in
        absurd cc
    home_is_first tally p (Shrink n) later told legal upto home said = absurd cc
    home_is_first tally p (Fold count) later told legal upto home said = absurd cc

    differs : (tally : Tally) (p : ℕ) (frames : List Frame) (told : ℕ) → AreLegalFrom shape tally frames → (tally_from tally frames).folded ≤ folded
        → last_from (home_in shape.width i) shape.format p tally frames ≡ Some place → last_from (change_in shape folded i) shape.format p tally frames ≡ Some told
        → MayDiffer shape tally.size frames (j - p)
    differs tally p [] told legal upto home said = absurd cc
    differs tally p (frame ∷ later) told legal upto home said =
        let n : ℕ = length (frame_text shape.format frame) in
        let q : ℕ = p + n in
        let t : Tally = after tally frame in
        elim (option_or_cases (last_from (home_in shape.width i) shape.format q t later) (home_in shape.width i p tally frame) place home) [
          | inl then ↦ (
              let behind = (last_from_between shape (home_in shape.width i) q t later place (home_in_between shape i) legal.2 then).from in
              let at : j - q ≡ j - p - n = omega arith in
              elim (option_or_cases (last_from (change_in shape folded i) shape.format q t later) (change_in shape folded i p tally frame) told said) [
                | inl both ↦ inr (
                  omega arith,
                  subst (λ k. MayDiffer shape (size_after tally.size frame) later k) at
                      (subst (λ size. MayDiffer shape size later (j - q)) (sym (size_after-is tally frame)) (differs t q later told legal.2 upto then both)),
                )
                | inr first ↦ absurd (home_is_first tally p frame later told legal upto then first.1)
              ])
          | inr here ↦ inl (in_frame tally p frame later told legal here.1 here.0 said)
        ]

-- a home byte that is being folded, whatever stands in home bytes
pub folded_differs : (shape : Shape) (count : ℕ) (written : List Frame) (j : ℕ) → AreLegal shape written → IsBeingFolded shape count (all_blanked written) j
    → (i : ℕ) × (j ≡ 11 + i) × MayDiffer shape 0 written i
folded_differs shape count written j legal is =
    let covered = folded_covered shape count (all_blanked written) j is in
    let told : change_of shape (tally_of written).folded written is.position ≡ Some covered.0
    = sym (change_of-blanked shape (tally_of written).folded written is.position)
    ∙ ap (λ t. change_of shape t.folded (all_blanked written) is.position) (sym (tally_from-blanked nothing written)) ∙ covered.1 in
    let home : home_of shape written is.position ≡ Some is.place = sym (home_of-blanked shape written is.position) ∙ is.home_is in
    let from = is.from in
    let before = is.before in
    let behind = (last_from_between shape (home_in shape.width is.position) 11 nothing written is.place (home_in_between shape is.position) legal home).from in
    (j - 11, omega arith, differs shape is.position (tally_of written).folded is.place j from before nothing 11 written covered.0 legal (omega arith) home told)
