-- The homes of two positions stand apart, and homes stand apart from the records of changes.
use Rattle.std.proofs.Common.{◌≡◌, ℕ, ◌+◌, ◌-◌, ◌*◌, ◌≤◌, ◌<◌, List, [], ◌∷◌, length, sum, Option, Some, ap, ◌∙◌, arith, inl, inr}
use Rattle.std.specs.Prelude.{◌⊎◌}
use Rattle.std.proofs.lemmas.Bool.{cases_eq, cases_order}
use Rattle.std.proofs.lemmas.Nat.{row_fits}
use Rattle.segment_core.specs.declared.format.Shape.{Shape}
use Rattle.segment_core.specs.declared.tally.Tally.{Tally}
use Rattle.segment_core.specs.Frame.{Frame, Group, Change, Shrink, Fold, header, frame_text}
use Rattle.segment_core.specs.Layout.{IsFrame}
use Rattle.segment_core.specs.Tally.{nothing, after, tally_of, AreLegalFrom, AreLegal}
use Rattle.segment_core.specs.Vector.{last_from, home_in, change_in, home_of, change_of, place_of}
use Rattle.segment_core.specs.Folding.{IsLoose}
use Rattle.segment_core.proofs.LastFrom.{option_or_cases}
use Rattle.segment_core.proofs.PlaceAmong.{place_among_some}
use Rattle.segment_core.proofs.PlaceOf.{SaysInside, last_from_between, home_in_between, change_in_between, place_of_cases}

-- the records at two places share no byte
abbrev pub Apart : ℕ → ℕ → ℕ → Type 0
Apart width a b = (a + width ≤ b) ⊎ (b + width ≤ a)

-- ---- of one frame, and of many

-- what one says and what the other says in one frame stand apart
abbrev pub SayApart : Shape → (ℕ → Tally → Frame → Option ℕ) → (ℕ → Tally → Frame → Option ℕ) → Type 0
SayApart shape says others =
    (p : ℕ) (tally : Tally) (frame : Frame) (a b : ℕ)
    → IsFrame shape frame → says p tally frame ≡ Some a → others p tally frame ≡ Some b
    → Apart shape.width a b

last_from_apart : (shape : Shape) (says others : ℕ → Tally → Frame → Option ℕ) (p : ℕ) (tally : Tally)
    (frames : List Frame) (a b : ℕ)
    → SaysInside shape says → SaysInside shape others → SayApart shape says others
    → AreLegalFrom shape tally frames
    → last_from says shape.format p tally frames ≡ Some a → last_from others shape.format p tally frames ≡ Some b → Apart shape.width a b
last_from_apart shape says others p tally [] a b inside inside' apart legal x y = absurd cc
last_from_apart shape says others p tally (frame ∷ frames) a b inside inside' apart legal x y =
    let n : ℕ = p + length (frame_text shape.format frame) in
    elim (option_or_cases (last_from says shape.format n (after tally frame) frames) (says p tally frame) a x) [
      | inl later ↦ elim (option_or_cases (last_from others shape.format n (after tally frame) frames) (others p tally frame) b y) [
        | inl too ↦ last_from_apart shape says others n (after tally frame) frames a b inside inside' apart legal.2 later too
        | inr here ↦ (let u = last_from_between shape says n (after tally frame) frames a inside legal.2 later in let v = inside' p tally frame b legal.0 here.1 in inr (omega (arith, u.from, v.to)))
      ]
      | inr here ↦ elim (option_or_cases (last_from others shape.format n (after tally frame) frames) (others p tally frame) b y) [
        | inl later ↦
            (let u = last_from_between shape others n (after tally frame) frames b inside' legal.2 later in
            let v = inside p tally frame a legal.0 here.1 in inl (omega (arith, u.from, v.to)))
        | inr too ↦ apart p tally frame a b legal.0 here.1 too.1
      ]
    ]

home_in_apart : (shape : Shape) (i k : ℕ) → (i ≡ k → ⊥) → SayApart shape (home_in shape.width i) (home_in shape.width k)
home_in_apart shape i k other p tally (Group lengths bytes) a b whole x y =
    let u = place_among_some shape.width (p + 10 + length lengths * 4) tally.size (sum lengths) i a x in
    let v = place_among_some shape.width (p + 10 + length lengths * 4) tally.size (sum lengths) k b y in
    elim (cases_order i k) [
      | inl same ↦ absurd (other same)
      | inr (inl before) ↦ (let row = row_fits (i - tally.size) shape.width (k - tally.size) shape.width (omega (arith, u.from)) (omega arith) in inl (omega (arith, u.at, v.at)))
      | inr (inr after) ↦ (let row = row_fits (k - tally.size) shape.width (i - tally.size) shape.width (omega (arith, v.from)) (omega arith) in inr (omega (arith, u.at, v.at)))
    ]
home_in_apart shape i k other p tally (Change runs bytes) a b whole x y = absurd cc
home_in_apart shape i k other p tally (Shrink n) a b whole x y = absurd cc
home_in_apart shape i k other p tally (Fold count) a b whole x y = absurd cc

-- no frame is both
change_in_apart : (shape : Shape) (folded i k : ℕ) → SayApart shape (change_in shape folded i) (home_in shape.width k)
change_in_apart shape folded i k p tally (Group lengths bytes) a b whole x y = absurd cc
change_in_apart shape folded i k p tally (Change runs bytes) a b whole x y = absurd cc
change_in_apart shape folded i k p tally (Shrink n) a b whole x y = absurd cc
change_in_apart shape folded i k p tally (Fold count) a b whole x y = absurd cc

-- ---- of a file

pub home_of_apart : (shape : Shape) (frames : List Frame) (i k a b : ℕ)
    → AreLegal shape frames → (i ≡ k → ⊥) → home_of shape frames i ≡ Some a → home_of shape frames k ≡ Some b
    → Apart shape.width a b
home_of_apart shape frames i k a b legal other x y =
    last_from_apart shape (home_in shape.width i) (home_in shape.width k) (length (header shape)) nothing frames a b
    (home_in_between shape i) (home_in_between shape k) (home_in_apart shape i k other) legal x y

pub change_of_apart : (shape : Shape) (folded : ℕ) (frames : List Frame) (i k a b : ℕ)
    → AreLegal shape frames → change_of shape folded frames i ≡ Some a → home_of shape frames k ≡ Some b
    → Apart shape.width a b
change_of_apart shape folded frames i k a b legal x y =
    last_from_apart shape (change_in shape folded i) (home_in shape.width k) (length (header shape)) nothing frames a
    b (change_in_between shape folded i) (home_in_between shape k) (change_in_apart shape folded i k) legal x y

-- a byte that says what is at a position isn't loose
pub place_of_told : (shape : Shape) (frames : List Frame) (i place j : ℕ)
    → AreLegal shape frames → place_of shape frames i ≡ Some place → place ≤ j → j < place + shape.width
    → IsLoose shape frames j
    → ⊥
place_of_told shape frames i place j legal is from before loose =
    let folded : ℕ = (tally_of frames).folded in
    elim (place_of_cases shape frames i place is) [
      | inl changed ↦ elim (change_of_apart shape folded frames i loose.position place loose.place legal changed loose.home_is) [
        | inl a ↦ omega (arith, a, loose.from, loose.before)
        | inr b ↦ omega (arith, b, loose.from, loose.before)
      ]
      | inr kept ↦ elim (cases_eq i loose.position) [
        | inl same ↦ (let covered : change_of shape folded frames i ≡ Some loose.told = ap (change_of shape folded frames) same ∙ loose.covered in let none = kept.0 in absurd cc)
        | inr other ↦ elim (home_of_apart shape frames i loose.position place loose.place legal other kept.1 loose.home_is) [
          | inl a ↦ omega (arith, a, loose.from, loose.before)
          | inr b ↦ omega (arith, b, loose.from, loose.before)
        ]
      ]
    ]
