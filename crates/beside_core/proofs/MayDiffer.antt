-- Bytes that may differ: where they lie, and that they go on to be such.
use Rattle.std.proofs.Common.{◌≡◌, ℕ, ◌+◌, ◌-◌, ◌*◌, ◌≤◌, ◌<◌, List, [], ◌∷◌, ◌++◌, length, sum, refl, subst, arith, inl, inr, length-append}
use Rattle.std.specs.List.{flat_map}
use Rattle.std.proofs.lemmas.Nat.{row_fits}
use Rattle.segment_core.specs.declared.format.Shape.{Shape}
use Rattle.segment_core.specs.declared.tally.Tally.{Tally}
use Rattle.segment_core.specs.Frame.{Frame, Group, Change, Shrink, Fold, frame_text}
use Rattle.segment_core.specs.Layout.{IsFrame}
use Rattle.segment_core.specs.Tally.{after, tally_from, AreLegalFrom}
use Rattle.segment_core.proofs.Payload.{length-frame_text, length-group_payload}
use Rattle.beside_core.specs.MayDiffer.{WillChange, size_after, MayDifferIn, MayDiffer}

-- ---- where they lie

-- such a byte of a frame lies inside it, behind its head
differs_inside : (shape : Shape) (size : ℕ) (later : List Frame) (frame : Frame) (j : ℕ) → IsFrame shape frame → MayDifferIn shape size later frame j
    → (6 ≤ j) × (j < length (frame_text shape.format frame))
differs_inside shape size later (Group lengths bytes) j whole differs =
    let fits = row_fits differs.0 shape.width (sum lengths) shape.width differs.1 (omega arith) in
    let filled : length bytes ≡ sum lengths * shape.width = whole.layout.2 in
    (omega (arith, differs.2), omega (arith, differs.3, fits, filled, length-frame_text shape.format (Group lengths bytes), length-group_payload shape.format lengths bytes))
differs_inside shape size later (Change runs bytes) j whole differs = absurd differs
differs_inside shape size later (Shrink n) j whole differs = absurd differs
differs_inside shape size later (Fold count) j whole differs = absurd differs

-- none lies in a head
pub head_firm : (shape : Shape) (tally : Tally) (size : ℕ) (before : List Frame) (frame : Frame) (later : List Frame) (j : ℕ) → j < 6 → AreLegalFrom shape tally (before ++ frame ∷ later)
    → MayDiffer shape size (before ++ frame ∷ later) (length (flat_map (frame_text shape.format) before) + j) → ⊥
head_firm shape tally size [] frame later j small legal (inl here) = let b = differs_inside shape size later frame (0 + j) legal.0 here in absurd (omega (arith, b.0))
head_firm shape tally size [] frame later j small legal (inr there) = absurd (omega (arith, there.0, length-frame_text shape.format frame))
head_firm shape tally size (first ∷ before) frame later j small legal (inl here) =
    let b = differs_inside shape size (before ++ frame ∷ later) first (length (flat_map (frame_text shape.format) (first ∷ before)) + j) legal.0 here in
    absurd (omega (arith, b.1, length-append (frame_text shape.format first) (flat_map (frame_text shape.format) before)))
head_firm shape tally size (first ∷ before) frame later j small legal (inr there) =
    let n = length (frame_text shape.format first) in
    let is : length (flat_map (frame_text shape.format) (first ∷ before)) + j - n ≡ length (flat_map (frame_text shape.format) before) + j = omega (
      arith,
      length-append
          (frame_text shape.format first) (flat_map (frame_text shape.format) before),
    ) in
    head_firm shape (after tally first) (size_after size first) before frame later j small legal.2 (subst (λ k. MayDiffer shape (size_after size first) (before ++ frame ∷ later) k) is there.1)

-- ---- with more frames

pub WillChange-append : (i : ℕ) (frames more : List Frame) → WillChange i frames → WillChange i (frames ++ more)
WillChange-append i [] more will = absurd will
WillChange-append i (Group lengths bytes ∷ frames) more will = WillChange-append i frames more will
WillChange-append i (Change runs bytes ∷ frames) more (inl here) = inl here
WillChange-append i (Change runs bytes ∷ frames) more (inr later) = inr (WillChange-append i frames more later)
WillChange-append i (Shrink n ∷ frames) more will = (will.0, WillChange-append i frames more will.1)
WillChange-append i (Fold count ∷ frames) more will = WillChange-append i frames more will

MayDifferIn-append : (shape : Shape) (size : ℕ) (later more : List Frame) (frame : Frame) (j : ℕ) → MayDifferIn shape size later frame j → MayDifferIn shape size (later ++ more) frame j
MayDifferIn-append shape size later more (Group lengths bytes) j may = (may.0, may.1, may.2, may.3, WillChange-append (size + may.0) later more may.4)
MayDifferIn-append shape size later more (Change runs bytes) j may = absurd may
MayDifferIn-append shape size later more (Shrink n) j may = absurd may
MayDifferIn-append shape size later more (Fold count) j may = absurd may

pub MayDiffer-append : (shape : Shape) (size : ℕ) (frames more : List Frame) (j : ℕ) → MayDiffer shape size frames j → MayDiffer shape size (frames ++ more) j
MayDiffer-append shape size [] more j may = absurd may
MayDiffer-append shape size (frame ∷ later) more j (inl here) = inl (MayDifferIn-append shape size later more frame j here)
MayDiffer-append shape size (frame ∷ later) more j (inr there) = inr (there.0, MayDiffer-append shape (size_after size frame) later more (j - length (frame_text shape.format frame)) there.1)

-- ---- behind known frames

pub size_after-is : (tally : Tally) (frame : Frame) → size_after tally.size frame ≡ (after tally frame).size
size_after-is tally (Group lengths bytes) = refl
size_after-is tally (Change runs bytes) = refl
size_after-is tally (Shrink n) = refl
size_after-is tally (Fold count) = refl

pub MayDiffer-behind : (shape : Shape) (tally : Tally) (known came : List Frame) (j : ℕ) → AreLegalFrom shape tally (known ++ came)
    → MayDiffer shape tally.size (known ++ came) (length (flat_map (frame_text shape.format) known) + j) → MayDiffer shape (tally_from tally known).size came j
MayDiffer-behind shape tally [] came j legal may = let is : 0 + j ≡ j = omega arith in subst (λ k. MayDiffer shape tally.size came k) is may
MayDiffer-behind shape tally (frame ∷ known) came j legal (inl here) =
    let b = differs_inside shape tally.size (known ++ came) frame (length (flat_map (frame_text shape.format) (frame ∷ known)) + j) legal.0 here in
    absurd (omega (arith, b.1, length-append (frame_text shape.format frame) (flat_map (frame_text shape.format) known)))
MayDiffer-behind shape tally (frame ∷ known) came j legal (inr there) =
    let n = length (frame_text shape.format frame) in
    let is : length (flat_map (frame_text shape.format) (frame ∷ known)) + j - n ≡ length (flat_map (frame_text shape.format) known) + j = omega (
      arith,
      length-append
          (frame_text shape.format frame) (flat_map (frame_text shape.format) known),
    ) in
    MayDiffer-behind shape (after tally frame) known came j legal.2
    (subst (λ size. MayDiffer shape size (known ++ came) (length (flat_map (frame_text shape.format) known) + j)) (size_after-is tally frame) (subst (λ k. MayDiffer shape
    (size_after tally.size frame) (known ++ came) k) is there.1))
