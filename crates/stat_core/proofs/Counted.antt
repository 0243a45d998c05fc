-- The numbers of frames: they stay small, and they count one frame more.
use Rattle.std.proofs.Common.{◌≡◌, ◌≤◌, ◌<◌, ℕ, ◌+◌, List, [], ◌∷◌, length, drop, refl, ap, subst, arith}
use Rattle.std.proofs.lemmas.Bool.{ltb-false}
use Rattle.std.proofs.Math.Nat.{le-mul_of_pos_right}
use Rattle.segment_core.specs.declared.format.Shape.{Shape}
use Rattle.stat_core.specs.declared.outline.Outline.{Outline}
use Rattle.stat_core.specs.declared.outline.Outline.TheVariants.{Group, Change, Shrink, Fold}
use Rattle.stat_core.specs.declared.summary.Summary.{Summary}
use Rattle.stat_core.specs.Outline.{IsOutlined, MayStand, outline_len}
use Rattle.stat_core.specs.Summary.{begun, grown, tally_in, AreFew}
use Rattle.stat_core.specs.Walked.{Counts}

pub few_begun : (shape : Shape) (bytes : ℕ) → AreFew (begun shape bytes)
few_begun shape bytes = record { frames = omega arith; growths = omega arith; records = omega arith; size = omega arith }

pub few_grown : (shape : Shape) (s : Summary) (outline : Outline) → 0 < shape.width → AreFew s → MayStand (tally_in s) outline → AreFew (grown shape s outline)
few_grown shape s (Group growths records) wide few may =
    let a = few.frames in
    let b = few.growths in
    let d = few.records in
    let e = few.size in
    let more = le-mul_of_pos_right records wide in
    record { frames = omega arith; growths = omega arith; records = omega arith; size = omega arith }
few_grown shape s (Change runs records) wide few may =
    let a = few.frames in
    let b = few.growths in
    let d = few.records in
    let e = few.size in
    record { frames = omega arith; growths = omega arith; records = omega arith; size = omega arith }
few_grown shape s (Shrink n) wide few may =
    let a = few.frames in
    let b = few.growths in
    let d = few.records in
    let e = few.size in
    let less : n ≤ s.size = ltb-false _ _ may.inside in
    record { frames = omega arith; growths = omega arith; records = omega arith; size = omega arith }
few_grown shape s (Fold count) wide few may =
    let a = few.frames in
    let b = few.growths in
    let d = few.records in
    let e = few.size in
    record { frames = omega arith; growths = omega arith; records = omega arith; size = omega arith }

pub count_none : (shape : Shape) (image : List ℕ) (s : Summary) → s ≡ begun shape (length image) → Counts shape image s
count_none shape image s is = record { outlines = []; stand = tt; are = is }

pub count_more : (shape : Shape) (image : List ℕ) (s : Summary) (outline : Outline)
    → Counts shape image s → IsOutlined shape (drop s.gate image) outline → MayStand (tally_in s) outline
    → Counts shape image (grown shape s outline)
count_more shape image s outline so_far outlined may = record {
  outlines = outline ∷ so_far.outlines;
  stand = (subst (λ t. IsOutlined shape (drop t.gate image) outline) so_far.are outlined, subst (λ t. MayStand (tally_in t) outline) so_far.are may, so_far.stand);
  are = ap (λ t. grown shape t outline) so_far.are;
}

-- the length of the frame moves the gate, and the file's length stays
pub grown_gate : (shape : Shape) (s : Summary) (outline : Outline) → (grown shape s outline).gate ≡ s.gate + 6 + outline_len shape outline
grown_gate shape s (Group growths records) = refl
grown_gate shape s (Change runs records) = refl
grown_gate shape s (Shrink n) = refl
grown_gate shape s (Fold count) = refl

pub grown_bytes : (shape : Shape) (s : Summary) (outline : Outline) → (grown shape s outline).bytes ≡ s.bytes
grown_bytes shape s (Group growths records) = refl
grown_bytes shape s (Change runs records) = refl
grown_bytes shape s (Shrink n) = refl
grown_bytes shape s (Fold count) = refl

-- one frame more is counted
pub grown_frames : (shape : Shape) (s : Summary) (outline : Outline)
    → (grown shape s outline).groups + (grown shape s outline).changes + (grown shape s outline).shrinks + (grown shape s outline).folds ≡ s.groups + s.changes + s.shrinks + s.folds + 1
grown_frames shape s (Group growths records) = omega arith
grown_frames shape s (Change runs records) = omega arith
grown_frames shape s (Shrink n) = omega arith
grown_frames shape s (Fold count) = omega arith
