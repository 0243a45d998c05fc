use Rattle.std.proofs.Common.{◌≡◌, ℕ, List, refl, sym, subst, arith}
use Rattle.segment_core.specs.declared.format.FrameKind.{FrameKind}
use Rattle.segment_core.specs.declared.format.FrameKind.TheVariants.{Group, Change, Shrink, Fold}
use Rattle.segment_core.specs.declared.format.Shape.{Shape}
use Rattle.segment_core.specs.Frame.{kind_of}
use Rattle.segment_core.specs.Kind.{kind_byte}
use Rattle.segment_core.specs.Layout.{frame_in}
use Rattle.segment_core.specs.Reading.{Seen, IsRead}
use Rattle.segment_core.proofs.frame.FrameReader.keep.Goals as goal

-- the frame of a change was read as one
kind_read : (shape : Shape) (kind : FrameKind) (payload : List ℕ) → kind_of (frame_in shape (kind_byte kind) payload) ≡ 2 → kind_byte kind ≡ 2
kind_read shape Group payload is = absurd (omega (arith, is))
kind_read shape Change payload is = refl
kind_read shape Shrink payload is = absurd (omega (arith, is))
kind_read shape Fold payload is = absurd (omega (arith, is))

pub invariant_of-result : goal.invariant_of-result
invariant_of-result c =
    let r = c.self.inside in
    let is = subst (λ (seen : Seen). kind_of seen.frame ≡ 2) (sym c.self.view_is) c.requires in
    let copied = c.in_ok-from_slice.ensures.items in
    subst (λ n. IsRead r.at r.shape r.heads r.records c.in_ok-from_slice.field-0.items (frame_in r.shape n c.in_ok-from_slice.field-0.items))
    (kind_read r.shape r.kind c.in_ok-from_slice.field-0.items
    (subst (λ bs. kind_of (frame_in r.shape (kind_byte r.kind) bs) ≡ 2) (sym copied) is))
    (subst (λ bs. IsRead r.at r.shape r.heads r.records bs (frame_in r.shape (kind_byte r.kind) bs)) (sym copied) c.self.invariant)
