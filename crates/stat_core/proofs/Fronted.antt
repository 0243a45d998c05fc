-- The first bytes of a frame that is whole tell of it, whatever stands behind them.
use Rattle.std.proofs.Common.{◌≡◌, ℕ, ◌+◌, ◌-◌, ◌≤◌, true, false, List, ◌++◌, length, take, drop, Result, Ok, Err, Option, Some, None, sym, ap, ◌∙◌, append_assoc, arith}
use Rattle.std.specs.Prelude.{replicate}
use Rattle.std.proofs.lemmas.List.{length-append, length-replicate, take-append-drop}
use Rattle.std.proofs.Math.Nat.{min-eq_left}
use Rattle.segment_core.specs.declared.fault.ScanFault.{ScanFault}
use Rattle.segment_core.specs.declared.format.Format.{Format}
use Rattle.segment_core.specs.declared.format.Format.TheVariants.{One, Two}
use Rattle.segment_core.specs.declared.format.Shape.{Shape}
use Rattle.segment_core.specs.declared.tally.Tally.{Tally}
use Rattle.segment_core.specs.Shape.{limit_of}
use Rattle.segment_core.specs.Frame.{Frame, frame_text}
use Rattle.segment_core.specs.FrameHead.{IsFrontOf}
use Rattle.segment_core.specs.Layout.{IsFrame}
use Rattle.segment_core.specs.Tally.{MayFollow}
use Rattle.segment_core.proofs.Lines.{is_closed-frame_text, frame_fault-frame_text}
use Rattle.segment_core.proofs.Payload.{length-frame_text}
use Rattle.stat_core.specs.declared.outline.Outline.{Outline}
use Rattle.stat_core.specs.Next.{IsNextOutline}
use Rattle.stat_core.specs.Outline.{outline_of}
use Rattle.stat_core.proofs.OfFrames.{told_of_frame}

pub limit_enough : (format : Format) → 8 ≤ limit_of format
limit_enough One = omega arith
limit_enough Two = omega arith

-- zeros behind a frame, up to a length
abbrev behind : Shape → Frame → ℕ → List ℕ
behind shape frame left = replicate (left - length (frame_text shape.format frame)) 0

fronted : (shape : Shape) (frame : Frame) (front : List ℕ) (left : ℕ) → IsFrame shape frame → left ≡ 6 + limit_of shape.format → 14 ≤ left → length front ≡ 14
    → take 14 (frame_text shape.format frame) ≡ front → IsFrontOf (frame_text shape.format frame ++ behind shape frame left) front left
fronted shape frame front left whole is enough long same =
    let own = frame_text shape.format frame in
    let small = whole.small in
    record {
      size = omega (arith, is, small, length-frame_text shape.format frame, length-append own (behind shape frame left), length-replicate {A = ℕ} (left - length own) 0);
      enough = long ∙ sym (min-eq_left enough);
      rest = drop 14 own ++ behind shape frame left;
      is = ap (λ (bs : List ℕ). bs ++ behind shape frame left) (sym (take-append-drop 14 own) ∙ ap (λ (bs : List ℕ). bs ++ drop 14 own) same)
          ∙ append_assoc front (drop 14 own) (behind shape frame left);
    }

module _ (shape : Shape) (frame : Frame) (front : List ℕ) (at left : ℕ) (tally : Tally) (result : Result (Option (Outline × ℕ)) ScanFault) (whole : IsFrame shape frame)
    (may : MayFollow tally frame) (is : left ≡ 6 + limit_of shape.format) (enough : 14 ≤ left) (long : length front ≡ 14) (same : take 14 (frame_text shape.format frame) ≡ front)
    (next : (bytes : List ℕ) → IsFrontOf bytes front left → IsNextOutline shape at tally bytes result) where
  told : IsNextOutline shape at tally (frame_text shape.format frame ++ behind shape frame left) result
  told = next (frame_text shape.format frame ++ behind shape frame left) (fronted shape frame front left whole is enough long same)

  pub fronted_outline : (outline : Outline) (len : ℕ) → result ≡ Ok (Some (outline, len)) → outline ≡ outline_of frame
  fronted_outline outline len some =
      let here = rw some at told in
      told_of_frame shape frame (behind shape frame left) outline whole here.0

  pub fronted_open : result ≡ Ok None → ⊥
  fronted_open none =
      let here = rw none at told in
      let clash : true ≡ false = sym here ∙ is_closed-frame_text shape.format frame (behind shape frame left) in
      absurd cc

  pub fronted_sound : (fault : ScanFault) → result ≡ Err fault → ⊥
  fronted_sound fault failed =
      let here = rw failed at told in
      let clash : Some fault ≡ None = sym here ∙ frame_fault-frame_text shape at tally frame (behind shape frame left) whole may in
      absurd cc
