-- What the definitions of a walk over a disk rule out, on the smallest examples.
use Rattle.std.proofs.Common.{◌≡◌, ℕ, ◌+◌, ◌≤◌, false, List, [], ◌∷◌, length, refl, ap, ◌∙◌, drop, inl, inr, arith}
use Rattle.std.specs.Prelude.{slice_range}
use Rattle.segment_core.specs.Fault.{is_closed}
use Rattle.disk_core.specs.State.{State}
use Rattle.disk_core.specs.declared.fault.DiskFault.TheVariants as causes
use Rattle.segment_core.specs.declared.fault.ScanFault.TheVariants.{Memory}
use Rattle.segment_core.specs.declared.format.Shape.{Shape}
use Rattle.segment_core.specs.declared.found.Homes.{Homes}
use Rattle.segment_core.specs.declared.frame_walk.FrameWalk.{FrameWalk}
use Rattle.segment_core.specs.declared.tally.Tally.{Tally}
use Rattle.pen_core.specs.declared.fault.OpenFault.TheVariants.{Scan, Disk}
use Rattle.pen_core.specs.declared.framing.FilePiece.{FilePiece}
use Rattle.pen_core.specs.Framing.{HoldsPiece, Covers, IsPieceFault, IsFurther, HasGone, StopsWalk, IsThrough, IsKnownFile}

module _ (keeps : Type 0) (model : keeps) (bytes : List ℕ) (size : ℕ) where
  -- a piece ends inside the file
  piece_inside : (piece : FilePiece) → HoldsPiece keeps bytes 0 piece → length piece.bytes.items ≡ 0
  piece_inside piece holds = let ends = holds.ends in omega arith

  -- and has what stands there: of a byte 5 a piece of one byte has this byte
  byte_held : (piece : FilePiece) → piece.start ≡ 0 → length piece.bytes.items ≡ 1 → HoldsPiece keeps (5 ∷ []) size piece → piece.bytes.items ≡ 5 ∷ []
  byte_held piece start one holds =
      holds.is model
      ∙ ap (λ n. slice_range (5 ∷ []) n (n + length piece.bytes.items)) start
      ∙ ap (λ n. slice_range (5 ∷ []) 0 (0 + n)) one

  -- where it covers two bytes, it has as many
  two_covered : (piece : FilePiece) → Covers piece.start 2 piece → 2 ≤ length piece.bytes.items
  two_covered piece covers = let to = covers.to in omega arith

  -- a walk that has gone on stands elsewhere, inside the file
  not_further : (walk : FrameWalk) → IsFurther keeps bytes size walk walk → ⊥
  not_further walk further = let more = further.further in absurd (omega arith)

  -- it ends at no open gate
  not_ended : (walk new : FrameWalk) → walk.at ≡ 0 → HasGone keeps (1 ∷ []) size walk new false → ⊥
  not_ended walk new at gone =
      let closed = gone.1 model in
      let here = ap (λ n. is_closed (drop n (1 ∷ []))) at in
      absurd cc

  -- and not before the last byte of the file: the gate is one
  gate_inside : (walk : FrameWalk) → IsThrough keeps bytes size walk → walk.at ≤ size
  gate_inside walk through = through.inside

-- a read is what fails, or memory
no_write_fails : IsPieceFault (Disk causes.Write) → ⊥
no_write_fails fault = elim fault [ inl memory ↦ absurd cc | inr read ↦ absurd cc ]

read_fails : IsPieceFault (Disk causes.Read)
read_fails = inr refl

memory_fails : IsPieceFault (Scan Memory)
memory_fails = inl refl

no_stop_by_write : (walk : FrameWalk) (bytes : List ℕ) → StopsWalk walk bytes (Disk causes.Write) → ⊥
no_stop_by_write walk bytes stopped = absurd cc

-- a file whose records have no width is none
no_width : (keeps : Type 0) (states : List State) (shape : Shape) (gate : ℕ) (tally : Tally) (homes : Homes) → shape.width ≡ 0
    → IsKnownFile keeps states shape gate tally homes → ⊥
no_width keeps states shape gate tally homes none on = let wide = on.wide.0 in absurd (omega arith)
