-- The table of a put's refusals.
use Rattle.std.proofs.Common.{◌≡◌, inl, inr, ℕ, ◌+◌, ◌*◌, false, nat_lt, nat_le, ◌==◌, List, [], ◌∷◌, length, Option, Some, refl, arith, ne_eqb}
use Rattle.record_core.specs.Limits.{payload_limit}
use Rattle.record_core.specs.Limits.{record_limit}
use Rattle.block_core.specs.Length.{IsBlockLength}
use Rattle.book_core.specs.declared.fault.GrowFault.TheVariants as grow
use Rattle.drive_core.specs.declared.fault.StepFault.{StepFault}
use Rattle.drive_core.specs.declared.fault.StepFault.TheVariants as told
use Rattle.drive_core.specs.Line.{Line, When, Might, Allows, is_grow_memory, is_strayed}
use Rattle.drive_core.specs.World.{World, GrowthPhase, phase_growths, vector}
use Rattle.drive_core.specs.GrowthRows.{put_lines}
use Rattle.drive_core.proofs.PenFolds.{not_lt}
use Rattle.drive_core.proofs.Tables.{passes}

pub not_empty : {width n : ℕ} → IsBlockLength width n → (n == 0) ≡ false
not_empty {n = n} block = ne_eqb n 0 (λ none. let some = block.some in omega (arith, none, some))

pub not_large : {width n : ℕ} → IsBlockLength width n → nat_lt payload_limit (8 + n * width) ≡ false
not_large {width} {n} block = not_lt payload_limit (8 + n * width) (let fits = block.fits in omega (arith, fits))

module _ {R : Type 0} {width : ℕ} (w : World R) (phase : GrowthPhase) (records : List R) (block : IsBlockLength width (length records)) (open_ : phase.closed ≡ false) where
  -- whether the growth fits the room and the list
  abbrev pub book_lines : List Line
  book_lines =
      When (nat_le phase.room (length (phase_growths w phase))) (told.Grow grow.Full)
      ∷ When (nat_lt record_limit (length (vector w) + length records)) (told.Grow grow.TooLong)
      ∷ Might is_grow_memory
      ∷ []

  before_book : (answer : Option StepFault) → Allows (Might is_strayed ∷ book_lines) answer → Allows (put_lines width w phase records) answer
  before_book answer allows =
      passes _ (told.Grow grow.Empty) _ answer (not_empty block)
      (passes _ (told.Grow grow.TooLarge) _ answer (not_large block) (inr (passes phase.closed (told.Grow grow.Closed) _ answer open_ allows)))

  pub book_decides : (answer : Option StepFault) → Allows book_lines answer → Allows (put_lines width w phase records) answer
  book_decides answer allows = before_book answer (inr allows)

  pub may_stray : (n : ℕ) → Allows (put_lines width w phase records) (Some (told.Grow (grow.Strayed n)))
  may_stray n = before_book (Some (told.Grow (grow.Strayed n))) (inl (told.Grow (grow.Strayed n), refl, refl))
