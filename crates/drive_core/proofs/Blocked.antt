-- A put that the driver refuses before the book is asked.
use Rattle.std.proofs.Common.{◌≡◌, inl, inr, ℕ, zero, suc, ◌+◌, ◌*◌, ◌<◌, ◌==◌, true, false, List, [], ◌∷◌, length, Some, None, refl, sym, ap, ◌∙◌, arith, lt-ltb, ne_eqb, slice_index, slice_set}
use Rattle.record_core.specs.Limits.{payload_limit}
use Rattle.block_core.specs.Length.{IsBlockLength, IsBlockRefusal}
use Rattle.block_core.specs.declared.fault.FreshFault.{FreshFault}
use Rattle.block_core.specs.declared.fault.FreshFault.TheVariants as fresh
use Rattle.book_core.specs.declared.fault.GrowFault.TheVariants as grow
use Rattle.drive_core.specs.declared.fault.StepFault.{StepFault}
use Rattle.drive_core.specs.declared.fault.StepFault.TheVariants as told
use Rattle.drive_core.specs.Line.{of_block, Allows, stray_of}
use Rattle.drive_core.specs.Medium.{Medium}
use Rattle.drive_core.specs.Step.{Answer}
use Rattle.drive_core.specs.Step as step
use Rattle.drive_core.specs.World.{World, GrowthPhase, Growing}
use Rattle.drive_core.specs.Outcome.{struck}
use Rattle.drive_core.specs.GrowthRows.{put_lines, IsPut, knowing, within}
use Rattle.drive_core.specs.Ties.{GrowingOf, IsGrowing}
use Rattle.drive_core.specs.GrowthTies.{GrowthStep}
use Rattle.drive_core.proofs.PutTable.{not_empty, not_large}
use Rattle.drive_core.proofs.Quiet.{quiet_steps, seat_row}
use Rattle.drive_core.proofs.Seated.{known_at, knows_few}
use Rattle.drive_core.proofs.Seats.{there_is}
use Rattle.drive_core.proofs.Steps.{answered}
use Rattle.drive_core.proofs.Tables.{passes, stops}
use Rattle.drive_core.proofs.Ties.{growths_count, behind_of}

set-index : (ns : List ℕ) (k : ℕ) → slice_set ns k (slice_index ns k) ≡ ns
set-index [] k = refl
set-index (n ∷ ns) zero = refl
set-index (n ∷ ns) (suc k) = ap (λ rest. n ∷ rest) (set-index ns k)

module _ {R D : Type 0} {m : Medium R D} {w : World R} {phase : GrowthPhase} {g : GrowingOf R D} (tie : IsGrowing m w phase g) {k : ℕ} (inside : k < length g.seats) (records : List R) where
  unchanged : (fault : StepFault) → stray_of fault ≡ None → w ≡ struck (within w (knowing phase (Some k) (slice_index phase.known k))) fault
  unchanged fault calm i = record w { phase = at i; strayed = (tie.calm ∙ sym calm) i }
    where
      at : w.phase ≡ Growing (knowing phase (Some k) (slice_index phase.known k))
      at = tie.phase_is ∙ ap (λ ns. Growing (record phase { known = ns })) (sym (set-index phase.known k))

  refused_with : {answer : Answer R} (fault : StepFault) → answer ≡ step.Refused fault → stray_of fault ≡ None → Allows (put_lines m.form.width w phase records) (Some fault)
      → GrowthStep m w g (step.Put k records) answer 0
  refused_with fault is calm allows =
      let seat = there_is g.seats k inside in
      let known = known_at tie.seats k seat.1 in
      let few = knows_few tie.seats k seat.1 in
      let count = growths_count tie in
      answered is (quiet_steps tie w (seat_row tie inside w (step.Refused fault) (IsPut m.form.width w phase k records (step.Refused fault) w)
      (inr (fault, allows, refl, (slice_index phase.known k, (omega arith, omega (arith, known, few, count)), unchanged fault calm)))) refl refl (tie.calm ∙ sym calm) (behind_of tie))

  pub closed_refuses : {answer : Answer R} → IsBlockLength m.form.width (length records) → answer ≡ step.Refused (told.Grow grow.Closed) → g.closed ≡ true
      → GrowthStep m w g (step.Put k records) answer 0
  closed_refuses block is closed = refused_with (told.Grow grow.Closed) is refl
      (passes _ (told.Grow grow.Empty) _ _ (not_empty block) (passes _ (told.Grow grow.TooLarge) _ _ (not_large block)
      (inr (stops phase.closed (told.Grow grow.Closed) _ (sym tie.closed_is ∙ closed)))))

  large : payload_limit < 8 + length records * m.form.width → (length records == 0) ≡ false
  large more = ne_eqb (length records) 0 (λ none. let nothing : length records * m.form.width ≡ 0 = ap (λ n. n * m.form.width) none ∙ grind arith in absurd (omega (arith, more, nothing)))

  pub block_refuses : {answer : Answer R} (fault : FreshFault) → answer ≡ step.Refused (told.Grow (of_block fault)) → IsBlockRefusal m.form.width (length records) fault
      → GrowthStep m w g (step.Put k records) answer 0
  block_refuses fresh.Empty is why = refused_with (told.Grow grow.Empty) is refl (stops _ (told.Grow grow.Empty) _ (ap (λ n. n == 0) why))
  block_refuses fresh.TooLarge is why = refused_with (told.Grow grow.TooLarge) is refl
      (passes _ (told.Grow grow.Empty) _ _ (large why) (stops _ (told.Grow grow.TooLarge) _ (lt-ltb payload_limit (8 + length records * m.form.width) why)))
  block_refuses fresh.Memory is why = refused_with (told.Grow grow.Memory) is refl
      (passes _ (told.Grow grow.Empty) _ _ (not_empty why) (passes _ (told.Grow grow.TooLarge) _ _ (not_large why) (inl (told.Grow grow.Memory, refl, refl))))
