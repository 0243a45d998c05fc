-- The begin of a fold beside growth.
use Rattle.std.proofs.Common.{◌≡◌, ℕ, ◌+◌, List, Bool, refl, sym, ap, subst, ◌∙◌, arith}
use Rattle.disk_core.specs.State.{IsImage, now}
use Rattle.pen_core.specs.Pen.{MayOpen, IsFoldAnswer, IsUnchanged}
use Rattle.flush_core.specs.Flusher.{FlusherOf, OpensToJob}
use Rattle.flush_core.specs.Refusals.{IsFoldFault}
use Rattle.flush_core.specs.declared.fault.FlushFault.{FlushFault}
use Rattle.flush_core.specs.declared.fault.FlushFault.TheVariants as flush
use Rattle.drive_core.specs.Line.{of_flush}
use Rattle.drive_core.specs.Medium.{Medium}
use Rattle.drive_core.specs.Step.{Answer}
use Rattle.drive_core.specs.Step as step
use Rattle.drive_core.specs.World.{World, GrowthPhase, Hand, DiskOf, hand_of}
use Rattle.drive_core.specs.Ties.{GrowingOf, IsGrowing, IsBehindStep, growths_in_hand, disk_of}
use Rattle.drive_core.specs.GrowthTies.{GrowthStep}
use Rattle.drive_core.proofs.Hands.{hand_unchanged}
use Rattle.drive_core.proofs.PenFolds.{Plans, Opening, fold_answered, fold_refused, begun_disk, begun_job}
use Rattle.drive_core.proofs.Quiet.{quiet_steps}
use Rattle.drive_core.proofs.Steps.{answered}
use Rattle.drive_core.proofs.Ties.{other_flusher, flushes_on, behind_of}

module _ {R D : Type 0} {m : Medium R D} {w : World R} {phase : GrowthPhase} {g : GrowingOf R D} (tie : IsGrowing m w phase g)
    (new : FlusherOf R D) (pass_same : new.pass ≡ g.flusher.pass) (taken_same : new.taken ≡ g.flusher.taken) (settled_same : new.settled ≡ g.flusher.settled) where
  -- only the pen is another, and not its disk or its job
  tied : (hand : Hand) → hand ≡ hand_of new.pen → new.pen.disk ≡ g.flusher.pen.disk → new.pen.job ≡ g.flusher.pen.job → IsBehindStep m (record w { hand = hand }) (record g { flusher = new })
  tied hand hand_is disk job = behind_of (other_flusher tie w.phase phase.flusher phase.taken w.settled hand w.disk new tie.phase_is
      (flushes_on tie pass_same taken_same (let was = tie.flusher.job_brings in let same = ap growths_in_hand job in omega (arith, was, same, taken_same, settled_same))
      (tie.flusher.settled_is ∙ ap (λ n. phase.before + n) (sym settled_same)))
      hand_is (tie.disk_is ∙ ap (disk_of m.states m.faults) (sym disk)))

  pub fold_answers : {answer : Answer R} → Plans w g.flusher.pen new.pen tie.hand_is (m.keeps g.flusher.pen.disk)
      → (m.keeps g.flusher.pen.disk → (image : List ℕ) → IsImage (now (m.states g.flusher.pen.disk)) image → MayOpen g.flusher.pen image)
      → (begun : Bool) → answer ≡ step.Begun begun → IsFoldAnswer g.flusher.pen new.pen begun → GrowthStep m w (record g { flusher = new }) step.Fold answer 0
  fold_answers plans opens begun is by =
      let disk = begun_disk w g.flusher.pen new.pen tie.hand_is begun by in
      let planned : Plans w g.flusher.pen new.pen tie.hand_is (m.keeps new.pen.disk) = λ kept. plans (subst m.keeps disk kept) in
      let opening : Opening w g.flusher.pen new.pen tie.hand_is (m.keeps new.pen.disk)
      = λ kept image left. opens (subst m.keeps disk kept) image (subst (λ (d : DiskOf). IsImage (now d.states) image) tie.disk_is left) in
      answered is (quiet_steps tie (record w { hand = hand_of new.pen }) (fold_answered w g.flusher.pen new.pen tie.hand_is (m.keeps new.pen.disk) planned opening begun by) refl refl tie.calm
      (tied (hand_of new.pen) refl disk (begun_job w g.flusher.pen new.pen tie.hand_is begun by)))

  pub fold_refuses : {answer : Answer R} (fault : FlushFault) → answer ≡ step.Refused (of_flush fault) → IsFoldFault g.flusher fault → IsUnchanged g.flusher.pen new.pen
      → GrowthStep m w (record g { flusher = new }) step.Fold answer 0
  fold_refuses (flush.Strayed number) is why same = absurd why
  fold_refuses (flush.Pen fault) is why same =
      answered is (quiet_steps tie w (fold_refused w g.flusher.pen new.pen tie.hand_is (m.keeps new.pen.disk) fault why) refl refl tie.calm
      (tied w.hand (tie.hand_is ∙ sym (hand_unchanged g.flusher.pen new.pen same)) same.disk_same same.job_same))

-- what a crash leaves of the disk as it is lent, by the pen
pub opens_lent : {R D : Type 0} (m : Medium R D) (f : FlusherOf R D) {lent : D} → lent ≡ f.pen.disk
    → (m.keeps lent → (image : List ℕ) → IsImage (now (m.states lent)) image → OpensToJob m.form f image)
    → m.keeps f.pen.disk → (image : List ℕ) → IsImage (now (m.states f.pen.disk)) image → MayOpen f.pen image
opens_lent {D = D} m f is images kept image left =
    (subst (λ (d : D). m.keeps d → (image : List ℕ) → IsImage (now (m.states d)) image → OpensToJob m.form f image) is images kept image left).pen_opens
