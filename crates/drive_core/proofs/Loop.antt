-- What drive's loop keeps: a run goes on by one step.
use Rattle.std.proofs.Common.{◌≡◌, ℕ, Bool, true, false, List, [], ◌∷◌, ◌++◌, refl}
use Rattle.std.specs.Prelude.{Option, Some, None}
use Rattle.std.proofs.Common.{inl, inr}
use Rattle.pen_core.specs.declared.fault.PenFault.TheVariants as pen_fault
use Rattle.drive_core.specs.declared.fault.StepFault.{StepFault}
use Rattle.drive_core.specs.declared.fault.StepFault.TheVariants.{Vault, Grow, Scan}
use Rattle.vault_core.specs.declared.fault.VaultFault.TheVariants as vault
use Rattle.record_core.specs.Bytes.{Encoding}
use Rattle.segment_core.specs.declared.format.Format.{Format}
use Rattle.segment_core.specs.Shape.{shape_of}
use Rattle.drive_core.specs.Step.{Step, Answer}
use Rattle.drive_core.specs.Step as step
use Rattle.drive_core.specs.OpeningRows.{IsCreate, IsOpen, NotCreated, NotOpened}
use Rattle.drive_core.specs.LaneRows.{IsFold, HasBegun}
use Rattle.drive_core.specs.Rows.{ShutRow, ExclusiveRow, GrowthRow, PhaseRow, StrayRow}
use Rattle.drive_core.specs.World.{World, GrowthPhase, DrivePhase, Shut, Exclusive, Growing, is_live}
use Rattle.drive_core.specs.Run.{Event, IsEvent, AreEvents, last}
use Rattle.drive_core.specs.Headline.{Inner, AllInner}

module _ {R : Type 0} (form : Encoding R) where
  pub last-more : (w : World R) (events : List (Event R)) (e : Event R) → last w (events ++ e ∷ []) ≡ e.after
  last-more w [] e = refl
  last-more w (first ∷ events) e = last-more first.after events e

  pub AreEvents-more : (keeps : Type 0) (w : World R) (events : List (Event R)) (e : Event R) → AreEvents form keeps w events
      → IsEvent form keeps (last w events) e → AreEvents form keeps w (events ++ e ∷ [])
  AreEvents-more keeps w [] e run is = (is, tt)
  AreEvents-more keeps w (first ∷ events) e run is = (run.0, AreEvents-more keeps first.after events e run.1 is)

  pub AllInner-more : (w : World R) (events : List (Event R)) (e : Event R) → AllInner form w events → Inner form (last w events) e → AllInner form w (events ++ e ∷ [])
  AllInner-more w [] e inner is = (is, tt)
  AllInner-more w (first ∷ events) e inner is = (inner.0, AllInner-more first.after events e inner.1 is)

  -- a disk that keeps its model now kept it at each step before
  module _ (before now : Type 0) (goes_back : now → before) where
    create_weaker : (w : World R) (format : Format) (answer : Answer R) (w' : World R) → IsCreate form before w format answer w' → IsCreate form now w format answer w'
    create_weaker w format answer w' row = elim row [
      | inl ok ↦ inl (ok.0, (ok.1.0, (λ k. ok.1.1 (goes_back k)), (λ k. ok.1.2 (goes_back k)), ok.1.3))
      | inr no_ ↦ inr (no_.0, no_.1, no_.2, refused no_.0 no_.3)
    ]
      where
        refused : (fault : StepFault) → NotCreated before (shape_of format form) w w' fault → NotCreated now (shape_of format form) w w' fault
        refused (Vault (vault.Pen (pen_fault.Disk fault))) by = (by.0, (λ k. by.1 (goes_back k)), by.2)
        refused (Vault (vault.Pen pen_fault.Exists)) by = ((λ k. by.0 (goes_back k)), (λ k. by.1 (goes_back k)), by.2)
        refused (Vault other) by = by
        refused (Grow fault) by = by
        refused (Scan fault) by = by

    open_weaker : (w : World R) (answer : Answer R) (w' : World R) → IsOpen form before w answer w' → IsOpen form now w answer w'
    open_weaker w answer w' row = elim row [
      | inl ok ↦ inl (ok.0, (ok.1.0, ok.1.1, ok.1.2, (λ k. ok.1.3 (goes_back k)), (λ k. ok.1.4 (goes_back k)), ok.1.5))
      | inr no_ ↦ inr (no_.0, no_.1, no_.2, refused no_.0 no_.3)
    ]
      where
        refused : (fault : StepFault) → NotOpened form before w w' fault → NotOpened form now w w' fault
        refused (Vault (vault.Pen (pen_fault.Disk fault))) by = (by.0, (λ k. by.1 (goes_back k)), by.2)
        refused (Vault other) by = by
        refused (Grow fault) by = by
        refused (Scan fault) by = ((λ k. by.0 (goes_back k)), (λ k. by.1 (goes_back k)), by.2)

    shut_weaker : (w : World R) (asked : Step R) (answer : Answer R) (w' : World R) → ShutRow form before w asked answer w' → ShutRow form now w asked answer w'
    shut_weaker w (step.Create format) answer w' row = create_weaker w format answer w' row
    shut_weaker w step.Open answer w' row = open_weaker w answer w' row
    shut_weaker w other answer w' row = row

    fold_weaker : (w : World R) (answer : Answer R) (w' : World R) → IsFold before w answer w' → IsFold now w answer w'
    fold_weaker w answer w' row = elim row [
      | inl ok ↦ inl (ok.0, (ok.1.0, begun (is_live w.hand.file) ok.1.1))
      | inr no_ ↦ inr no_
    ]
      where
        begun : (live : Bool) → HasBegun before w live w' → HasBegun now w live w'
        begun true by = (by.0, by.1, (λ k. by.2 (goes_back k)), by.3)
        begun false by = by

    exclusive_weaker : (w : World R) (asked : Step R) (answer : Answer R) (w' : World R) → ExclusiveRow form before w asked answer w' → ExclusiveRow form now w asked answer w'
    exclusive_weaker w step.Fold answer w' row = fold_weaker w answer w' row
    exclusive_weaker w other answer w' row = row

    growth_weaker : (w : World R) (phase : GrowthPhase) (asked : Step R) (answer : Answer R) (w' : World R) → GrowthRow form before w phase asked answer w' → GrowthRow form now w phase asked answer w'
    growth_weaker w phase step.Fold answer w' row = fold_weaker w answer w' row
    growth_weaker w phase other answer w' row = row

    phase_weaker : (w : World R) (phase : DrivePhase) (asked : Step R) (answer : Answer R) (w' : World R) → PhaseRow form before w phase asked answer w' → PhaseRow form now w phase asked answer w'
    phase_weaker w Shut asked answer w' row = shut_weaker w asked answer w' row
    phase_weaker w Exclusive asked answer w' row = exclusive_weaker w asked answer w' row
    phase_weaker w (Growing phase) asked answer w' row = growth_weaker w phase asked answer w' row

    stray_weaker : (w : World R) (stray : Option ℕ) (asked : Step R) (answer : Answer R) (w' : World R) → StrayRow form before w stray asked answer w' → StrayRow form now w stray asked answer w'
    stray_weaker w None asked answer w' row = phase_weaker w w.phase asked answer w' row
    stray_weaker w (Some n) asked answer w' row = row

    pub AreEvents-weaker : (w : World R) (events : List (Event R)) → AreEvents form before w events → AreEvents form now w events
    AreEvents-weaker w [] run = tt
    AreEvents-weaker w (e ∷ events) run = (
      record { row = stray_weaker w w.strayed e.asked e.answer e.after run.0.row; called = run.0.called; time = run.0.time; still = run.0.still },
      AreEvents-weaker e.after events run.1,
    )
