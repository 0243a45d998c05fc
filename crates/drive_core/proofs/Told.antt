-- What a seat is told by the mark.
use Rattle.std.proofs.Common.{◌≡◌, inl, inr, ℕ, ◌≤◌, ◌<◌, length, Some, refl, sym, ap, subst, ◌∙◌, arith, slice_get, slice_index, slice_set}
use Rattle.directory_core.specs.Chain.{IsPrefix}
use Rattle.book_core.specs.Lists.{Seated}
use Rattle.book_core.specs.Growing.{SeatIsTold}
use Rattle.book_core.specs.declared.mark.MarkState.{MarkState}
use Rattle.book_core.specs.declared.mark.MarkState.TheVariants.{Running}
use Rattle.book_core.specs.declared.fault.GrowFault.TheVariants as grow
use Rattle.drive_core.specs.declared.fault.StepFault.TheVariants.{Grow}
use Rattle.drive_core.specs.Medium.{Medium}
use Rattle.drive_core.specs.Step.{Answer}
use Rattle.drive_core.specs.Step as step
use Rattle.drive_core.specs.World.{World, GrowthPhase}
use Rattle.drive_core.specs.Outcome.{struck}
use Rattle.drive_core.specs.GrowthRows.{within, IsMarkRead}
use Rattle.drive_core.specs.Ties.{GrowingOf, IsGrowing}
use Rattle.drive_core.specs.GrowthTies.{GrowthStep}
use Rattle.drive_core.proofs.Quiet.{quiet_steps, seat_row}
use Rattle.drive_core.proofs.Seated.{counts_set, counts_kept, knows, hears, told_at, replaced}
use Rattle.drive_core.proofs.Steps.{answered}
use Rattle.drive_core.proofs.Ties.{other_seats, behind_of, strayed_behind}

module _ {R D : Type 0} {m : Medium R D} {w : World R} {phase : GrowthPhase} {g : GrowingOf R D} (tie : IsGrowing m w phase g)
    {k : ℕ} {old : Seated R} (inside : k < length g.seats) (at : slice_get g.seats k ≡ Some old) where
  module _ (new : Seated R) (count : ℕ) (state : MarkState) (told : SeatIsTold old new count state) where
    abbrev hearing : GrowthPhase
    hearing = record phase { told = slice_set phase.told k count }

    told_tie : IsGrowing m (within w hearing) hearing (record g { seats = slice_set g.seats k new })
    told_tie = other_seats tie phase.known (slice_set phase.told k count) (replaced tie.seats k at new refl
        (counts_kept knows g.seats tie.seats.known_are k new at (ap (λ (p : _). length p.entries) told.same.2))
        (counts_set hears g.seats tie.seats.told_are k new (sym (ap (λ (r : _). r.count) told.told)))
        (ap length told.same.1)
        (let was = tie.seats.each k old at in record { id_is = told.same.0 ∙ was.id_is; knows = subst (λ (p : _). IsPrefix p.entries tie.entries) (sym told.same.2) was.knows })
        (λ all. ap (λ (p : _). p.entries) told.same.2 ∙ all))

    pub told_answers : {answer : Answer R} → answer ≡ step.Told count Running → count ≤ g.mark → GrowthStep m w (record g { seats = slice_set g.seats k new }) (step.Settled k) answer 0
    told_answers is most =
        let least : slice_index phase.told k ≤ count = (let rises = told.rises.count in let was = told_at tie.seats k at in omega (arith, rises, was)) in
        let mark = tie.mark_is in
        let w' : World R = within w hearing in
        answered is (quiet_steps tie w' (seat_row tie inside w' (step.Told count Running) (IsMarkRead w phase k (step.Told count Running) w')
        (inl (inr refl, (count, least, omega (arith, most, mark), refl, refl)))) refl refl tie.calm (behind_of told_tie))

  -- a mark that no step made
  pub strays : {answer : Answer R} (g' : GrowingOf R D) (count : ℕ) → answer ≡ step.Refused (Grow (grow.Strayed count)) → g'.flusher.pen.disk ≡ g.flusher.pen.disk
      → GrowthStep m w g' (step.Settled k) answer 0
  strays g' count is disk =
      let told : Answer R = step.Refused (Grow (grow.Strayed count)) in
      let w' : World R = struck w (Grow (grow.Strayed count)) in
      answered is (quiet_steps tie w' (seat_row tie inside w' told (IsMarkRead w phase k told w')
      (inr (Grow (grow.Strayed count), inl (Grow (grow.Strayed count), refl, refl), refl, refl))) refl refl refl (strayed_behind tie w' count disk refl refl))
