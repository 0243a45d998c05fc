-- The list as a seat knows it.
use Rattle.std.proofs.Common.{◌≡◌, inl, inr, ℕ, slice_set, ◌<◌, List, ◌++◌, length, Some, refl, sym, ap, ◌∙◌, slice_get, slice_index}
use Rattle.std.proofs.lemmas.Option.{slice_get_within}
use Rattle.pen_core.specs.declared.fault.PenFault.TheVariants as pen
use Rattle.directory_core.specs.Chain.{grown_records}
use Rattle.book_core.specs.Lists.{Seated, opening_of, seat_list}
use Rattle.drive_core.specs.declared.fault.StepFault.TheVariants.{Vault}
use Rattle.vault_core.specs.declared.fault.VaultFault.TheVariants as vault
use Rattle.drive_core.specs.Medium.{Medium}
use Rattle.drive_core.specs.Step.{Answer}
use Rattle.drive_core.specs.Step as step
use Rattle.drive_core.specs.World.{World, GrowthPhase, vector_at}
use Rattle.drive_core.specs.GrowthRows.{IsView}
use Rattle.drive_core.specs.Ties.{GrowingOf, IsGrowing}
use Rattle.drive_core.specs.GrowthTies.{GrowthStep}
use Rattle.drive_core.proofs.Quiet.{quiet_steps, seat_row, same_hand}
use Rattle.drive_core.proofs.Seated.{known_at}
use Rattle.drive_core.proofs.Seats.{set_same}
use Rattle.drive_core.proofs.Steps.{answered}
use Rattle.drive_core.proofs.Ties.{list_at, behind_of}

module _ {R D : Type 0} {m : Medium R D} {w : World R} {phase : GrowthPhase} {g : GrowingOf R D} (tie : IsGrowing m w phase g)
    (k : ℕ) {seat : Seated R} (at : slice_get g.seats k ≡ Some seat) {new : Seated R} (new_is : new ≡ seat) where
  inside : k < length g.seats
  inside = slice_get_within g.seats k seat at

  -- nothing of the seat has changed
  same : record g { seats = slice_set g.seats k new } ≡ g
  same i = record g { seats = (ap (slice_set g.seats k) new_is ∙ set_same g.seats k seat at) i }

  viewed : seat_list g.live seat ≡ vector_at w phase (slice_index phase.known k)
  viewed =
      ap (λ es. opening_of g.live ++ grown_records es) (sym (tie.seats.each k seat at).knows) ∙ sym (list_at tie (length seat.pass.entries))
      ∙ ap (λ n. vector_at w phase n) (sym (known_at tie.seats k at))

  pub view_answers : {answer : Answer R} (records : List R) → answer ≡ step.Listed records → records ≡ seat_list g.live seat
      → GrowthStep m w (record g { seats = slice_set g.seats k new }) (step.View k) answer 0
  view_answers records is list = same_hand same (answered is (quiet_steps tie w (seat_row tie inside w (step.Listed records) (IsView w phase k (step.Listed records) w)
      (inl (inr refl, (ap step.Listed (list ∙ viewed), refl)))) refl refl tie.calm (behind_of tie)))

  pub view_refuses : {answer : Answer R} → answer ≡ step.Refused (Vault (vault.Pen pen.Memory)) → GrowthStep m w (record g { seats = slice_set g.seats k new }) (step.View k) answer 0
  view_refuses is =
      let told : Answer R = step.Refused (Vault (vault.Pen pen.Memory)) in
      same_hand same (answered is (quiet_steps tie w (seat_row tie inside w told (IsView w phase k told w)
      (inr (Vault (vault.Pen pen.Memory), inl (Vault (vault.Pen pen.Memory), refl, refl), refl, refl))) refl refl tie.calm (behind_of tie)))
