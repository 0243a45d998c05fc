use Rattle.std.proofs.Common.{◌≢◌, List, ℕ, refl, sym, subst, ◌∙◌}
use Rattle.std.specs.Prelude.{Some}
use Rattle.std.specs.Option.{option_copied}
use Rattle.follow_core.specs.Place.{IsPlace, place_text}
use Rattle.follow_core.specs.declared.place.Place.{Place}
use Rattle.filing_core.specs.Beside.{IsNoPlace, IsPlaceOr}
use Rattle.filing_core.proofs.following.place_of.Goals as goal

pub returns-in-Some-read_place-clause-place : goal.returns-in-Some-read_place-clause-place
returns-in-Some-read_place-clause-place c = subst (λ a. IsPlaceOr (option_copied a) (Some c.in-Some-read_place.place)) (sym c.in-Some.is)
    (c.in-Some-read_place.place, refl, c.in-Some-read_place.ensures.found.1 ∙ c.as_bytes.ensures.value)

pub returns-in-None-clause-none : goal.returns-in-None-clause-none
returns-in-None-clause-none c = (
  refl,
  subst (λ a. IsNoPlace (option_copied a)) (sym c.in-Some.is)
      (subst (λ (w : List ℕ). (place : Place) → IsPlace place → place_text place ≢ w) c.as_bytes.ensures.value c.in-None.ensures.refused),
)
