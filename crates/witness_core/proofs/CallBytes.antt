-- Which bytes a call changes.
use Rattle.std.proofs.Common.{◌≡◌, ℕ, ◌+◌, ◌≤◌, ◌<◌, false, List, ◌∷◌, length, get_or, sym, ap, subst, ◌∙◌, arith, inl, inr}
use Rattle.std.specs.Prelude.{◌⊎◌}
use Rattle.std.proofs.lemmas.Bool.{cases_lt}
use Rattle.std.proofs.lemmas.Bool.Decides.{nat_tests}
use Rattle.std.proofs.lemmas.List.{get_or_past}
use Rattle.disk_core.specs.State.{State, now, has_place, overlay, IsImage, IsTornWrite}
use Rattle.disk_core.specs.Calls.{bytes_of, AddsMoment, Writes, TearsWrite}
use Rattle.disk_core.specs.Choice.{is_pending}
use Rattle.disk_core.proofs.ImageLemmas.{touched_torn, overlay_torn}
use Rattle.disk_core.proofs.PendingLemmas.{unpending_byte, torn-is_pending}

no_place : (at len j : ℕ) → (j < at) ⊎ (at + len ≤ j) → has_place (record { at = at; len = len }) j ≡ false
no_place at len j (inl before) = grind (arith, nat_tests)
no_place at len j (inr past) = grind (arith, nat_tests)

-- a write, whether it failed or not
module _ (at len : ℕ) (s after : State) (torn : IsTornWrite at len s after) where
  -- what is not pending behind it has not changed
  pub settled_same : IsImage s s.seen → IsImage after after.seen → (j : ℕ) → is_pending after j ≡ false → get_or after.seen j 0 ≡ get_or s.seen j 0
  settled_same was is j out =
      unpending_byte after after.seen j is out ∙ ap (λ (bytes : List ℕ). get_or bytes j 0) torn.synced ∙ sym (unpending_byte s s.seen j was (torn-is_pending at len s after j torn out))

  pub before_same : at ≤ length s.seen → (j : ℕ) → j < at → get_or after.seen j 0 ≡ get_or s.seen j 0
  before_same le j lt = torn.seen.each j (omega arith) (no_place at len j (inl lt))

  -- nothing changes outside a write that ends inside the file
  pub outside_same : at + len ≤ length s.seen → (j : ℕ) → (j < at) ⊎ (at + len ≤ j) → get_or after.seen j 0 ≡ get_or s.seen j 0
  outside_same fits j out = elim (cases_lt j (length s.seen)) [
    | inl inside ↦ torn.seen.each j inside (no_place at len j out)
    | inr past ↦ (let long = torn.seen.no_longer in get_or_past after.seen j 0 (omega arith) ∙ sym (get_or_past s.seen j 0 past))
  ]

-- one state in front
pub adds : {old new : List State} (s : State) → new ≡ s ∷ old → AddsMoment old new
adds {old} s is = is ∙ ap (λ one. one ∷ old) (sym (ap now is))

module _ (at : ℕ) (bytes : List ℕ) (old new : List State) where
  pub written_torn : at ≤ length (bytes_of old) → Writes at bytes old new → IsTornWrite at (length bytes) (now old) (now new)
  written_torn le wrote =
      subst (λ states. IsTornWrite at (length bytes) (now old) (now states)) (sym wrote)
      (touched_torn (now old) at (length bytes) (overlay (bytes_of old) at bytes) (overlay_torn (bytes_of old) at bytes le))

  pub failed_torn : TearsWrite at (length bytes) old new → IsTornWrite at (length bytes) (now old) (now new)
  failed_torn tears = subst (λ states. IsTornWrite at (length bytes) (now old) (now states)) (sym tears.1) tears.2

  pub tears_adds : TearsWrite at (length bytes) old new → AddsMoment old new
  tears_adds tears = adds tears.0 tears.1
