-- An image that a choice names, place by place.
use Rattle.std.proofs.Common.{◌≡◌, ℕ, suc, ◌+◌, ◌<◌, Bool, true, false, List, [], ◌∷◌, ◌++◌, length, get_or, cond, refl, sym, ap, subst, ◌∙◌, inl, inr, arith}
use Rattle.std.specs.Prelude.{slice_index}
use Rattle.std.proofs.lemmas.Bool.{cases_lt}
use Rattle.std.proofs.lemmas.List.{get_or_append_left, get_or_push}
use Rattle.disk_core.specs.declared.choice.PendingBytes.{PendingBytes}
use Rattle.disk_core.specs.State.{State}
use Rattle.disk_core.specs.Choice.{is_pending, pending_below, pending_byte, chosen_byte}

-- the byte at a place, by what is known of one that is pending and of one that isn't
pub chosen_at : (bytes : PendingBytes) (s : State) (i byte : ℕ) (free : Bool) → free ≡ is_pending s i
    → (free ≡ true → byte ≡ pending_byte bytes (slice_index s.synced i) (slice_index s.seen i) (pending_below s i))
    → (free ≡ false → byte ≡ slice_index s.synced i) → byte ≡ chosen_byte bytes s i
chosen_at bytes s i byte true is pending kept =
    subst (λ b. byte ≡ cond b (pending_byte bytes (slice_index s.synced i) (slice_index s.seen i) (pending_below s i)) (slice_index s.synced i)) is (pending refl)
chosen_at bytes s i byte false is pending kept =
    subst (λ b. byte ≡ cond b (pending_byte bytes (slice_index s.synced i) (slice_index s.seen i) (pending_below s i)) (slice_index s.synced i)) is (kept refl)

-- one byte more
pub chosen_more : (bytes : PendingBytes) (s : State) (image : List ℕ) (place byte : ℕ) → length image ≡ place → byte ≡ chosen_byte bytes s place
    → ((i : ℕ) → i < place → get_or image i 0 ≡ chosen_byte bytes s i)
    → (i : ℕ) → i < place + 1 → get_or (image ++ byte ∷ []) i 0 ≡ chosen_byte bytes s i
chosen_more bytes s image place byte made here each i lt = elim (cases_lt i place) [
  | inl below ↦ get_or_append_left image (byte ∷ []) 0 i (omega (arith, made)) ∙ each i below
  | inr past ↦ (let is : i ≡ place = omega arith in
      get_or_push image byte 0 i (made ∙ sym is) ∙ here ∙ ap (chosen_byte bytes s) (sym is))
]

-- how many places below the next one are pending
pub one_more_pending : (s : State) (place below : ℕ) → is_pending s place ≡ true → below ≡ pending_below s place → below + 1 ≡ pending_below s (place + 1)
one_more_pending s place below free counted =
    let next : place + 1 ≡ suc place = omega arith in
    let more : below + 1 ≡ suc (pending_below s place) = omega (arith, counted) in
    more
    ∙ subst (λ b. suc (pending_below s place) ≡ cond b (suc (pending_below s place)) (pending_below s place)) (sym free) refl
    ∙ ap (pending_below s) (sym next)

pub no_more_pending : (s : State) (place below : ℕ) → is_pending s place ≡ false → below ≡ pending_below s place → below ≡ pending_below s (place + 1)
no_more_pending s place below kept counted =
    let next : place + 1 ≡ suc place = omega arith in
    counted
    ∙ subst (λ b. pending_below s place ≡ cond b (suc (pending_below s place)) (pending_below s place)) (sym kept) refl
    ∙ ap (pending_below s) (sym next)
