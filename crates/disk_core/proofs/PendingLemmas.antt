-- What each call adds to the places that a crash may leave as anything, and what it takes away.
use Rattle.std.proofs.Common.{◌≡◌, ℕ, zero, suc, ◌≤◌, ◌<◌, List, [], ◌∷◌, ◌++◌, length, true, false, ◌||◌, Bool, Result, Ok, Err, OnOk, OnErr, refl, sym, subst, ap, ◌∙◌, arith}
use Rattle.std.specs.Prelude.{nat_le, slice_index}
use Rattle.std.proofs.lemmas.Bool.Decides.{nat_tests}
use Rattle.disk_core.specs.declared.extent.Extent.{Extent}
use Rattle.disk_core.specs.State.{State, now, has_place, is_within, overlay, settled, touched, IsImage, IsTornWrite}
use Rattle.disk_core.specs.declared.fault.DiskFault.{DiskFault}
use Rattle.disk_core.specs.Calls.{bytes_of, Stays, Writes, TearsWrite, Settles}
use Rattle.disk_core.specs.Choice.{is_pending, pending_below, pending_count}
use Rattle.disk_core.proofs.ImageLemmas.{neither, both}

-- once all bytes are on the disk, none of their places is pending
pub is_pending-settled : (bytes : List ℕ) (i : ℕ) → i < length bytes → is_pending (settled bytes) i ≡ false
is_pending-settled bytes i lt = grind (arith, nat_tests)

pending_below-settled : (bytes : List ℕ) (i : ℕ) → i ≤ length bytes → pending_below (settled bytes) i ≡ 0
pending_below-settled bytes zero le = refl
pending_below-settled bytes (suc i) le = rw (is_pending-settled bytes i (omega (arith, le))) (pending_below-settled bytes i (omega (arith, le)))

pub pending_settled : (bytes : List ℕ) → pending_count (settled bytes) ≡ 0
pending_settled bytes = pending_below-settled bytes (length bytes) (omega arith)

or_false : (a : Bool) → (a || false) ≡ a
or_false true = refl
or_false false = refl

or_assoc : (a b c : Bool) → (a || (b || c)) ≡ (a || b || c)
or_assoc true b c = refl
or_assoc false b c = refl

is_within-more : (es : List Extent) (e : Extent) (i : ℕ) → is_within (es ++ e ∷ []) i ≡ (is_within es i || has_place e i)
is_within-more [] e i = or_false (has_place e i)
is_within-more (x ∷ es) e i = ap (λ b. has_place x i || b) (is_within-more es e i) ∙ or_assoc (has_place x i) (is_within es i) (has_place e i)

-- a write adds its extent, and no other place
pub is_within-touched : (s : State) (at len : ℕ) (seen : List ℕ) (i : ℕ)
    → is_within (touched s at len seen).pending i ≡ (is_within s.pending i || has_place (record { at = at; len = len }) i)
is_within-touched s at len seen i = is_within-more s.pending (record { at = at; len = len }) i

pub is_pending-touched : (s : State) (at len : ℕ) (seen : List ℕ) (i : ℕ) → is_pending (touched s at len seen) i ≡ (is_pending s i || has_place (record { at = at; len = len }) i)
is_pending-touched s at len seen i =
    let e : Extent = record { at = at; len = len } in
    ap (λ b. nat_le (length s.synced) i || b) (is_within-more s.pending e i) ∙ or_assoc (nat_le (length s.synced) i) (is_within s.pending i) (has_place e i)

-- a write that failed adds no place outside its extent
pub is_pending-torn : (at len : ℕ) (before after : State) (i : ℕ) → IsTornWrite at len before after → is_pending before i ≡ false
    → has_place (record { at = at; len = len }) i ≡ false → is_pending after i ≡ false
is_pending-torn at len before after i torn out past =
    let parts = neither _ _ out in
    both _ _ (rw torn.synced parts.0) (torn.pending i parts.1 past)

-- and takes none away
pub torn-is_pending : (at len : ℕ) (before after : State) (i : ℕ) → IsTornWrite at len before after → is_pending after i ≡ false → is_pending before i ≡ false
torn-is_pending at len before after i torn out =
    let parts = neither _ _ out in
    both _ _ (rw (← torn.synced) parts.0) (torn.still_pending i parts.1)

below_synced : (s : State) (i : ℕ) → is_pending s i ≡ false → i < length s.synced
below_synced s i out =
    let past : nat_le (length s.synced) i ≡ false = (neither _ _ out).0 in
    grind (arith, nat_tests)

-- a place that is not pending has the synced byte in each image
pub unpending_byte : (s : State) (image : List ℕ) (i : ℕ) → IsImage s image → is_pending s i ≡ false → slice_index image i ≡ slice_index s.synced i
unpending_byte s image i is out = is.each i (below_synced s i out) ((neither _ _ out).1)

-- a place that was not pending is pending after a call only where that call was to write it, whether it failed or not
module _ (old new : List State) (i : ℕ) (out : is_pending (now old) i ≡ false) where
  -- a read, or the length
  pub unpending-stays : Stays old new → is_pending (now new) i ≡ false
  unpending-stays stays = subst (λ states. is_pending (now states) i ≡ false) (sym stays) out

  pub unpending-write : {T : Type 0} (r : Result T DiskFault) (at : ℕ) (bytes : List ℕ) → OnOk r (Writes at bytes old new) → OnErr r (TearsWrite at (length bytes) old new)
      → has_place (record { at = at; len = length bytes }) i ≡ false → is_pending (now new) i ≡ false
  unpending-write (Ok value) at bytes done torn past =
      subst (λ states. is_pending (now states) i ≡ false) (sym done) (is_pending-touched (now old) at (length bytes) (overlay (bytes_of old) at bytes) i ∙ both _ _ out past)
  unpending-write (Err fault) at bytes done torn past =
      subst (λ states. is_pending (now states) i ≡ false) (sym torn.1) (is_pending-torn at (length bytes) (now old) torn.0 i torn.2 out past)

  pub unpending-sync : {T : Type 0} (r : Result T DiskFault) → OnOk r (Settles old new) → OnErr r (Stays old new) → IsImage (now old) (bytes_of old) → is_pending (now new) i ≡ false
  unpending-sync (Ok value) done same readable =
      subst (λ states. is_pending (now states) i ≡ false) (sym done) (is_pending-settled (bytes_of old) i (omega (arith, below_synced (now old) i out, readable.no_shorter)))
  unpending-sync (Err fault) done same readable = unpending-stays same
