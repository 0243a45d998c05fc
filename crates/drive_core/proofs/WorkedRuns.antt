-- Worked runs: what a run leaves where a growth is settled and where it isn't, which events are of which steps, which failure
-- is one, and which faults an opening has.
use Rattle.std.proofs.Common.{◌≡◌, inl, inr, ℕ, zero, suc, ◌+◌, ◌≤◌, ◌<◌, ◌^◌, Bool, List, [], ◌∷◌, take, refl, sym, ap, subst, arith}
use Rattle.std.proofs.lemmas.Option.{same_Some}
use Rattle.std.specs.Int.{w64}
use Rattle.record_core.specs.Bytes.{Encoding, unsigned}
use Rattle.disk_core.specs.State.{settled}
use Rattle.disk_core.specs.Moments.{LeftSince}
use Rattle.disk_core.proofs.ImageLemmas.{IsImage-settled, settled_image}
use Rattle.segment_core.specs.Command.{Grow, content}
use Rattle.segment_core.specs.Fault.{IsRefused, header_lines}
use Rattle.segment_core.specs.declared.fault.ScanFault.{ScanFault}
use Rattle.segment_core.specs.declared.fault.ScanFault.TheVariants as scans
use Rattle.pen_core.specs.Typed.{OpensTo}
use Rattle.pen_core.proofs.Typed.{OpensTo_same}
use Rattle.pen_core.specs.declared.fault.PenFault.TheVariants as pen
use Rattle.book_core.specs.declared.fault.GrowFault.TheVariants as grow
use Rattle.vault_core.specs.declared.fault.VaultFault.TheVariants as vault
use Rattle.drive_core.specs.declared.fault.StepFault.TheVariants.{Vault, Grow as InGrow, Scan}
use Rattle.drive_core.specs.Step.{Step, Answer}
use Rattle.drive_core.specs.Step as step
use Rattle.drive_core.specs.World.{World, Exclusive, no_hand, start}
use Rattle.drive_core.specs.Outcome.{HasFailedCall}
use Rattle.drive_core.specs.OpeningRows.{NotOpened}
use Rattle.drive_core.specs.Run.{Event, AreEventsOf}
use Rattle.drive_core.specs.Headline.{OpensToPrefix, LeavesPrefixes}

-- ---- prefixes: an image without the growth is left just where the growth isn't settled

module _ {R : Type 0} (form : Encoding R) (small : form.width < 2 ^ 16) (r : R) (image : List ℕ) (opens : OpensTo form image []) where
  -- one growth, of which so many are settled, on a disk of these bytes; and whether a call has failed
  abbrev grown : ℕ → Bool → World R
  grown many broken = record (start (record { states = settled image ∷ []; faults = 0 })) {
    phase = Exclusive;
    history = Grow (r ∷ []) ∷ [];
    settled = many;
    hand = record no_hand { broken = broken };
  }

  -- one step that settles it, or nothing more
  abbrev listed : World R → Event R
  listed w = record { asked = step.Listing; answer = step.Listed (r ∷ []); calls = 0; after = w }

  is_left : LeftSince (settled image ∷ []) 1 image
  is_left = (omega arith, inl (settled_image image))

  never_both : [] ≡ r ∷ [] → ⊥
  never_both is = absurd cc

  lacks : OpensToPrefix form [] (Grow (r ∷ []) ∷ []) 1 image → ⊥
  lacks prefix = at prefix.kept prefix.at_least prefix.at_most prefix.opens
    where
      at : (kept : ℕ) → 1 ≤ kept → kept ≤ 1 → OpensTo form image (content [] (take kept (Grow (r ∷ []) ∷ []))) → ⊥
      at zero least most opens_to = absurd (omega (arith, least))
      at (suc zero) least most opens_to = never_both (OpensTo_same form image [] (r ∷ []) small opens opens_to)
      at (suc (suc n)) least most opens_to = absurd (omega (arith, most))

  settled_is_kept : (broken : Bool) → LeavesPrefixes form (grown 1 broken) [] → ⊥
  settled_is_kept broken leaves = lacks (leaves 0 (grown 1 broken) refl tt image is_left)

  -- within a run too: it was settled before the step, or by it
  settled_before_is_kept : (broken : Bool) → LeavesPrefixes form (grown 1 broken) (listed (grown 1 broken) ∷ []) → ⊥
  settled_before_is_kept broken leaves = lacks (leaves 0 (grown 1 broken) refl tt image is_left)

  settled_then_is_kept : (broken : Bool) → LeavesPrefixes form (grown 0 broken) (listed (grown 1 broken) ∷ []) → ⊥
  settled_then_is_kept broken leaves = lacks (leaves 1 (grown 1 broken) refl tt image is_left)

  unsettled_may_lack : (broken : Bool) → LeavesPrefixes form (grown 0 broken) []
  unsettled_may_lack broken (suc j) before at has found left = absurd cc
  unsettled_may_lack broken zero before at has found left =
      subst (λ (w : World R). OpensToPrefix form [] (Grow (r ∷ []) ∷ []) w.settled found) (same_Some (grown 0 broken) before at) (elim left.1 [
        | inl is ↦ record { kept = 0; at_least = omega arith; at_most = omega arith; opens = subst (λ bytes. OpensTo form bytes []) (sym (IsImage-settled image found is)) opens }
        | inr never ↦ absurd never
      ])

-- ---- events: each count of calls is of its own step

abbrev two_events : World ℕ → List (Event ℕ)
two_events w =
    record { asked = step.Clear; answer = step.Fine; calls = 4; after = w }
    ∷ record { asked = step.Listing; answer = step.Listed []; calls = 0; after = w }
    ∷ []

abbrev AreTwo : World ℕ → List ℕ → Type 0
AreTwo w calls = AreEventsOf (step.Clear ∷ step.Listing ∷ []) (step.Fine ∷ step.Listed [] ∷ []) calls (two_events w)

two_are_of : (w : World ℕ) → AreTwo w (4 ∷ 0 ∷ [])
two_are_of w = record { steps_are = refl; answers_are = refl; calls_are = refl }

first_of : List ℕ → ℕ
first_of [] = 0
first_of (n ∷ ns) = n

two_not_swapped : (w : World ℕ) → AreTwo w (0 ∷ 4 ∷ []) → ⊥
unfolding first_of
two_not_swapped w are = let first : 4 ≡ 0 = ap first_of are.calls_are in absurd (omega (arith, first))

two_not_fewer : (w : World ℕ) → AreTwo w (4 ∷ []) → ⊥
two_not_fewer w are = absurd (let is = are.calls_are in cc)

-- ---- failures: a call more has failed

failed_once : (w : World ℕ) → HasFailedCall w (record w { disk = record w.disk { faults = w.disk.faults + 1 } })
failed_once w = omega arith

not_failed : (w : World ℕ) → HasFailedCall w w → ⊥
not_failed w failed = absurd (omega (arith, failed))

-- ---- openings: what isn't opened is refused by the scan or by the disk

module _ {R : Type 0} (form : Encoding R) (keeps : Type 0) (w w' : World R) where
  not_for_memory : NotOpened form keeps w w' (Vault (vault.Pen pen.Memory)) → ⊥
  not_for_memory never = never

  not_broken : NotOpened form keeps w w' (Vault (vault.Pen pen.Broken)) → ⊥
  not_broken never = never

  not_existing : NotOpened form keeps w w' (Vault (vault.Pen pen.Exists)) → ⊥
  not_existing never = never

  not_misplaced : NotOpened form keeps w w' (Vault vault.WrongPhase) → ⊥
  not_misplaced never = never

  not_strayed : (n : ℕ) → NotOpened form keeps w w' (InGrow (grow.Strayed n)) → ⊥
  not_strayed n never = never

-- a disk without a byte is refused as no file yet, and as nothing else
abbrev no_bytes : World ℕ
no_bytes = start (record { states = settled [] ∷ []; faults = 0 })

unborn : IsRefused (unsigned w64) [] scans.Unborn
unfolding header_lines
unborn = inl refl

unborn_alone : (why : ScanFault) → IsRefused (unsigned w64) [] why → why ≡ scans.Unborn
unfolding header_lines
unborn_alone why refused = elim refused [ inl first ↦ first | inr memory ↦ absurd (let none = memory.1 in cc) ]

told_unborn : (w' : World ℕ) (why : ScanFault) → NotOpened (unsigned w64) (Unit {0}) no_bytes w' (Scan why) → why ≡ scans.Unborn
told_unborn w' why not_opened = unborn_alone why (not_opened.0 tt)

not_told_otherwise : (w' : World ℕ) → NotOpened (unsigned w64) (Unit {0}) no_bytes w' (Scan scans.NotSegment) → ⊥
not_told_otherwise w' not_opened = absurd (let is = told_unborn w' scans.NotSegment not_opened in cc)
