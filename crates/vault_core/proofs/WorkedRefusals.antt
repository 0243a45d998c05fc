-- What the definitions of refusals rule out, on the smallest examples.
use Rattle.std.proofs.Common.{◌≡◌, ◌≢◌, ℕ, zero, suc, ◌+◌, ◌*◌, ◌^◌, ◌<◌, ◌≤◌, ◌⊎◌, inl, inr, true, false, List, [], ◌∷◌, length, max, None, Err, refl, sym, ap, arith}
use Rattle.std.specs.Prelude.{replicate}
use Rattle.record_core.specs.Bytes.{Encoding}
use Rattle.disk_core.specs.State.{State, IsImage, settled}
use Rattle.disk_core.specs.Moments.{LeftSince}
use Rattle.disk_core.specs.declared.fault.DiskFault.TheVariants.{Sync, Write}
use Rattle.segment_core.specs.declared.format.Format.TheVariants.{Two}
use Rattle.segment_core.specs.declared.format.Shape.{Shape}
use Rattle.segment_core.proofs.OneVector.{sound_header}
use Rattle.pen_core.specs.declared.fault.OpenFault.TheVariants.{Disk}
use Rattle.pen_core.specs.declared.fault.PenFault.TheVariants as faults
use Rattle.pen_core.specs.Births.{IsExisting, WritesNothing}
use Rattle.pen_core.specs.PenOf.{PenOf}
use Rattle.pen_core.specs.Refusals.{first_refusal, ready_lines}
use Rattle.book_core.specs.Lists.{Phase, Seated}
use Rattle.flush_core.specs.Flusher.{FlusherOf}
use Rattle.vault_core.specs.declared.fault.VaultFault.TheVariants.{Pen, Unsettled, WrongPhase}
use Rattle.vault_core.specs.declared.upgrading.UpgradeFault.TheVariants.{Old, NotOld, New}
use Rattle.vault_core.specs.Making.{IsMade}
use Rattle.vault_core.specs.Settles.{IsSettleFault}
use Rattle.vault_core.specs.Gathering.{AreAll, AreDistinct, IsGatherFault}
use Rattle.vault_core.specs.Sharing.{IsShareFault, IsWideShareFault, MayShare, MayShareWide}
use Rattle.vault_core.specs.Upgrading.{IsCopied, IsUpgradeFault}
use Rattle.vault_core.specs.Vault.{VaultOf}

-- ---- a file that exists

-- by its length
abbrev there : List ℕ
there = replicate 13 7

-- the disk before, after a sync and a look at the length, and written over
abbrev old : List State
old = settled there ∷ []

abbrev looked : List State
looked = settled there ∷ settled there ∷ old

abbrev wiped : List State
wiped = settled [] ∷ old

is_there : IsExisting there
is_there = inl (omega arith)

looks : WritesNothing old looked
looks = record { bytes_same = refl; left_before = record { past = (settled there ∷ settled there ∷ [], refl); each = left; newest = λ image is. is } }
  where
    left : (image : List ℕ) → LeftSince looked 1 image → IsImage (settled there) image
    left image since = elim since.1 [
      | inl is ↦ is
      | inr second ↦ elim second.1 [
        | inl is ↦ is
        | inr first ↦ elim first.1 [ inl is ↦ is | inr none ↦ absurd none ]
      ]
    ]

wipes : (wiped ≡ old) ⊎ WritesNothing old wiped → ⊥
wipes why = elim why [
  | inl same ↦ omega (arith, ap length same)
  | inr nothing ↦ omega (arith, ap length nothing.bytes_same)
]

-- a creation that finds it leaves it; one that fails at a write hasn't written over it
module _ {R : Type 0} (shape : Shape) (failures : List State → ℕ) where
  found : IsMade {R = R} (λ _. Unit {0}) (λ d. d) (λ _. 0) shape old (Err (looked, faults.Exists))
  found = record {
    created = tt;
    sure = tt;
    born = λ _ none. absurd (none is_there);
    none_existed = tt;
    existed = λ _ _. inr looks;
    exists = λ _ _. is_there;
    refused = inr (inl refl);
    time = omega arith;
    later = λ _. omega arith;
    calls = λ _. inl (omega arith, (omega arith, refl));
    failed = refl;
    model = λ _. tt;
  }

  not_over : IsMade {R = R} (λ _. Unit {0}) (λ d. d) failures shape old (Err (wiped, faults.Disk Write)) → ⊥
  not_over made = wipes (made.existed tt is_there)

-- and so does a copy
module _ (form : Encoding ℕ) (wide : form.width ≡ 8) (failures : List State → ℕ) where
  copy_found : IsCopied Two form (λ _. Unit {0}) (λ d. d) (λ _. 0) 1 (5 ∷ []) old (Err (looked, faults.Exists))
  copy_found = record {
    list = tt;
    written = tt;
    fits = tt;
    sure = tt;
    opens = tt;
    stays = λ _ none. absurd (none is_there);
    none_existed = tt;
    existed = λ _ _. inr looks;
    exists = λ _ _. is_there;
    refused = inr (omega (arith, wide), inr (inl (inl refl, λ _. inl (omega arith, (omega arith, refl)))));
    calls = tt;
    time = omega arith;
    failed = refl;
    model = λ _. tt;
  }

  no_copy_over : IsCopied Two form (λ _. Unit {0}) (λ d. d) failures 1 (5 ∷ []) old (Err (wiped, faults.Disk Write)) → ⊥
  no_copy_over copied = wipes (copied.existed tt is_there)

-- ---- upgrades

module _ (form : Encoding ℕ) (small : form.width < 2 ^ 16) (failures : List State → ℕ) where
  -- where the old file wasn't opened the new disk is as it was
  not_opened : IsUpgradeFault form (Unit {0}) [] (λ _. Unit {0}) (λ d. d) failures 1 old old (Old (Disk Sync))
  not_opened = (λ _. tt, refl)

  not_opened_over : IsUpgradeFault form (Unit {0}) [] (λ _. Unit {0}) (λ d. d) failures 1 old wiped (Old (Disk Sync)) → ⊥
  not_opened_over why = omega (arith, ap length why.1)

  -- no bytes are no file of version 2
  no_new_version : (left : List State) → IsUpgradeFault form (Unit {0}) [] (λ _. Unit {0}) (λ d. d) failures 1 old left NotOld → ⊥
  no_new_version left why =
      let file = (why.0 tt).1 in
      let sound = (sound_header Two form.width [] file.0 small file.1.framed).no_fault in absurd cc

  no_upgrade_unsettled : (left : List State) → IsUpgradeFault form (Unit {0}) [] (λ _. Unit {0}) (λ d. d) failures 1 old left (New (Unsettled 0)) → ⊥
  no_upgrade_unsettled left why = why

  -- no file of version 1 was copied over one that exists
  no_upgrade_over : IsUpgradeFault form (Unit {0}) [] (λ _. Unit {0}) (λ d. d) failures 1 old wiped (New (Pen (faults.Disk Write))) → ⊥
  no_upgrade_over why = wipes (why.2.existed tt is_there)

-- ---- settling

module _ {D : Type 0} (one other : PenOf D) where
  settle_broken : one.broken ≡ true → IsSettleFault one one (Pen faults.Broken)
  settle_broken is = inl (refl, is, refl)

  settle_unbroken : one.broken ≡ false → IsSettleFault one other (Pen faults.Broken) → ⊥
  settle_unbroken whole why = elim why [ inl was ↦ (let is = was.1 in absurd cc) | inr failed ↦ (let is = failed.1 in absurd cc) ]

  settle_failed : one.broken ≡ false → other.broken ≡ true → IsSettleFault one other (Pen (faults.Disk Sync))
  settle_failed whole broken = inr (Sync, refl, whole, broken)

  settle_left_whole : other.broken ≡ false → IsSettleFault one other (Pen (faults.Disk Sync)) → ⊥
  settle_left_whole whole why = elim why [ inl was ↦ (let is = was.0 in absurd cc) | inr failed ↦ (let is = failed.3 in absurd cc) ]

-- ---- the end of a phase of two seats

module _ {R D : Type 0} (live : Phase R) (first second : Seated R) (f : FlusherOf R D) (two : live.seat_count ≡ 2) where
  apart : first.id ≢ second.id → AreDistinct (first ∷ second ∷ [])
  apart differ zero zero d lt within = absurd (omega arith)
  apart differ zero (suc zero) d lt within = differ
  apart differ zero (suc (suc j)) d lt within = absurd (omega arith)
  apart differ (suc i) j d lt within = absurd (omega arith)

  both : first.id ≢ second.id → length first.made ≡ 1 → length second.made ≡ 0 → length first.pass.entries ≡ 1 → length second.pass.entries ≡ 0
      → length f.pass.entries ≡ 1 → AreAll live (first ∷ second ∷ []) f
  both differ one none knows_one knows_none all = record { as_many = sym two; distinct = apart differ; add_up = omega arith }

  one_missing : AreAll live (first ∷ []) f → ⊥
  one_missing all = omega (arith, all.as_many, two)

  refused_with_one : f.pen.broken ≡ false → IsGatherFault live (first ∷ []) f WrongPhase
  refused_with_one whole = (whole, one_missing)

-- ---- the begin of a phase

module _ {R D : Type 0} (v : VaultOf R D) (ready : first_refusal (ready_lines v.pen) ≡ None) where
  -- room for one growth more than others have only a wide phase may have
  too_much_for_others : IsShareFault v 1048569 1 (Pen faults.TooLarge) × (MayShare v 1048569 1 → ⊥)
  too_much_for_others = (inr (ready, inl (refl, inr (inl (omega arith)))), λ may. let within = may.bounds.room_in.1 in absurd (omega arith))

  wide_may : MayShareWide v 1048569 1
  wide_may = record { ready = ready; bounds = record { room_in = (omega arith, omega arith); seats_in = (omega arith, omega arith) } }

  not_too_much : IsWideShareFault v 536870904 64 (Pen faults.TooLarge) → ⊥
  not_too_much why = elim why [
    | inl first ↦ absurd cc
    | inr other ↦ elim other.1 [
      | inl large ↦ elim large.1 [
        | inl none ↦ absurd (omega arith)
        | inr more ↦ elim more [ inl room ↦ absurd (omega arith) | inr seats ↦ elim seats [ inl none ↦ absurd (omega arith) | inr many ↦ absurd (omega arith) ] ]
      ]
      | inr memory ↦ absurd (let is = memory.0 in cc)
    ]
  ]

  -- and none has room for more than a directory
  too_much_for_any : IsWideShareFault v 536870905 1 (Pen faults.TooLarge) × (IsWideShareFault v 536870905 1 (Pen faults.Memory) → ⊥)
  too_much_for_any = (
    inr (ready, inl (refl, inr (inl (omega arith)))),
    λ why. elim why [
      | inl first ↦ absurd cc
      | inr other ↦ elim other.1 [ inl large ↦ absurd (let is = large.0 in cc) | inr memory ↦ (let within = memory.1.room_in.1 in absurd (omega arith)) ]
    ],
  )
