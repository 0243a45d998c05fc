-- What the definitions of copies and upgrades rule out, on the smallest examples.
use Rattle.std.proofs.Common.{◌≡◌, ℕ, ◌*◌, ◌<◌, ◌^◌, List, [], ◌∷◌, length, inl, inr, refl, ap, arith}
use Rattle.std.specs.Prelude.{Option, Some, None}
use Rattle.std.specs.declared.num.NonZeroU32.{NonZeroU32}
use Rattle.std.proofs.lemmas.List.{length-take}
use Rattle.record_core.specs.Bytes.{Encoding}
use Rattle.disk_core.specs.State.{State, IsImage, settled}
use Rattle.disk_core.specs.declared.fault.DiskFault.TheVariants.{Sync, Read}
use Rattle.segment_core.specs.declared.format.Format.{Format}
use Rattle.segment_core.specs.declared.format.Format.TheVariants.{One, Two}
use Rattle.segment_core.proofs.OneVector.{sound_header}
use Rattle.pen_core.specs.declared.fault.OpenFault.TheVariants.{Disk}
use Rattle.pen_core.specs.declared.fault.PenFault.TheVariants as faults
use Rattle.pen_core.specs.Births.{IsExisting}
use Rattle.pen_core.specs.Typed.{OpensTo}
use Rattle.pen_core.proofs.Typed.{OpensTo_same}
use Rattle.vault_core.specs.declared.fault.VaultFault.TheVariants.{Pen}
use Rattle.vault_core.specs.declared.upgrading.UpgradeFault.TheVariants.{Old, NotOld, New}
use Rattle.vault_core.specs.Upgrading.{AreOldCalls, IsCopyFault, IsCopyStop, IsFilledBehind, IsGreatestPiece, IsPieceOfCopy, OpensToCopied, StaysUnbornOrCopied, copied, failed_of_old}
use Rattle.vault_core.specs.Upgrading.{format_of_copy, gate_behind, growth_count}

-- ---- growths

-- three records by pieces of two are two growths, and so are four; no record is none
counts : (growth_count 2 3 ≡ 2) × (growth_count 2 4 ≡ 2) × (growth_count 9 1 ≡ 1) × (growth_count 1 0 ≡ 0)
counts = (refl, refl, refl, refl)

abbrev three : List ℕ
three = 5 ∷ 6 ∷ 7 ∷ []

first_growth : copied 2 three 1 ≡ 5 ∷ 6 ∷ []
first_growth = refl

both_growths : copied 2 three 2 ≡ three
both_growths = refl

-- half a growth is no number of them
no_half : (growths : ℕ) → copied 2 three growths ≡ 5 ∷ [] → ⊥
no_half growths is = omega (arith, ap length is, length-take (growths * 2) three)

-- a gate stands behind the header, and behind each frame of one growth
gates : (gate_behind 8 0 0 ≡ 11) × (gate_behind 8 1 1 ≡ 33) × (gate_behind 8 2 3 ≡ 63)
gates = (refl, refl, refl)

-- ---- copies

-- the version that is asked for, or that of the old file
versions : (format_of_copy (Some Two) One ≡ Two) × (format_of_copy None One ≡ One) × (format_of_copy None Two ≡ Two)
versions = (refl, refl, refl)

-- the longest growth of records of eight bytes, and no shorter one
longest : IsGreatestPiece One 8 131071
longest n = (λ within. omega (arith, within), λ fits. omega (arith, fits))

no_shorter : IsPieceOfCopy None Two 8 131071 → ⊥
no_shorter greatest = let within = (greatest 131072).1 (omega arith) in omega (arith, within)

-- a copy is never refused for its file's version
never_for_version : {R E : Type 0} (form : Encoding R) (known : Type 0) (bytes : List ℕ) (format : Option Format) (block : Option NonZeroU32) (keeps : E → Type 0) (states : E → List State)
    (failures : E → ℕ) (new left : E) → IsCopyFault form known bytes format block keeps states failures new left NotOld → ⊥
never_for_version form known bytes format block keeps states failures new left why = why

-- ---- images

module _ (form : Encoding ℕ) (small : form.width < 2 ^ 16) (image : List ℕ) (half : OpensTo form image (5 ∷ [])) where
  -- an image of half a growth is none of a copy
  no_half_image : OpensToCopied form 2 three image → ⊥
  no_half_image opens = no_half opens.0 (OpensTo_same form image (copied 2 three opens.0) (5 ∷ []) small opens.1 half)

  -- and so it is at no moment behind the first sync
  no_half_left : StaysUnbornOrCopied form 2 three (settled [] ∷ []) (settled image ∷ settled [] ∷ settled [] ∷ []) → ⊥
  no_half_left stays = elim (stays none_existed (omega arith) image (omega arith, inl here)) [
    | inl unborn ↦ (let sound = (sound_header half.format form.width image half.frames small half.vector.framed).no_fault in absurd cc)
    | inr opens ↦ no_half_image opens
  ]
    where
      none_existed : IsExisting [] → ⊥
      none_existed existing = elim existing [ inl long ↦ omega arith | inr gated ↦ omega (arith, gated.0) ]

      here : IsImage (settled image) image
      here = record { no_shorter = omega arith; no_longer = omega arith; each = λ i inside free. refl }

-- ---- refusals

-- one record fills no file
room_for_one : (form : Encoding ℕ) → form.width ≡ 8 → IsFilledBehind form 1 (5 ∷ []) 0 → ⊥
room_for_one form wide filled = omega (arith, wide, filled)

-- one whole list needs no growth more
none_left : (form : Encoding ℕ) (keeps : Type 0) (left : State) (calls : ℕ) (stop : IsCopyStop form keeps left 1 [] calls faults.Memory) → ⊥
none_left form keeps left calls stop = let before = stop.before in omega (arith, before)

-- the first sync is one call, and a file that is read takes more
one_call : AreOldCalls 56 (Old (Disk Sync)) 1
one_call = refl

no_read_call : AreOldCalls 56 (Old (Disk Read)) 2 → ⊥
no_read_call calls = omega (arith, calls.0)

all_calls : AreOldCalls 56 NotOld 3
all_calls = (omega arith, omega arith, omega arith)

failures : (failed_of_old (Old (Disk Sync)) ≡ 1) × (failed_of_old NotOld ≡ 0) × (failed_of_old (New (Pen (faults.Disk Sync))) ≡ 0)
failures = (refl, refl, refl)
