-- Why a growth by bytes is refused.
use Rattle.std.proofs.Common.{◌≡◌, ◌<◌, ◌/◌, ◌⊎◌, ℕ, List, length, refl, ap, ◌∙◌, inl, inr}
use Rattle.std.proofs.Math.Nat.{mul-div_cancel}
use Rattle.std.specs.declared.cmp.PartialEq as PartialEq
use Rattle.record_core.specs.declared.record.Record as Record
use Rattle.record_core.specs.Bytes.{Encoding}
use Rattle.record_core.specs.Cells.{AreRecords}
use Rattle.block_core.specs.declared.fault.FreshFault.{FreshFault}
use Rattle.block_core.specs.declared.fault.FreshFault.TheVariants as lengths
use Rattle.block_core.specs.Length.{IsBlockLength, IsLengthFault}
use Rattle.book_core.specs.declared.fault.GrowFault.{GrowFault}
use Rattle.book_core.specs.declared.fault.GrowFault.TheVariants as faults
use Rattle.book_core.specs.Lists.{Phase, Seated}
use Rattle.book_core.specs.Growing.{IsBookRefusal, IsCopiesRefusal}
use Rattle.book_core.proofs.Steps.{learns-refl}
use Rattle.phase_core.specs.declared.grower.Grower.{Grower}
use Rattle.c_core.specs.declared.refusal.Refusal.{Refusal}
use Rattle.c_core.specs.declared.refusal.Refusal.TheVariants.{Memory, NoRecord}
use Rattle.c_core.specs.Records.{AreNone}
use Rattle.handle_core.specs.Refusals.{of_block, of_growth}
use Rattle.handle_core.specs.Roles.{RefusesBytes}

-- the records that the bytes are
pub counted : {R : Type 0} (form : Encoding R) (bytes : List ℕ) (records : List R) → 0 < form.width → AreRecords form bytes records → length bytes / form.width ≡ length records
counted form bytes records wide are = ap (λ n. n / form.width) are.filled ∙ mul-div_cancel (length records) wide

module _ {R : Type 0} (width : ℕ) (live : Phase R) (seat : Seated R) (n : ℕ) where
  -- for its length
  pub by_length : (fault : FreshFault) → IsLengthFault width n fault → (grown : GrowFault) × (of_block fault ≡ of_growth grown) × IsCopiesRefusal width live seat n grown
  by_length lengths.Empty is = (faults.Empty, refl, is)
  by_length lengths.TooLarge is = (faults.TooLarge, refl, is)
  by_length lengths.Memory is = absurd is

  -- by the book
  pub by_book : (fault : GrowFault) → IsBlockLength width n → IsBookRefusal live seat n fault → IsCopiesRefusal width live seat n fault
  by_book faults.Closed block is = (block, is)
  by_book faults.Full block is = (block, is)
  by_book faults.TooLong block is = (block, is)
  by_book (faults.Strayed k) block is = (block, is)
  by_book faults.Memory block is = block
  by_book faults.Empty block is = absurd is
  by_book faults.TooLarge block is = absurd is

-- for want of memory for the records, or since the bytes are none
module _ {R : Type 0} {record_of : Record.Ghosts R} {eq_of : PartialEq.Ghosts R} where
  pub by_records : (bytes : List ℕ) (grower : Grower R record_of eq_of) (refusal : Refusal) → IsBlockLength record_of.form.width (length bytes / record_of.form.width)
      → (refusal ≡ Memory) ⊎ ((refusal ≡ NoRecord) × AreNone record_of.form bytes) → RefusesBytes bytes refusal grower grower
  by_records bytes grower refusal block (inl memory) = (refl, learns-refl grower.seat, inr (faults.Memory, memory, block))
  by_records bytes grower refusal block (inr none) = (refl, learns-refl grower.seat, inl none)
