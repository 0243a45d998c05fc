-- Why a growth isn't made, told a seat that is as it was.
use Rattle.std.proofs.Common.{◌≡◌, ℕ, List, [], refl, sym, subst, arith}
use Rattle.std.proofs.Math.Seq.{take-length}
use Rattle.record_core.specs.Bytes.{Encoding}
use Rattle.block_core.specs.Length.{IsBlockLength, IsBlockRefusal}
use Rattle.block_core.specs.declared.fault.FreshFault.{FreshFault}
use Rattle.block_core.specs.declared.fault.FreshFault.TheVariants as blocks
use Rattle.book_core.specs.Faults.{fault_of_block}
use Rattle.book_core.specs.Growing.{SeatLearns}
use Rattle.book_core.specs.Lists.{Phase, Seated}
use Rattle.serve_core.specs.declared.refusal.RequestRefusal.{RequestRefusal}
use Rattle.serve_core.specs.declared.refusal.RequestRefusal.TheVariants as refusals
use Rattle.serve_core.specs.Answers.{refusal_of_growth}
use Rattle.serve_core.specs.Talks.{IsBlock, IsCountRefusal, IsGrowRefusal, IsGrowthRefusal, IsUnread}

pub as_before : {R : Type 0} (seat : Seated R) → SeatLearns seat seat
as_before seat = record { id = refl; mark = refl; of = refl; made = refl; begins = take-length seat.pass.entries }

-- by the number that the request has
pub not_counted : {R : Type 0} (form : Encoding R) (live : Phase R) (count : ℕ) (block : List ℕ) (seat : Seated R) (refusal : RequestRefusal)
    → IsCountRefusal form.width count refusal → block ≡ [] → IsGrowthRefusal form live count block seat refusal
not_counted form live count block seat refusals.NoRecord why none = (why, none)
not_counted form live count block seat refusals.TooMany why none = (why, none)
not_counted form live count block seat other why none = absurd why

-- by the bytes, or for want of memory for the records that they are
pub not_read : {R : Type 0} (form : Encoding R) (live : Phase R) (count : ℕ) (block : List ℕ) (seat : Seated R) (refusal : RequestRefusal)
    → IsBlock form.width count block → IsUnread form count block refusal → IsGrowthRefusal form live count block seat refusal
not_read form live count block seat refusals.BadRecord is why = (is, why)
not_read form live count block seat refusals.Memory is why = is
not_read form live count block seat other is why = absurd why

-- for want of memory for a block of the records, which are some and not too many
pub no_block : {R : Type 0} (live : Phase R) (width n : ℕ) (seat : Seated R) (fault : FreshFault) (refusal : RequestRefusal) → IsBlockLength width n → IsBlockRefusal width n fault
    → refusal ≡ refusal_of_growth (fault_of_block fault) → IsGrowRefusal live n seat refusal
no_block live width n seat blocks.Empty refusal len why is = absurd (let some = len.some in omega (arith, why, some))
no_block live width n seat blocks.TooLarge refusal len why is = absurd (let fits = len.fits in omega (arith, why, fits))
no_block live width n seat blocks.Memory refusal len why is = subst (IsGrowRefusal live n seat) (sym is) tt
