-- Copies: what is copied from a file into a new one, and why it isn't. An upgrade is one from version 1 to version 2.
use Rattle.std.specs.Prelude.{◌≡◌, ◌⊎◌, ℕ, ◌+◌, ◌-◌, ◌*◌, ◌<◌, ◌≤◌, ◌^◌, ◌↔◌, List, length, take, Option, Some, None, Err, IfOk, IfErr, MatchResult, false}
use Rattle.std.specs.Int.{div_ceil}
use Rattle.std.specs.declared.result.Result.{Result}
use Rattle.std.specs.NonZero.{non_zero_u32_get}
use Rattle.std.specs.declared.num.NonZeroU32.{NonZeroU32}
use Rattle.record_core.specs.Bytes.{Encoding}
use Rattle.disk_core.specs.State.{State, now, IsImage}
use Rattle.disk_core.specs.Calls.{bytes_of}
use Rattle.disk_core.specs.Moments.{clock, LeftSince}
use Rattle.segment_core.specs.declared.fault.ScanFault.TheVariants.{Unborn}
use Rattle.segment_core.specs.declared.format.Format.{Format}
use Rattle.segment_core.specs.declared.format.Format.TheVariants.{One, Two}
use Rattle.segment_core.specs.Shape.{limit_of, shape_of}
use Rattle.segment_core.specs.Frame.{Frame}
use Rattle.segment_core.specs.Fault.{header_fault}
use Rattle.segment_core.specs.Vector.{HasVector}
use Rattle.pen_core.specs.declared.step.PenStep.{PenStep}
use Rattle.pen_core.specs.declared.fault.PenFault.{PenFault}
use Rattle.pen_core.specs.declared.fault.PenFault.TheVariants as faults
use Rattle.pen_core.specs.Births.{IsExisting, IsCreateFault, WritesNothing, AreCallsUntil, calls_of_creation}
use Rattle.pen_core.specs.Opening.{IsOpenRefusal, AreCallsDone, AreCallsMade, failed_openings}
use Rattle.pen_core.specs.PenOf.{PenOf}
use Rattle.pen_core.specs.Pen.{failed_calls}
use Rattle.pen_core.specs.Step.{steps_left, fault_of}
use Rattle.pen_core.specs.Typed.{OpensTo}
use Rattle.vault_core.specs.declared.fault.VaultFault.TheVariants.{Pen, Unsettled, WrongPhase}
use Rattle.vault_core.specs.declared.upgrading.UpgradeFault.{UpgradeFault}
use Rattle.vault_core.specs.declared.upgrading.UpgradeFault.TheVariants.{Old, NotOld, New}
use Rattle.vault_core.specs.Vault.{VaultOf, OpensToEither, list_of}

-- ---- what is copied

-- the bytes are a file of this version, and these are its records
abbrev pub IsFileOfFormat : {R : Type 0} → Format → Encoding R → List ℕ → List R → Type 0
IsFileOfFormat format form bytes records = (frames : List Frame) × HasVector format form bytes frames records

-- in how many growths so many records are copied: each has a piece of them, the last one maybe fewer
abbrev pub growth_count : ℕ → ℕ → ℕ
growth_count piece len = div_ceil len piece

-- the records of the first so many growths
abbrev pub copied : {R : Type 0} → ℕ → List R → ℕ → List R
copied piece records growths = take (growths * piece) records

-- where the closed gate stands behind so many frames of one growth each, with so many records in all
abbrev pub gate_behind : ℕ → ℕ → ℕ → ℕ
gate_behind width growths len = 11 + growths * 14 + len * width

-- so many records are the longest growth of a file of that version
abbrev pub IsGreatestPiece : Format → ℕ → ℕ → Type 0
IsGreatestPiece format width piece = (n : ℕ) → (n ≤ piece) ↔ (8 + n * width ≤ limit_of format)

-- What a pen counts that has written the first so many growths into a new file of that version, and has nothing in hand.
pub record HasWritten {R D : Type 0} (format : Format) (form : Encoding R) (piece : ℕ) (records : List R) (growths : ℕ) (pen : PenOf D) : Type 0 where
  pub shape_is : pen.shape ≡ shape_of format form
  pub tally_is : pen.tally ≡ record { size = length (copied piece records growths); changes = 0; folded = 0 }
  pub gate_is : pen.gate ≡ gate_behind form.width growths (length (copied piece records growths))
  pub no_job : pen.job ≡ None
  pub no_fold : pen.fold ≡ None
  pub whole : pen.broken ≡ false

-- ---- what a crash may leave

-- the image opens to the first so many growths
abbrev pub OpensToCopied : {R : Type 0} → Encoding R → ℕ → List R → List ℕ → Type 0
OpensToCopied form piece records image = (growths : ℕ) × OpensTo form image (copied piece records growths)

-- or is no file yet
abbrev pub IsUnbornOrCopied : {R : Type 0} → Encoding R → ℕ → List R → List ℕ → Type 0
IsUnbornOrCopied form piece records image = (header_fault form.width image ≡ Some Unborn) ⊎ OpensToCopied form piece records image

-- From the first sync on, where it succeeded and there was no file, each image is such. The next call, of the length,
-- tells that it succeeded.
abbrev pub StaysUnbornOrCopied : {R : Type 0} → Encoding R → ℕ → List R → List State → List State → Type 0
StaysUnbornOrCopied form piece records old new =
    (IsExisting (bytes_of old) → ⊥) → clock old + 1 < clock new → (image : List ℕ) → LeftSince new (clock old + 1) image
    → IsUnbornOrCopied form piece records image

-- ---- refusals

-- the frame of the growth behind so many brings the gate to 2^48
abbrev pub IsFilledBehind : {R : Type 0} → Encoding R → ℕ → List R → ℕ → Type 0
IsFilledBehind form piece records growths = 2 ^ 48 ≤ gate_behind form.width (growths + 1) (length (copied piece records (growths + 1)))

-- Why a growth isn't settled, behind so many that are, and so many calls: its frame fills the file, memory was refused,
-- or a call of its commit failed. The disk keeps the model or not; where it does, each image that it may leave in this state
-- opens to those that are settled, or to one more.
pub record IsCopyStop {R : Type 0} (form : Encoding R) (keeps : Type 0) (left : State) (piece : ℕ) (records : List R) (calls : ℕ) (fault : PenFault) : Type 0 where
  pub growths : ℕ
  pub before : growths < growth_count piece (length records)
  pub opens : keeps → (image : List ℕ) → IsImage left image → OpensToEither form (copied piece records growths) (copied piece records (growths + 1)) image
  pub why : ((fault ≡ faults.FileFull) × IsFilledBehind form piece records growths × (calls ≡ growths * 4))
      ⊎ ((IsFilledBehind form piece records growths → ⊥)
      × (((fault ≡ faults.Memory) × (calls ≡ growths * 4))
      ⊎ ((step : PenStep) × (fault ≡ faults.Disk (fault_of step)) × (calls ≡ growths * 4 + (5 - steps_left step)))))

-- Why there is no new file, or not the whole one: a piece is past the longest payload; memory was refused; as a
-- creation; or, behind its calls, as a commit.
abbrev pub IsCopyRefusal : {R D : Type 0} → Format → Encoding R → (D → Type 0) → (D → List State) → ℕ → List R → D → D → PenFault → Type 0
IsCopyRefusal format form keeps states piece records disk left fault =
    ((fault ≡ faults.TooLarge) × (limit_of format < 8 + piece * form.width) × (left ≡ disk))
    ⊎ ((8 + piece * form.width ≤ limit_of format)
    × (((fault ≡ faults.Memory) × (left ≡ disk))
    ⊎ ((IsCreateFault fault × (keeps left → AreCallsUntil (bytes_of (states disk)) (calls_of_creation (bytes_of (states disk))) fault (clock (states left) - clock (states disk))))
    ⊎ ((calls : ℕ) × (keeps left → clock (states left) ≡ clock (states disk) + length (calls_of_creation (bytes_of (states disk))) + calls)
    × IsCopyStop form (keeps left) (now (states left)) piece records calls fault))))

-- ---- the new file

-- What comes of copying these records into a new file of that version on a disk: a vault with them, all settled; or the disk back, and
-- why. Where there was a file nothing is written.
pub record IsCopied {R D : Type 0} (format : Format) (form : Encoding R) (keeps : D → Type 0) (states : D → List State) (failures : D → ℕ) (piece : ℕ)
    (records : List R) (disk : D) (result : Result (VaultOf R D) (D × PenFault)) : Type 0 where
  pub list : IfOk result (λ v. list_of v ≡ records)
  pub written : IfOk result (λ v. HasWritten format form piece records (growth_count piece (length records)) v.pen)
  pub fits : IfOk result (λ _. 8 + piece * form.width ≤ limit_of format)
  pub sure : IfOk result (λ v. keeps v.pen.disk → v.sure ≡ records)
  pub opens : IfOk result (λ v. keeps v.pen.disk → (image : List ℕ) → IsImage (now (states v.pen.disk)) image → OpensTo form image records)
  pub stays : MatchResult result
      (λ v. keeps v.pen.disk → StaysUnbornOrCopied form piece records (states disk) (states v.pen.disk))
      (λ r. keeps r.0 → StaysUnbornOrCopied form piece records (states disk) (states r.0))
  pub none_existed : IfOk result (λ v. keeps v.pen.disk → IsExisting (bytes_of (states disk)) → ⊥)
  pub existed : IfErr result (λ r. keeps r.0 → IsExisting (bytes_of (states disk)) → (r.0 ≡ disk) ⊎ WritesNothing (states disk) (states r.0))
  pub exists : IfErr result (λ r. keeps r.0 → r.1 ≡ faults.Exists → IsExisting (bytes_of (states disk)))
  pub refused : IfErr result (λ r. IsCopyRefusal format form keeps states piece records disk r.0 r.1)
  pub calls : IfOk result (λ v. keeps v.pen.disk → clock (states v.pen.disk) ≡ clock (states disk) + length (calls_of_creation (bytes_of (states disk))) + growth_count piece (length records) * 4)
  pub time : MatchResult result
      (λ v. clock (states v.pen.disk) ≤ clock (states disk) + 8 + growth_count piece (length records) * 4)
      (λ r. clock (states r.0) ≤ clock (states disk) + 8 + growth_count piece (length records) * 4)
  pub failed : MatchResult result (λ v. failures v.pen.disk ≡ failures disk) (λ r. failures r.0 ≡ failures disk + failed_calls r.1)
  pub model : MatchResult result (λ v. keeps v.pen.disk → keeps disk) (λ r. keeps r.0 → keeps disk)

-- ---- any copy

-- the version of the new file: the one that is asked for, or that of the old file
abbrev pub format_of_copy : Option Format → Format → Format
format_of_copy (Some format) own = format
format_of_copy None own = own

-- how many records its growths have: as many as are asked for, or the most
abbrev pub IsPieceOfCopy : Option NonZeroU32 → Format → ℕ → ℕ → Type 0
IsPieceOfCopy (Some asked) format width piece = piece ≡ non_zero_u32_get asked
IsPieceOfCopy None format width piece = IsGreatestPiece format width piece

-- These records are those of the file, known or not, that has these bytes; and this came of copying them.
pub record IsCopyOfFile {R D : Type 0} (form : Encoding R) (known : Type 0) (bytes : List ℕ) (format : Option Format) (block : Option NonZeroU32) (keeps : D → Type 0)
    (states : D → List State) (failures : D → ℕ) (records : List R) (disk : D) (result : Result (VaultOf R D) (D × PenFault)) : Type 0 where
  pub own : Format
  pub file : known → IsFileOfFormat own form bytes records
  pub piece : ℕ
  pub piece_is : IsPieceOfCopy block (format_of_copy format own) form.width piece
  pub copied : IsCopied (format_of_copy format own) form keeps states failures piece records disk result

-- Why nothing was copied, by what the old file is, with what is left of the new disk. It may have either version.
abbrev pub IsCopyFault : {R E : Type 0} → Encoding R → Type 0 → List ℕ → Option Format → Option NonZeroU32 → (E → Type 0) → (E → List State) → (E → ℕ) → E → E → UpgradeFault
    → Type 0
IsCopyFault form known bytes format block keeps states failures new left (Old fault) = (known → IsOpenRefusal form bytes fault) × (left ≡ new)
IsCopyFault form known bytes format block keeps states failures new left NotOld = ⊥
IsCopyFault {R} form known bytes format block keeps states failures new left (New (Pen fault)) =
    (records : List R) × IsCopyOfFile form known bytes format block keeps states failures records new (Err (left, fault))
IsCopyFault form known bytes format block keeps states failures new left (New (Unsettled number)) = ⊥
IsCopyFault form known bytes format block keeps states failures new left (New WrongPhase) = ⊥

-- ---- the upgrade

-- Why nothing was upgraded, by what the old file is, with what is left of the new disk.
abbrev pub IsUpgradeFault : {R E : Type 0} → Encoding R → Type 0 → List ℕ → (E → Type 0) → (E → List State) → (E → ℕ) → ℕ → E → E → UpgradeFault → Type 0
IsUpgradeFault form known bytes keeps states failures piece new left (Old fault) = (known → IsOpenRefusal form bytes fault) × (left ≡ new)
IsUpgradeFault {R} form known bytes keeps states failures piece new left NotOld = (known → (records : List R) × IsFileOfFormat Two form bytes records) × (left ≡ new)
IsUpgradeFault {R} form known bytes keeps states failures piece new left (New (Pen fault)) =
    (records : List R) × (known → IsFileOfFormat One form bytes records) × IsCopied Two form keeps states failures piece records new (Err (left, fault))
IsUpgradeFault form known bytes keeps states failures piece new left (New (Unsettled number)) = ⊥
IsUpgradeFault form known bytes keeps states failures piece new left (New WrongPhase) = ⊥

-- how many calls of the old disk were made, in a file of so many bytes, where this is answered
abbrev pub AreOldCalls : ℕ → UpgradeFault → ℕ → Type 0
AreOldCalls len (Old fault) n = AreCallsMade len fault n
AreOldCalls len NotOld n = AreCallsDone len n
AreOldCalls len (New fault) n = AreCallsDone len n

-- and how many of them failed
abbrev pub failed_of_old : UpgradeFault → ℕ
failed_of_old (Old fault) = failed_openings fault
failed_of_old NotOld = 0
failed_of_old (New fault) = 0
