-- The runs that the program makes: a task on records of one of its types.
use Rattle.std.specs.Prelude.{◌≡◌, ℕ, Bool, true, false, List, Option, Some, None, IfSome, ◌++◌, codes, Result, Ok, Err}
use Rattle.std.specs.Io.KnownBytes.{Appends, Keeps}
use Rattle.std.specs.Int.{w8, w16, w32, w64}
use Rattle.record_core.specs.Bytes.{Encoding, unsigned, signed, pair, flagged}
use Rattle.record_core.specs.ByteRecords.{bytes16, bytes24, bytes32, bytes64}
use Rattle.words_core.specs.declared.request.Task.{Task}
use Rattle.words_core.specs.declared.request.Task.TheVariants.{Image, Show, Play}
use Rattle.words_core.specs.declared.request.RecordType.{RecordType}
use Rattle.words_core.specs.declared.request.RecordType.TheVariants.{U8, U16, U32, U64, I32, I64, F32, F64, Pair, Flagged, Bytes16, Bytes24, Bytes32, Bytes64}
use Rattle.words_core.specs.declared.request.Request.{Request}
use Rattle.words_core.specs.declared.request.Request.TheVariants.{Input, File, Stat, Tell}
use Rattle.words_core.specs.declared.request.FileTask.{FileTask}
use Rattle.filing_core.specs.Commands.{IsCommandRun, IsStatRun}
use Rattle.text_core.specs.declared.refusal.Refusal.TheVariants as refusals
use Rattle.text_core.specs.declared.status.Status.{Status}
use Rattle.text_core.specs.declared.status.Status.TheVariants as statuses
use Rattle.files_core.specs.Faults.{fault_line}
use Rattle.sentences.specs.Beside.{beside_name}
use Rattle.sentences.specs.declared.complaint.Complaint.{Complaint}
use Rattle.sentences.specs.declared.complaint.Complaint.TheVariants as complaints
use Rattle.text_core.specs.Text.{Spelling, ended_line}
use Rattle.text_core.specs.Numbers.{number_spelling}
use Rattle.text_core.specs.SignedNumbers.{signed_spelling}
use Rattle.text_core.specs.Keyed.{pair_spelling, flagged_spelling}
use Rattle.text_core.specs.InHex.{hex_spelling}
use Rattle.text_core.specs.Refusals.{refusal_line, refused_line}
use Rattle.image_core.specs.Engines.{IsImageRun, IsShowRun}
use Rattle.play_core.specs.Playing.{IsPlayRun}

-- how the task's engine may end over records of these bytes and texts, and what it has written then
abbrev pub IsTaskRun : {R : Type 0} → Task → Encoding R → Spelling R → List ℕ → Option (List ℕ) → Option (List ℕ) → Status → Type 0
IsTaskRun Image form spelling input old new status = IsImageRun form spelling input old new status
IsTaskRun Show form spelling input old new status = IsShowRun form spelling input old new status
IsTaskRun Play form spelling input old new status = IsPlayRun form spelling input old new status

-- what holds of the bytes and texts of the program's types; floats are the numbers that have their bits
abbrev pub OfType : RecordType → ((R : Type 0) → Encoding R → Spelling R → Type 0) → Type 0
OfType U8 Is = Is _ (unsigned w8) (number_spelling 8)
OfType U16 Is = Is _ (unsigned w16) (number_spelling 16)
OfType U32 Is = Is _ (unsigned w32) (number_spelling 32)
OfType U64 Is = Is _ (unsigned w64) (number_spelling 64)
OfType I32 Is = Is _ (signed w32) (signed_spelling w32)
OfType I64 Is = Is _ (signed w64) (signed_spelling w64)
OfType F32 Is = Is _ (unsigned w32) (number_spelling 32)
OfType F64 Is = Is _ (unsigned w64) (number_spelling 64)
OfType Pair Is = Is _ pair pair_spelling
OfType Flagged Is = Is _ flagged flagged_spelling
OfType Bytes16 Is = Is _ bytes16 (hex_spelling bytes16)
OfType Bytes24 Is = Is _ bytes24 (hex_spelling bytes24)
OfType Bytes32 Is = Is _ bytes32 (hex_spelling bytes32)
OfType Bytes64 Is = Is _ bytes64 (hex_spelling bytes64)

-- the same over records of one of the program's types
abbrev pub IsProgramRun : Task → RecordType → List ℕ → Option (List ℕ) → Option (List ℕ) → Status → Type 0
IsProgramRun task record_type input old new status = OfType record_type (λ R form spelling. IsTaskRun task form spelling input old new status)

-- what a command over a file has done, on records of one of the program's types
abbrev pub IsTypedCommandRun : RecordType → FileTask → Option (List ℕ) → Option (List ℕ) → Option (List ℕ) → Result Status Complaint → Type 0
IsTypedCommandRun record_type task input old new filed = OfType record_type (λ R form spelling. IsCommandRun form spelling task input old new filed)

-- the line that is printed of a complaint
abbrev pub complaint_line : Complaint → List ℕ
complaint_line (complaints.NotOpened role error) = codes "refused: " ++ ended_line (codes "file")
complaint_line (complaints.InUse role) = codes "refused: " ++ ended_line (codes "file")
complaint_line (complaints.Fault fault) = fault_line fault
complaint_line (complaints.Damaged sound fault) = fault_line fault
complaint_line (complaints.Appended appended fault) = fault_line fault
complaint_line (complaints.Served growths fault) = fault_line fault
complaint_line (complaints.Beside fault) = refused_line (beside_name fault)

-- the line of a complaint was written, or output failed
abbrev pub IsComplaintRun : Option (List ℕ) → Option (List ℕ) → Complaint → Status → Type 0
IsComplaintRun old new complaint statuses.Done = ⊥
IsComplaintRun old new complaint statuses.Refused = Appends old new (complaint_line complaint)
IsComplaintRun old new complaint statuses.OutputFailed = Unit {0}
IsComplaintRun old new complaint statuses.Usage = ⊥

-- the same to the output, or aside where the words ask for that; the other one gets nothing
abbrev pub IsRefusedTo : Bool → Option (List ℕ) → Option (List ℕ) → Option (List ℕ) → Option (List ℕ) → Complaint → Status → Type 0
IsRefusedTo false mid new before behind complaint status = IsComplaintRun mid new complaint status × (behind ≡ before)
IsRefusedTo true mid new before behind complaint status = IsComplaintRun before behind complaint status × (new ≡ mid)

-- A command over a file ended so when that was written, and it is told: its status, or its complaint and the line of that.
abbrev pub IsToldRun : Bool → Result Status Complaint → Option (List ℕ) → Option (List ℕ) → Option (List ℕ) → Option (List ℕ) → Status → Option Complaint → Type 0
IsToldRun aside (Ok ended) mid new before behind status complaint = (new ≡ mid) × (behind ≡ before) × (status ≡ ended) × (complaint ≡ None)
IsToldRun aside (Err why) mid new before behind status complaint = (complaint ≡ Some why) × IsRefusedTo aside mid new before behind why status

-- the command was run that is so, and it was told how it ended
pub record IsFileRun (IsRun : Option (List ℕ) → Result Status Complaint → Type 0) (aside : Bool) (new before behind : Option (List ℕ)) (status : Status) (complaint : Option Complaint) : Type 0 where
  pub mid : Option (List ℕ)
  pub filed : Result Status Complaint
  pub run : IsRun mid filed
  pub told : IsToldRun aside filed mid new before behind status complaint

-- the program gave no engine its work: memory was refused, or the words ask for nothing
abbrev pub IsIdleRun : Option (List ℕ) → Option (List ℕ) → Status → Type 0
IsIdleRun old new statuses.Done = ⊥
IsIdleRun old new statuses.Refused = Appends old new (refusal_line refusals.Memory)
IsIdleRun old new statuses.OutputFailed = Unit {0}
IsIdleRun old new statuses.Usage = Keeps old new

-- what the program tells of itself was written, or output failed
abbrev pub IsTellRun : List ℕ → Option (List ℕ) → Option (List ℕ) → Status → Type 0
IsTellRun text old new statuses.Done = Appends old new text
IsTellRun text old new statuses.Refused = ⊥
IsTellRun text old new statuses.OutputFailed = Unit {0}
IsTellRun text old new statuses.Usage = ⊥

-- The program did what it was asked for, or answered that it was asked for nothing. Aside stands what did before, and the line of a
-- refusal where the words ask for that.
abbrev pub IsAskedRun : Option Request → Option (List ℕ) → Option (List ℕ) → Option (List ℕ) → Option (List ℕ) → Option (List ℕ) → Status → Option Complaint → Type 0
IsAskedRun None input old new before behind status complaint = IsIdleRun old new status × (complaint ≡ None) × (behind ≡ before)
IsAskedRun (Some (Input task record_type)) input old new before behind status complaint =
    IfSome input (λ bytes. IsProgramRun task record_type bytes old new status) × (complaint ≡ None) × (behind ≡ before)
IsAskedRun (Some (File words)) input old new before behind status complaint =
    IsFileRun (IsTypedCommandRun words.record_type words.task input old) words.refused_aside new before behind status complaint
IsAskedRun (Some (Stat words)) input old new before behind status complaint = IsFileRun (IsStatRun words.form old) words.refused_aside new before behind status complaint
IsAskedRun (Some (Tell text)) input old new before behind status complaint = IsTellRun text.now old new status × (complaint ≡ None) × (behind ≡ before)
