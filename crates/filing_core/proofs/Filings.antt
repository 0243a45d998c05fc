-- What a command over a file has done.
use Rattle.std.proofs.Common.{◌≡◌, ◌⊎◌, ◌∙◌, ℕ, List, ap, sym, subst, inr, Result, Ok, Err, MatchResult}
use Rattle.std.specs.Prelude.{Option, Some, None, IfSome}
use Rattle.std.specs.Result.{IsErrAnd}
use Rattle.text_core.specs.Text.{Spelling}
use Rattle.text_core.specs.declared.refusal.Refusal.TheVariants as refusals
use Rattle.lines_core.specs.Excerpts.{IsBadLineShown}
use Rattle.lines_core.specs.declared.excerpt.Excerpt.{Excerpt}
use Rattle.files_core.specs.declared.fault.FileFault.TheVariants as faults
use Rattle.sentences.specs.declared.complaint.Complaint.TheVariants as complaints
use Rattle.filing_core.specs.Shown.{IsInputShown}
use Rattle.record_core.specs.Bytes.{Encoding}
use Rattle.files_core.specs.Ended.{EndsAs}
use Rattle.files_core.specs.declared.ended.Ended.{Ended}
use Rattle.files_core.specs.declared.ended.Ended.TheVariants.{Done, OutputFailed, Refused}
use Rattle.files_core.proofs.Opened.{done_ends}
use Rattle.files_core.specs.declared.fault.FileFault.{FileFault}
use Rattle.sentences.specs.declared.complaint.Complaint.{Complaint}
use Rattle.text_core.specs.declared.status.Status.{Status}
use Rattle.follow_core.specs.declared.ended.FollowEnd.{FollowEnd}
use Rattle.follow_core.specs.declared.ended.LookEnd.{LookEnd}
use Rattle.filing_core.specs.Beside.{Foreign, IsFollowDone, IsLookDone}
use Rattle.filing_core.specs.declared.polling.Looks.{Looks}
use Rattle.filing_core.specs.Complaints.{Disk, IsComplaintOf, IsJustOpened, IsStatusOf}
use Rattle.filing_core.specs.Commands.{IsEngineDone, IsOverFile}

module _ {R : Type 0} (form : Encoding R) (old new : Option (List ℕ)) (filed : Result Status Complaint) {IsReason : FileFault → Type 0} {HasEnded : Disk → Disk → Ended → Type 0} where
  -- an engine ended over the disk that was opened, which was given to it and back by these names
  pub over_file : (disk given left back : Disk) (ended : Ended) → given ≡ disk → IsJustOpened disk → back ≡ left → HasEnded given left ended
      → IsStatusOf (IsComplaintOf form back) ended filed → IsOverFile form old new filed IsReason HasEnded
  over_file disk given left back ended is_given opened is_back engine told = inr (inr (record {
    disk = given;
    left = left;
    ended = ended;
    opened = subst (λ (d : Disk). IsJustOpened d) (sym is_given) opened;
    engine = engine;
    told = subst (λ (d : Disk). IsStatusOf (IsComplaintOf form d) ended filed) is_back told;
  }))

-- the work was done, or refused, and that told
pub made_ends : {X : Type 0} (done : Type 0) (refused : FileFault → Type 0) (made : Result X FileFault) (ended : Ended)
    → MatchResult made (λ _. (ended ≡ Done) ⊎ (ended ≡ OutputFailed)) (λ fault. ended ≡ Refused fault) → MatchResult made (λ _. done) refused → EndsAs done refused ended
made_ends done refused (Ok x) ended told has = done_ends done refused ended told has
made_ends done refused (Err fault) ended told has = subst (EndsAs done refused) (sym told) has

-- an engine that ended so ended also so
pub done_as : (filed : Result Status Complaint) (IsComplaint : Disk → FileFault → Complaint → Type 0) {HasEnded HasOther : Disk → Disk → Ended → Type 0}
    → ((disk left : Disk) (ended : Ended) → HasEnded disk left ended → HasOther disk left ended) → IsEngineDone filed IsComplaint HasEnded → IsEngineDone filed IsComplaint HasOther
done_as filed IsComplaint weaker done = record { disk = done.disk; left = done.left; ended = done.ended; opened = done.opened; engine = weaker done.disk done.left done.ended done.engine; told = done.told }

-- a follower that ended so ended also so
pub follow_as : (filed : Result Status Complaint) (looks : Looks) {Has HasOther : Foreign → Foreign → FollowEnd → Type 0} → ((file left : Foreign) (end : FollowEnd) → Has file left end → HasOther file left end)
    → IsFollowDone filed looks Has → IsFollowDone filed looks HasOther
follow_as filed looks weaker done = record {
  file = done.file;
  left = done.left;
  end = done.end;
  opened = done.opened;
  stays = done.stays;
  engine = weaker done.file done.left done.end done.engine;
  paused = done.paused;
  told = done.told;
}

-- a look that ended so ended also so
pub look_as : (filed : Result Status Complaint) {Has HasOther : Foreign → Foreign → LookEnd → Type 0} → ((file left : Foreign) (end : LookEnd) → Has file left end → HasOther file left end)
    → IsLookDone filed Has → IsLookDone filed HasOther
look_as filed weaker done =
    record { file = done.file; left = done.left; end = done.end; opened = done.opened; stays = done.stays; engine = weaker done.file done.left done.end done.engine; told = done.told }

abbrev fault_or : {T : Type 0} → FileFault → Result T FileFault → FileFault
fault_or other (Ok value) = other
fault_or other (Err fault) = fault

-- what is shown of an input that was refused, where the command is refused for that
pub input_shown : {R T : Type 0} (spelling : Spelling R) (input : Option (List ℕ)) (read : Result T FileFault) (fault : FileFault) (filed : Result Status Complaint) (shown : Option Excerpt)
    → read ≡ Err fault → filed ≡ Err (complaints.Fault fault)
    → IfSome shown (λ excerpt. IfSome input (λ bytes. (n : ℕ) × (read ≡ Err (faults.Input (refusals.Line n))) × IsBadLineShown spelling bytes n excerpt)) → IsInputShown spelling input filed shown
input_shown spelling input read fault filed None is told line = tt
input_shown spelling None read fault filed (Some excerpt) is told line = tt
input_shown spelling (Some bytes) read fault filed (Some excerpt) is told line =
    (line.0, told ∙ ap (λ (f : FileFault). Err (complaints.Fault f)) (ap (λ r. fault_or fault r) (sym is ∙ line.1)), line.2)

-- a fault that `?` has handed on
pub told_fault : (filed : Result Status Complaint) (fault : FileFault) → IsErrAnd filed (λ complaint. complaint ≡ complaints.Fault fault) → filed ≡ Err (complaints.Fault fault)
told_fault (Ok status) fault is = absurd is
told_fault (Err complaint) fault is = ap (λ (c : Complaint). Err c) is
