-- A command over a file never ends with usage.
use Rattle.std.proofs.Common.{◌≡◌, ℕ, List, sym, subst, ◌∙◌, inl, inr, Result, Ok, Err}
use Rattle.std.specs.Prelude.{Option, Bool, true, false}
use Rattle.std.specs.declared.num.NonZeroU32.{NonZeroU32}
use Rattle.record_core.specs.Bytes.{Encoding}
use Rattle.text_core.specs.Text.{Spelling}
use Rattle.files_core.specs.declared.ended.Ended.{Ended}
use Rattle.files_core.specs.declared.ended.Ended.TheVariants.{Done, OutputFailed, Refused}
use Rattle.files_core.specs.declared.fault.FileFault.{FileFault}
use Rattle.segment_core.specs.declared.format.Format.{Format}
use Rattle.follow_core.specs.declared.ended.FollowEnd.{FollowEnd}
use Rattle.follow_core.specs.declared.ended.FollowEnd.TheVariants as follow_ends
use Rattle.follow_core.specs.declared.ended.LookEnd.{LookEnd}
use Rattle.follow_core.specs.declared.ended.LookEnd.TheVariants as look_ends
use Rattle.serve_core.specs.declared.fault.ServeFault.{ServeFault}
use Rattle.words_core.specs.declared.request.FileTask.{FileTask}
use Rattle.words_core.specs.declared.request.FileTask.TheVariants.{Create, Load, Append, Check, List as Listed, Follow, Count, Find, Set, Resize, Clear, Fold, Upgrade, Copy, Serve}
use Rattle.words_core.specs.declared.request.Following.{Following}
use Rattle.words_core.specs.declared.request.Following.TheVariants.{Records, Events}
use Rattle.words_core.specs.declared.request.RecordType.{RecordType}
use Rattle.words_core.specs.declared.request.RecordType.TheVariants.{U8, U16, U32, U64, I32, I64, F32, F64, Pair, Flagged, Bytes16, Bytes24, Bytes32, Bytes64}
use Rattle.sentences.specs.declared.complaint.Complaint.{Complaint}
use Rattle.text_core.specs.declared.status.Status.{Status}
use Rattle.text_core.specs.declared.status.Status.TheVariants as statuses
use Rattle.filing_core.specs.Complaints.{Disk, IsLeftAlone, IsStatusOf}
use Rattle.filing_core.specs.declared.polling.Looks.{Looks}
use Rattle.filing_core.specs.Beside.{Foreign, IsFollowStatus, IsLookStatus, looks_asked}
use Rattle.filing_core.specs.Commands.{IsCommandRun, IsEngineDone, IsFollowRun, IsNewRun, IsOverFile, IsReadingRun, IsServedAs}
use Rattle.cvec.specs.Runs.{IsRefusedTo, IsToldRun, IsTypedCommandRun}

-- a command doesn't end so
abbrev IsNoUsage : Result Status Complaint → Type 0
IsNoUsage (Ok statuses.Done) = Unit {0}
IsNoUsage (Ok statuses.Refused) = Unit {0}
IsNoUsage (Ok statuses.OutputFailed) = Unit {0}
IsNoUsage (Ok statuses.Usage) = ⊥
IsNoUsage (Err complaint) = Unit {0}

no_usage_of_status : (IsComplaint : FileFault → Complaint → Type 0) (ended : Ended) (filed : Result Status Complaint) → IsStatusOf IsComplaint ended filed → IsNoUsage filed
no_usage_of_status IsComplaint Done filed is = subst IsNoUsage (sym is) tt
no_usage_of_status IsComplaint OutputFailed filed is = subst IsNoUsage (sym is) tt
no_usage_of_status IsComplaint (Refused fault) filed is = subst IsNoUsage (sym is.1) tt

no_usage_of_look : (end : LookEnd) (filed : Result Status Complaint) → IsLookStatus end filed → IsNoUsage filed
no_usage_of_look look_ends.Done filed is = subst IsNoUsage (sym is) tt
no_usage_of_look look_ends.OutputFailed filed is = subst IsNoUsage (sym is) tt
no_usage_of_look (look_ends.Refused fault) filed is = subst IsNoUsage (sym is) tt

no_usage_of_follow : (end : FollowEnd) (filed : Result Status Complaint) → IsFollowStatus end filed → IsNoUsage filed
no_usage_of_follow follow_ends.Ended filed is = subst IsNoUsage (sym is) tt
no_usage_of_follow follow_ends.OutputFailed filed is = subst IsNoUsage (sym is) tt
no_usage_of_follow (follow_ends.Lost loss) filed is = subst IsNoUsage (sym is) tt
no_usage_of_follow (follow_ends.Refused fault) filed is = subst IsNoUsage (sym is) tt
no_usage_of_follow follow_ends.Replaced filed (inl is) = subst IsNoUsage (sym is) tt
no_usage_of_follow follow_ends.Replaced filed (inr is) = subst IsNoUsage (sym is) tt

no_usage_of_done : (filed : Result Status Complaint) (IsComplaint : Disk → FileFault → Complaint → Type 0) (HasEnded : Disk → Disk → Ended → Type 0) → IsEngineDone filed IsComplaint HasEnded → IsNoUsage filed
no_usage_of_done filed IsComplaint HasEnded done = no_usage_of_status (IsComplaint done.left) done.ended filed done.told

no_usage_alone : (old new : Option (List ℕ)) (filed : Result Status Complaint) (IsWhy : Complaint → Type 0) → IsLeftAlone old new filed IsWhy → IsNoUsage filed
no_usage_alone old new filed IsWhy alone = subst IsNoUsage (sym alone.told) tt

module _ {R : Type 0} (form : Encoding R) (old new : Option (List ℕ)) (filed : Result Status Complaint) where
  no_usage_over : (IsReason : FileFault → Type 0) (HasEnded : Disk → Disk → Ended → Type 0) → IsOverFile form old new filed IsReason HasEnded → IsNoUsage filed
  no_usage_over IsReason HasEnded (inl refused) = subst IsNoUsage (sym refused.told) tt
  no_usage_over IsReason HasEnded (inr (inl shut)) = no_usage_alone old new filed _ shut
  no_usage_over IsReason HasEnded (inr (inr done)) = no_usage_of_done filed _ HasEnded done

  no_usage_reading : (IsReason : FileFault → Type 0) (HasEnded : Disk → Disk → Ended → Type 0) (HasLooked : Foreign → Foreign → LookEnd → Type 0)
      → IsReadingRun form old new filed IsReason HasEnded HasLooked → IsNoUsage filed
  no_usage_reading IsReason HasEnded HasLooked (inl over) = no_usage_over IsReason HasEnded over
  no_usage_reading IsReason HasEnded HasLooked (inr done) = no_usage_of_look done.end filed done.told

  no_usage_following : (spelling : Spelling R) (what : Following) (looks : Looks) → IsFollowRun form old new filed spelling what looks → IsNoUsage filed
  no_usage_following spelling (Records from) looks (inl refused) = subst IsNoUsage (sym refused.told) tt
  no_usage_following spelling (Records from) looks (inr (inl shut)) = no_usage_alone old new filed _ shut
  no_usage_following spelling (Records from) looks (inr (inr done)) = no_usage_of_follow done.end filed done.told
  no_usage_following spelling (Events after) looks (inl none) = no_usage_alone old new filed _ none
  no_usage_following spelling (Events after) looks (inr (inl shut)) = no_usage_alone old new filed _ shut
  no_usage_following spelling (Events after) looks (inr (inr done)) = no_usage_of_follow done.end filed done.told

  no_usage_served : (left : Disk) (growths : ℕ) (served : Result (Unit {0}) ServeFault) → IsServedAs form old new filed left growths served → IsNoUsage filed
  no_usage_served left growths (Ok all) (inl failed) = subst IsNoUsage (sym failed) tt
  no_usage_served left growths (Ok all) (inr written) = subst IsNoUsage (sym written.0) tt
  no_usage_served left growths (Err fault) told = subst IsNoUsage (sym told.1) tt

  no_usage_of_new : (line : ℕ → List ℕ) (format : Option Format) (block : Option NonZeroU32) (own : Format) (records : List R) → IsNewRun form old new filed line format block own records → IsNoUsage filed
  no_usage_of_new line format block own records (inl unmade) = no_usage_alone old new filed _ unmade
  no_usage_of_new line format block own records (inr (size, made, inl failed)) = subst IsNoUsage (sym failed) tt
  no_usage_of_new line format block own records (inr (size, made, inr (done, written))) = subst IsNoUsage (sym done) tt

  no_usage_of_task : (spelling : Spelling R) (task : FileTask) (input : Option (List ℕ)) → IsCommandRun form spelling task input old new filed → IsNoUsage filed
  no_usage_of_task spelling (Create format over) input run = no_usage_over _ _ run
  no_usage_of_task spelling (Load growers) input (inl refused) = subst IsNoUsage (sym refused.told) tt
  no_usage_of_task spelling (Load growers) input (inr (inl shut)) = no_usage_alone old new filed _ shut
  no_usage_of_task spelling (Load growers) input (inr (inr done)) = no_usage_of_done filed _ _ done.1
  no_usage_of_task spelling (Append block every) input (inl shut) = no_usage_alone old new filed _ shut
  no_usage_of_task spelling (Append block every) input (inr done) = no_usage_of_done filed _ _ done.1
  no_usage_of_task spelling Check input run = no_usage_reading _ _ _ run
  no_usage_of_task spelling (Listed from count) input run = no_usage_reading _ _ _ run
  no_usage_of_task spelling (Follow what poll once) input run = no_usage_following spelling what (looks_asked poll once) run
  no_usage_of_task spelling (Count wanted) input run = no_usage_reading _ _ _ run
  no_usage_of_task spelling (Find wanted) input run = no_usage_reading _ _ _ run
  no_usage_of_task spelling (Set start records) input run = no_usage_over _ _ run
  no_usage_of_task spelling (Resize len filler in_parts) input run = no_usage_over _ _ run
  no_usage_of_task spelling Clear input run = no_usage_over _ _ run
  no_usage_of_task spelling Fold input run = no_usage_over _ _ run
  no_usage_of_task spelling (Upgrade name) input (inl unread) = no_usage_alone old new filed _ unread
  no_usage_of_task spelling (Upgrade name) input (inr (own, records, read, inl (is, younger))) = no_usage_alone old new filed _ younger
  no_usage_of_task spelling (Upgrade name) input (inr (own, records, read, inr (is, run))) = no_usage_of_new _ _ _ _ _ run
  no_usage_of_task spelling (Copy name format block) input (inl unread) = no_usage_alone old new filed _ unread
  no_usage_of_task spelling (Copy name format block) input (inr (own, records, read, run)) = no_usage_of_new _ _ _ _ _ run
  no_usage_of_task spelling (Serve clients) input (inl unserved) = no_usage_alone old new filed _ unserved
  no_usage_of_task spelling (Serve clients) input (inr (inl shut)) = no_usage_alone old new filed _ shut
  no_usage_of_task spelling (Serve clients) input (inr (inr served)) = no_usage_served served.left served.growths served.served served.told

no_usage_of_file : (record_type : RecordType) (task : FileTask) (input old new : Option (List ℕ)) (filed : Result Status Complaint) → IsTypedCommandRun record_type task input old new filed → IsNoUsage filed
no_usage_of_file U8 task input old new filed run = no_usage_of_task _ old new filed _ task input run
no_usage_of_file U16 task input old new filed run = no_usage_of_task _ old new filed _ task input run
no_usage_of_file U32 task input old new filed run = no_usage_of_task _ old new filed _ task input run
no_usage_of_file U64 task input old new filed run = no_usage_of_task _ old new filed _ task input run
no_usage_of_file I32 task input old new filed run = no_usage_of_task _ old new filed _ task input run
no_usage_of_file I64 task input old new filed run = no_usage_of_task _ old new filed _ task input run
no_usage_of_file F32 task input old new filed run = no_usage_of_task _ old new filed _ task input run
no_usage_of_file F64 task input old new filed run = no_usage_of_task _ old new filed _ task input run
no_usage_of_file Pair task input old new filed run = no_usage_of_task _ old new filed _ task input run
no_usage_of_file Flagged task input old new filed run = no_usage_of_task _ old new filed _ task input run
no_usage_of_file Bytes16 task input old new filed run = no_usage_of_task _ old new filed _ task input run
no_usage_of_file Bytes24 task input old new filed run = no_usage_of_task _ old new filed _ task input run
no_usage_of_file Bytes32 task input old new filed run = no_usage_of_task _ old new filed _ task input run
no_usage_of_file Bytes64 task input old new filed run = no_usage_of_task _ old new filed _ task input run

refused_no_usage : (aside : Bool) (mid new before behind : Option (List ℕ)) (why : Complaint) → IsRefusedTo aside mid new before behind why statuses.Usage → ⊥
refused_no_usage false mid new before behind why refused = refused.0
refused_no_usage true mid new before behind why refused = refused.0

told_no_usage : (aside : Bool) (filed : Result Status Complaint) (mid new before behind : Option (List ℕ)) (status : Status) (complaint : Option Complaint) → IsNoUsage filed
    → IsToldRun aside filed mid new before behind status complaint → status ≡ statuses.Usage → ⊥
told_no_usage aside (Ok ended) mid new before behind status complaint none told is = subst (λ (s : Status). IsNoUsage (Ok s)) (sym told.2 ∙ is) none
told_no_usage aside (Err why) mid new before behind status complaint none told is =
    refused_no_usage aside mid new before behind why (subst (IsRefusedTo aside mid new before behind why) is told.1)

pub file_tells_no_usage : (record_type : RecordType) (task : FileTask) (aside : Bool) (input old mid new before behind : Option (List ℕ)) (filed : Result Status Complaint) (status : Status) (complaint : Option Complaint)
    → IsTypedCommandRun record_type task input old mid filed → IsToldRun aside filed mid new before behind status complaint → status ≡ statuses.Usage → ⊥
file_tells_no_usage record_type task aside input old mid new before behind filed status complaint run told =
    told_no_usage aside filed mid new before behind status complaint (no_usage_of_file record_type task input old mid filed run) told
