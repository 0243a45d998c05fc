-- A fold in hand, by a pen's fields.
use Rattle.std.specs.Prelude.{◌≡◌, ℕ, ◌+◌, ◌-◌, ◌<◌, ◌≤◌, ◌^◌, List, [], ◌∷◌, ◌++◌, length, map, take, drop, Option, Some, None, Bool, true, false, IfSome, nat_lt, if◌then◌else◌}
use Rattle.std.specs.List.{AllByRecursion}
use Rattle.std.specs.Option.{is_some}
use Rattle.disk_core.specs.State.{State, now}
use Rattle.disk_core.specs.declared.fault.DiskFault.{DiskFault}
use Rattle.disk_core.specs.declared.fault.DiskFault.TheVariants as disk_faults
use Rattle.segment_core.specs.declared.format.Shape.{Shape}
use Rattle.segment_core.specs.declared.tally.Tally.{Tally}
use Rattle.segment_core.specs.Frame.{Frame, frame_text}
use Rattle.segment_core.specs.Frame as frames
use Rattle.pen_core.specs.declared.fold.Fold.{Fold}
use Rattle.pen_core.specs.declared.fold.Write.{Write}
use Rattle.pen_core.specs.declared.step.PenStep.{PenStep}
use Rattle.pen_core.specs.declared.stage.FoldStage.{FoldStage}
use Rattle.pen_core.specs.declared.stage.FoldStage.TheVariants.{Home, Sync, Ready, Filed}
use Rattle.pen_core.specs.declared.stage.FoldStage.TheVariants as stages
use Rattle.pen_core.specs.Call.{Call, Makes, Fails, cause_of}
use Rattle.pen_core.specs.Call as calls
use Rattle.pen_core.specs.PenOf.{FoldOf, HomeWrite}
use Rattle.pen_core.specs.PenLog.{PenLog, frames_read, vector_read}
use Rattle.pen_core.specs.Vectors.{frame_at}
use Rattle.pen_core.specs.Folds.{IsFolding}

-- ---- what a fold is seen as

abbrev pub write_of : List ℕ → Write → HomeWrite
write_of bytes write = record { place = write.place; bytes = take (write.to - write.from) (drop write.from bytes) }

abbrev pub left_of : Fold → List HomeWrite
left_of fold = map (write_of fold.bytes.items) (drop fold.done fold.writes.items)

abbrev pub in_stage : FoldStage → FoldOf → Option FoldOf
in_stage stages.None fold = None
in_stage (Home n) fold = Some fold
in_stage Sync fold = Some fold
in_stage Ready fold = Some fold
in_stage Filed fold = Some fold

abbrev pub fold_of : Fold → Option FoldOf
fold_of fold = in_stage fold.stage (record { count = fold.count; left = left_of fold; stage = fold.stage })

-- ---- its device calls

abbrev pub first_write : List HomeWrite → HomeWrite
first_write [] = record { place = 0; bytes = [] }
first_write (write ∷ writes) = write

-- the call that is due at this stage: the first write that is left, or the sync behind the last one
abbrev pub due_at : FoldStage → List HomeWrite → Option Call
due_at (Home n) left = Some (calls.Write (first_write left).place (first_write left).bytes)
due_at Sync left = Some calls.Sync
due_at stages.None left = None
due_at Ready left = None
due_at Filed left = None

abbrev pub due : Option FoldOf → Option Call
due None = None
due (Some fold) = due_at fold.stage fold.left

-- what it makes of the disk, and what it makes of it where it fails
abbrev pub HomeCalls : FoldStage → List HomeWrite → List State → List State → Type 0
HomeCalls stage left old new = IfSome (due_at stage left) (λ call. Makes call old new)

abbrev pub FailsHomeCall : FoldStage → List HomeWrite → List State → List State → Type 0
FailsHomeCall stage left old new = IfSome (due_at stage left) (λ call. Fails call old new)

-- the fault that it then answers
abbrev pub cause_due : Option Call → DiskFault
cause_due None = disk_faults.Sync
cause_due (Some call) = cause_of call

abbrev pub home_fault : FoldStage → DiskFault
home_fault stage = cause_due (due_at stage [])

abbrev pub has_call : FoldStage → Bool
has_call stage = is_some (due_at stage [])

abbrev pub is_without_fold : FoldStage → Bool
is_without_fold stages.None = true
is_without_fold (Home n) = false
is_without_fold Sync = false
is_without_fold Ready = false
is_without_fold Filed = false

-- what comes next once it succeeded, how many writes are done, and which are left
abbrev pub stage_after : FoldStage → FoldStage
stage_after (Home n) = if nat_lt 1 n then Home (n - 1) else Sync
stage_after Sync = Ready
stage_after stages.None = stages.None
stage_after Ready = Ready
stage_after Filed = Filed

abbrev pub done_after : FoldStage → ℕ → ℕ
done_after (Home n) done = done + 1
done_after Sync done = done
done_after stages.None done = done
done_after Ready done = done
done_after Filed done = done

abbrev pub left_after : FoldStage → List HomeWrite → List HomeWrite
left_after (Home n) left = drop 1 left
left_after Sync left = left
left_after stages.None left = left
left_after Ready left = left
left_after Filed left = left

abbrev pub called : FoldOf → FoldOf
called fold = record { count = fold.count; left = left_after fold.stage fold.left; stage = stage_after fold.stage }

abbrev pub advanced : Fold → Fold
advanced fold =
    record {
      stage = stage_after fold.stage;
      count = fold.count;
      runs = fold.runs;
      writes = fold.writes;
      done = done_after fold.stage fold.done;
      bytes = fold.bytes;
      frame = fold.frame;
    }

-- so many home writes are left
abbrev pub writes_left : FoldStage → ℕ
writes_left (Home n) = n
writes_left Sync = 0
writes_left stages.None = 0
writes_left Ready = 0
writes_left Filed = 0

-- ---- what it counts itself

-- a write of bytes that there are, below the gate
pub record IsPlanned (gate len : ℕ) (write : Write) : Type 0 where
  pub some : write.from < write.to
  pub inside : write.to ≤ len
  pub below_gate : write.place + (write.to - write.from) ≤ gate

abbrev pub ArePlanned : ℕ → Fold → Type 0
ArePlanned gate fold = AllByRecursion (IsPlanned gate (length fold.bytes.items)) fold.writes.items

-- what the next call asks for
abbrev pub CanCall : ℕ → Fold → FoldStage → Type 0
CanCall gate fold (Home n) = (fold.done < length fold.writes.items) × ArePlanned gate fold
CanCall gate fold Sync = Unit {0}
CanCall gate fold stages.None = ⊥
CanCall gate fold Ready = ⊥
CanCall gate fold Filed = ⊥

-- where the gate behind the job in hand will stand
abbrev pub gate_then : ℕ → List ℕ → Option PenStep → ℕ
gate_then gate bytes None = gate
gate_then gate bytes (Some step) = gate + (length bytes - 1)

-- a fold whose frame is still to come
pub record IsUnfiled (shape : Shape) (gate : ℕ) (tally : Tally) (bytes : List ℕ) (step : Option PenStep) (fold : Fold) : Type 0 where
  pub live : tally.folded < fold.count
  pub upto : fold.count ≤ tally.changes
  pub planned : ArePlanned gate fold
  pub spelled : fold.frame.items ≡ frame_text shape.format (frames.Fold fold.count) ++ 0 ∷ []
  pub room : gate_then gate bytes step + 14 < 2 ^ 48

-- the frame of the job in hand
abbrev pub frame_in_hand : Shape → List ℕ → Option PenStep → Option Frame
frame_in_hand shape bytes None = None
frame_in_hand shape bytes (Some step) = Some (frame_at shape bytes)

-- a fold is in hand
abbrev pub IsInHand : FoldStage → Type 0
IsInHand stages.None = ⊥
IsInHand (Home n) = Unit {0}
IsInHand Sync = Unit {0}
IsInHand Ready = Unit {0}
IsInHand Filed = Unit {0}

abbrev pub IsAtStage : Shape → ℕ → Tally → List ℕ → Option PenStep → Fold → FoldStage → Type 0
IsAtStage shape gate tally bytes step fold stages.None = Unit {0}
IsAtStage shape gate tally bytes step fold (Home n) = IsUnfiled shape gate tally bytes step fold × (fold.done + n ≡ length fold.writes.items) × (0 < n)
IsAtStage shape gate tally bytes step fold Sync = IsUnfiled shape gate tally bytes step fold × (fold.done ≡ length fold.writes.items)
IsAtStage shape gate tally bytes step fold Ready = IsUnfiled shape gate tally bytes step fold × (fold.done ≡ length fold.writes.items)
IsAtStage shape gate tally bytes step fold Filed =
    (frame_in_hand shape bytes step ≡ Some (frames.Fold fold.count)) × (fold.done ≡ length fold.writes.items)

-- ---- and of its disk

abbrev pub HomesAt : Shape → List Frame → List (List ℕ) → Fold → State → FoldStage → Type 0
HomesAt shape fs vector fold s stages.None = Unit {0}
HomesAt shape fs vector fold s (Home n) = IsFolding shape fold.count fs vector (left_of fold) s
HomesAt shape fs vector fold s Sync = IsFolding shape fold.count fs vector (left_of fold) s
HomesAt shape fs vector fold s Ready = IsFolding shape fold.count fs vector (left_of fold) s
HomesAt shape fs vector fold s Filed = Unit {0}

pub record HasFold (keeps : Type 0) (states : List State) (log : PenLog) (fold : Fold) : Type 0 where
  pub counts : IsAtStage log.shape log.gate log.tally log.bytes log.step fold fold.stage
  -- until a call fails
  pub homes : keeps → log.broken ≡ false
      → HomesAt log.shape (frames_read states log) (vector_read states log) fold (now states) fold.stage

-- ---- the end of a fold, where its frame was the job

abbrev pub stage_ended : FoldStage → FoldStage
stage_ended stages.None = stages.None
stage_ended (Home n) = Home n
stage_ended Sync = Sync
stage_ended Ready = Ready
stage_ended Filed = stages.None

-- the live runs that are left
abbrev pub live_after : FoldStage → ℕ → List (ℕ × ℕ) → List (ℕ × ℕ)
live_after stages.None runs live = live
live_after (Home n) runs live = live
live_after Sync runs live = live
live_after Ready runs live = live
live_after Filed runs live = drop runs live
