-- A file that is made.
use Rattle.std.specs.Prelude.{◌≡◌, ◌≢◌, ◌⊎◌, ℕ, ◌+◌, ◌-◌, ◌≤◌, ◌<◌, List, [], ◌∷◌, ◌++◌, length, slice_index, slice_get, Some, None, false, nat_le, if◌then◌else◌, IfOk, IfErr, MatchResult}
use Rattle.std.specs.declared.result.Result.{Result}
use Rattle.disk_core.specs.State.{State, now, settled, IsImage}
use Rattle.disk_core.specs.Calls.{bytes_of}
use Rattle.disk_core.specs.Moments.{clock, LeftSince, LeavesOnly}
use Rattle.segment_core.specs.declared.format.Shape.{Shape}
use Rattle.segment_core.specs.declared.fault.ScanFault.TheVariants.{Unborn}
use Rattle.segment_core.specs.Tally.{nothing}
use Rattle.segment_core.specs.Fault.{header_fault}
use Rattle.pen_core.specs.declared.create.FoundFile.{FoundFile}
use Rattle.pen_core.specs.declared.create.FoundFile.TheVariants.{File, Blank, Closed}
use Rattle.disk_core.specs.declared.fault.DiskFault.{DiskFault}
use Rattle.pen_core.specs.declared.fault.PenFault.{PenFault}
use Rattle.disk_core.specs.declared.fault.DiskFault.TheVariants as causes
use Rattle.pen_core.specs.declared.fault.PenFault.TheVariants.{Broken, Busy, OldFormat, Runs, OutOfRange, TooLarge, Unfolded, FileFull, Memory, Exists, Disk}
use Rattle.pen_core.specs.Held.{Opens}
use Rattle.pen_core.specs.Pen.{IsKept, failed_calls}
use Rattle.pen_core.specs.PenOf.{PenOf}

-- ---- creation

-- There is a file already: longer than an empty one, or with an open first byte.
abbrev pub IsExisting : List ℕ → Type 0
IsExisting bytes = (12 < length bytes) ⊎ ((1 < length bytes) × (slice_index bytes 0 ≡ 1))

-- what a look at the bytes finds
abbrev pub AreContents : List ℕ → FoundFile → Type 0
AreContents bytes File = IsExisting bytes
AreContents bytes Blank = length bytes ≤ 1
AreContents bytes Closed = (1 < length bytes) × (length bytes ≤ 12) × (slice_index bytes 0 ≢ 1)

-- On the disk stands a closed first byte, and no more than an empty file has.
abbrev pub IsClear : State → Type 0
IsClear s = (bytes : List ℕ) × (s ≡ settled bytes) × (0 < length bytes) × (length bytes ≤ 12) × (slice_index bytes 0 ≢ 1)

-- The image is no file yet, or the empty one.
abbrev pub IsUnbornOrEmpty : Shape → List ℕ → Type 0
IsUnbornOrEmpty shape image = (header_fault shape.width image ≡ Some Unborn) ⊎ Opens shape [] [] image

-- From the first sync on, where it succeeded and there was no file, each image is no file yet, or the empty one. The
-- next call, of the length, tells that it succeeded.
abbrev pub StaysUnbornOrEmpty : Shape → List State → List State → Type 0
StaysUnbornOrEmpty shape old new =
    (IsExisting (bytes_of old) → ⊥) → clock old + 1 < clock new → (image : List ℕ) → LeftSince new (clock old + 1) image
    → IsUnbornOrEmpty shape image

-- Where there was a file nothing is written: a crash leaves what it might have left before.
pub record WritesNothing (old new : List State) : Type 0 where
  pub bytes_same : bytes_of new ≡ bytes_of old
  pub left_before : LeavesOnly old new (IsImage (now old))

-- what a creation may answer behind its first call
abbrev pub IsCreateFault : PenFault → Type 0
IsCreateFault fault = (fault ≡ Exists) ⊎ ((cause : DiskFault) × (fault ≡ Disk cause))

-- what a new pen counts, whatever the disk
pub record IsNew {D : Type 0} (shape : Shape) (pen : PenOf D) : Type 0 where
  pub shape_is : pen.shape ≡ shape
  pub tally_is : pen.tally ≡ nothing
  pub gate_is : pen.gate ≡ 11
  pub no_job : pen.job ≡ None
  pub no_fold : pen.fold ≡ None
  pub whole : pen.broken ≡ false

-- and its file
pub record IsEmpty {D : Type 0} (pen : PenOf D) : Type 0 where
  pub frames_are : pen.frames ≡ []
  pub vector_is : pen.vector ≡ []

-- ---- the calls of a creation

-- a write and its sync
abbrev pub write_calls : List DiskFault
write_calls = causes.Write ∷ causes.Sync ∷ []

-- behind the first sync: the length; then a closed byte is written where there is at most one, and the first is read
-- where there are no more than an empty file has
abbrev pub first_calls : List ℕ → List DiskFault
first_calls bytes = causes.Length ∷ (if nat_le (length bytes) 1 then write_calls else (if nat_le (length bytes) 12 then causes.Read ∷ [] else []))

-- all of them where there is no file, each by the fault that it may answer
abbrev pub calls_of_creation : List ℕ → List DiskFault
calls_of_creation bytes = (causes.Sync ∷ []) ++ first_calls bytes ++ (write_calls ++ write_calls)

-- so many of these calls were made, and the last is the one that answers this fault
abbrev pub EndsAt : List DiskFault → DiskFault → ℕ → Type 0
EndsAt calls cause n = (0 < n) × (slice_get calls (n - 1) ≡ Some cause)

-- a file is told by the length where it is longer than an empty one, and else by the first byte
abbrev pub IsFoundOut : List ℕ → List DiskFault → ℕ → Type 0
IsFoundOut bytes calls n = ((12 < length bytes) × EndsAt calls causes.Length n) ⊎ ((length bytes ≤ 12) × EndsAt calls causes.Read n)

-- so many were made where this is found of what the disk holds
abbrev pub AreLooks : List ℕ → List DiskFault → FoundFile → ℕ → Type 0
AreLooks bytes calls File n = IsFoundOut bytes calls n
AreLooks bytes calls Blank n = n ≡ 1
AreLooks bytes calls Closed n = n ≡ 2

-- and where creation answers this
abbrev pub AreCallsUntil : List ℕ → List DiskFault → PenFault → ℕ → Type 0
AreCallsUntil bytes calls (Disk cause) n = EndsAt calls cause n
AreCallsUntil bytes calls Exists n = IsFoundOut bytes calls n
AreCallsUntil bytes calls Memory n = n ≡ 0
AreCallsUntil bytes calls Broken n = ⊥
AreCallsUntil bytes calls Busy n = ⊥
AreCallsUntil bytes calls OldFormat n = ⊥
AreCallsUntil bytes calls Runs n = ⊥
AreCallsUntil bytes calls OutOfRange n = ⊥
AreCallsUntil bytes calls TooLarge n = ⊥
AreCallsUntil bytes calls Unfolded n = ⊥
AreCallsUntil bytes calls FileFull n = ⊥

-- ---- what comes of a creation

-- An empty file of that shape, and a pen over it; or the disk back, and why. From the first successful sync on each
-- image is no file yet or the empty one, where there was none; over a file that exists nothing is written.
pub record IsCreation {D : Type 0} (keeps : D → Type 0) (states : D → List State) (failures : D → ℕ) (shape : Shape) (disk : D)
    (result : Result (PenOf D) (D × PenFault)) : Type 0 where
  pub created : IfOk result (λ pen. IsNew shape pen)
  pub file : IfOk result (λ pen. keeps pen.disk → IsEmpty pen)
  pub kept : IfOk result (λ pen. keeps pen.disk → IsKept (states pen.disk) pen)
  pub born : MatchResult result
      (λ pen. keeps pen.disk → StaysUnbornOrEmpty shape (states disk) (states pen.disk))
      (λ r. keeps r.0 → StaysUnbornOrEmpty shape (states disk) (states r.0))
  pub none_existed : IfOk result (λ pen. keeps pen.disk → IsExisting (bytes_of (states disk)) → ⊥)
  pub existed : IfErr result (λ r. keeps r.0 → IsExisting (bytes_of (states disk)) → (r.0 ≡ disk) ⊎ WritesNothing (states disk) (states r.0))
  pub exists : IfErr result (λ r. keeps r.0 → r.1 ≡ Exists → IsExisting (bytes_of (states disk)))
  pub refused : IfErr result (λ r. ((r.1 ≡ Memory) × (r.0 ≡ disk)) ⊎ IsCreateFault r.1)
  pub time : MatchResult result
      (λ pen. clock (states pen.disk) ≤ clock (states disk) + 8)
      (λ r. clock (states r.0) ≤ clock (states disk) + 8)
  pub later : MatchResult result
      (λ pen. clock (states disk) < clock (states pen.disk))
      (λ r. IsCreateFault r.1 → clock (states disk) < clock (states r.0))
  pub calls : MatchResult result
      (λ pen. keeps pen.disk → clock (states pen.disk) ≡ clock (states disk) + length (calls_of_creation (bytes_of (states disk))))
      (λ r. keeps r.0 → AreCallsUntil (bytes_of (states disk)) (calls_of_creation (bytes_of (states disk))) r.1 (clock (states r.0) - clock (states disk)))
  pub faults : MatchResult result
      (λ pen. failures pen.disk ≡ failures disk)
      (λ r. failures r.0 ≡ failures disk + failed_calls r.1)
  pub model : MatchResult result (λ pen. keeps pen.disk → keeps disk) (λ r. keeps r.0 → keeps disk)
