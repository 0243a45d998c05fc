-- Growths that a pen commits group by group.
use Rattle.std.specs.Prelude.{◌≡◌, ◌⊎◌, ℕ, zero, suc, ◌+◌, ◌-◌, ◌<◌, ◌≤◌, List, [], ◌++◌, length, take, drop, None, false}
use Rattle.record_core.specs.Bytes.{Encoding}
use Rattle.record_core.specs.Limits.{record_limit}
use Rattle.disk_core.specs.State.{State}
use Rattle.disk_core.specs.Calls.{bytes_of}
use Rattle.segment_core.specs.Raw.{AreCellsOf}
use Rattle.segment_core.specs.Written.{joined, payload_len}
use Rattle.pen_core.specs.declared.fault.PenFault.{PenFault}
use Rattle.pen_core.specs.declared.fault.PenFault.TheVariants.{Disk, FileFull, Memory, OutOfRange, TooLarge}
use Rattle.pen_core.specs.PenOf.{PenOf}
use Rattle.pen_core.specs.Pen.{vector_after, failed_calls}
use Rattle.pen_core.specs.Typed.{OpensTo}
use Rattle.files_core.specs.Opened.{LeavesBeforeOr}

-- ---- which growths a group has

-- so many growths of a row, from one on
abbrev pub row_part : {R : Type 0} → List (List R) → ℕ → ℕ → List (List R)
row_part row from n = take n (drop from row)

-- one payload of so many bytes takes them, and a vector with room for so many records
pub record FitsGroup {R : Type 0} (width limit room : ℕ) (growths : List (List R)) : Type 0 where
  pub bytes : payload_len width growths ≤ limit
  pub records : length (joined growths) ≤ room

-- Those of a row from one on, and before the other, are as many as it takes.
pub record IsGroupEnd {R : Type 0} (width limit room : ℕ) (row : List (List R)) (from to : ℕ) : Type 0 where
  pub order : from ≤ to
  pub inside : to ≤ length row
  pub fits : FitsGroup width limit room (row_part row from (to - from))
  pub most : to < length row → FitsGroup width limit room (row_part row from (to + 1 - from)) → ⊥

-- ---- the pen between two groups

-- the image opens to these records and those of the first of some growths
pub record OpensToFront {R : Type 0} (form : Encoding R) (before : List R) (growths : List (List R)) (image : List ℕ) : Type 0 where
  pub count : ℕ
  pub known : count ≤ length growths
  pub opens : OpensTo form image (before ++ joined (take count growths))

-- a group of records of this width may be begun
pub record IsReadyPen {D : Type 0} (width : ℕ) (pen : PenOf D) : Type 0 where
  pub width_is : width ≡ pen.shape.width
  pub no_job : pen.job ≡ None
  pub whole : pen.broken ≡ false

-- The pen goes on with the file of a disk, behind whose list growths stand; those of the job in hand come next. Each image
-- meanwhile opens to the list and the first of them all, each whole.
pub record IsPenOver {R D : Type 0} (form : Encoding R) (states : D → List State) (disk : D) (pen : PenOf D) (made more : List (List R)) : Type 0 where
  pub was : List R
  pub file : OpensTo form (bytes_of (states disk)) was
  pub cells : AreCellsOf form pen.vector (was ++ joined made)
  pub next : AreCellsOf form (vector_after pen) (was ++ joined (made ++ more))
  pub images : LeavesBeforeOr (states disk) (states pen.disk) (OpensToFront form was (made ++ more))

-- why a group isn't committed that a vector has room for
abbrev pub IsCommitFault : PenFault → Type 0
IsCommitFault TooLarge = Unit {0}
IsCommitFault FileFull = Unit {0}
IsCommitFault Memory = Unit {0}
IsCommitFault (Disk cause) = Unit {0}
IsCommitFault fault = ⊥

-- what was begun of a group where so many calls of its commit failed
abbrev pub begun_by : {R : Type 0} → ℕ → List (List R) → List (List R)
begun_by zero group = []
begun_by (suc n) group = group

module _ {R D : Type 0} (form : Encoding R) (keeps : D → Type 0) (states : D → List State) where
  -- all growths of a row were committed behind those that stood
  abbrev pub IsRowSettled : List (List R) → PenOf D → PenOf D → Type 0
  IsRowSettled row old new =
      (disk : D) (made : List (List R)) → (keeps old.disk → IsPenOver form states disk old made []) → keeps new.disk → IsPenOver form states disk new (made ++ row) []

  -- So many were, the first, and a group of the next ones wasn't, by that fault. Where no call of the disk failed, nothing of it
  -- was begun; for want of room in the vector its first growth alone is too long.
  pub record IsRowStop (row : List (List R)) (settled : ℕ) (old new : PenOf D) (fault : PenFault) : Type 0 where
    pub group : ℕ
    pub less : settled < length row
    pub why : (fault ≡ OutOfRange) ⊎ IsCommitFault fault
    pub over : (disk : D) (made : List (List R)) → (keeps old.disk → IsPenOver form states disk old made []) → keeps new.disk
        → IsPenOver form states disk new (made ++ take settled row) (begun_by (failed_calls fault) (row_part row settled group))
    pub past : fault ≡ OutOfRange → record_limit < new.tally.size + length (joined (row_part row settled 1))
