-- A file that is opened.
use Rattle.std.specs.Prelude.{◌≡◌, ◌⊎◌, ℕ, ◌+◌, ◌-◌, ◌*◌, ◌/◌, ◌≤◌, ◌<◌, ◌^◌, ◌++◌, List, length, take, None, false, Result, MatchResult}
use Rattle.record_core.specs.Bytes.{Encoding, IsBytes}
use Rattle.disk_core.specs.State.{State, now, settled, IsImage}
use Rattle.disk_core.specs.Calls.{bytes_of}
use Rattle.disk_core.specs.Moments.{clock, LeftSince, LeavesOnly}
use Rattle.disk_core.specs.declared.fault.DiskFault.TheVariants as causes
use Rattle.segment_core.specs.declared.format.Format.{Format}
use Rattle.segment_core.specs.Shape.{shape_of}
use Rattle.segment_core.specs.Frame.{Frame}
use Rattle.segment_core.specs.Tally.{tally_of}
use Rattle.segment_core.specs.Vector.{HasVector}
use Rattle.segment_core.specs.Fault.{IsRefused}
use Rattle.segment_core.specs.Raw.{AreCellsOf}
use Rattle.segment_core.specs.Found.{AreHomesOf}
use Rattle.segment_core.specs.Scanned.{IsScanOf}
use Rattle.segment_core.specs.Scanner.{IsFed, IsDecided, IsCutShort}
use Rattle.segment_core.specs.declared.fault.ScanFault.TheVariants.{Memory}
use Rattle.segment_core.specs.declared.found.Homes.{Homes}
use Rattle.segment_core.specs.declared.scanner.Scanner.{Scanner}
use Rattle.segment_core.specs.declared.vector.Scanned.{Scanned}
use Rattle.segment_core.specs.Blanked.{all_blanked}
use Rattle.pen_core.specs.declared.fault.OpenFault.{OpenFault}
use Rattle.pen_core.specs.declared.fault.OpenFault.TheVariants.{Scan, Disk}
use Rattle.pen_core.specs.Held.{gate_of}
use Rattle.pen_core.specs.PenOf.{PenOf}

-- ---- the pen

-- what a pen that was opened counts, whatever the disk: nothing is in hand
pub record IsAtRest {D : Type 0} (width size : ℕ) (pen : PenOf D) : Type 0 where
  pub width_is : pen.shape.width ≡ width
  pub size_is : pen.tally.size ≡ size
  pub no_job : pen.job ≡ None
  pub no_fold : pen.fold ≡ None
  pub whole : pen.broken ≡ false

-- The pen goes on with the file that these bytes are, and the records are its vector.
pub record IsOpened {R D : Type 0} (form : Encoding R) (bytes : List ℕ) (pen : PenOf D) (records : List R) : Type 0 where
  pub format : Format
  pub found : List Frame
  pub vector : HasVector format form bytes found records
  pub shape_is : pen.shape ≡ shape_of format form
  pub frames_are : pen.frames ≡ all_blanked found
  pub cells_are : AreCellsOf form pen.vector records
  pub tally_is : pen.tally ≡ tally_of found
  pub gate_is : pen.gate ≡ gate_of (shape_of format form) found

-- ---- the disk

-- Nothing is written. The disk is as it was, or, once the first sync has succeeded, its bytes as they read are on it:
-- a crash leaves what it might have left before, and from that sync on those bytes. The next call, of the length,
-- tells that it succeeded.
pub record OnlySyncs (old new : List State) : Type 0 where
  pub stands : (now new ≡ now old) ⊎ (now new ≡ settled (bytes_of old))
  pub left_before : LeavesOnly old new (IsImage (now old))
  pub stays_as_read : clock old + 1 < clock new → (image : List ℕ) → LeftSince new (clock old + 1) image → image ≡ bytes_of old

-- ---- what was read

-- The scanner has taken in an image of so many bytes: where the disk keeps the model, the first of these.
pub record HasTaken {R : Type 0} (form : Encoding R) (keeps : Type 0) (bytes : List ℕ) (len : ℕ) (scanner : Scanner R) : Type 0 where
  pub image : List ℕ
  pub size : length image ≡ len
  pub short : len < 2 ^ 64
  pub fits : IsBytes image
  pub fed : IsFed form image scanner
  pub is : keeps → image ≡ take len bytes

-- The scanner has taken in what was read of so many bytes: all, or as many as tell the answer, whatever follows them.
-- Where the disk keeps the model, they are the first of these.
pub record HasScanned {R : Type 0} (form : Encoding R) (keeps : Type 0) (bytes : List ℕ) (len : ℕ) (scanner : Scanner R) : Type 0 where
  pub image : List ℕ
  pub inside : length image ≤ len
  pub short : len < 2 ^ 64
  pub fits : IsBytes image
  pub fed : IsFed form image scanner
  pub fed_all : (more : List ℕ) → length image + length more ≡ len → IsFed form (image ++ more) scanner
  pub is : keeps → image ≡ take (length image) bytes

-- The scanner has taken in what stands on a disk. Where that keeps the model, these are the bytes, and all of them are
-- on the disk.
pub record HasReadDisk {R : Type 0} (form : Encoding R) (keeps : Type 0) (bytes : List ℕ) (states : List State) (scanner : Scanner R) : Type 0 where
  pub len : ℕ
  pub read : HasScanned form keeps bytes len scanner
  pub long : keeps → len ≡ length bytes
  pub on_disk : keeps → now states ≡ settled bytes

-- A scan of an image has found this: where the disk keeps the model, of the first of the bytes that are all on it.
pub record IsFoundOn {R : Type 0} (form : Encoding R) (keeps : Type 0) (states : List State) (scanned : Scanned R) (homes : Homes) : Type 0 where
  pub image : List ℕ
  pub short : length image < 2 ^ 64
  pub fits : IsBytes image
  pub scan : IsScanOf form image scanned
  pub homes_are : AreHomesOf (shape_of scan.format form) scan.frames homes
  pub on_disk : keeps → (more : List ℕ) × (now states ≡ settled (image ++ more))

-- ---- refusals

-- why there is no pen: what a scan of the bytes answers, or a call of the disk that failed
abbrev pub IsOpenRefusal : {R : Type 0} → Encoding R → List ℕ → OpenFault → Type 0
IsOpenRefusal form bytes (Scan fault) = IsRefused form bytes fault
IsOpenRefusal form bytes (Disk cause) = Unit {0}

-- how many calls of the disk have failed where this is answered
abbrev pub failed_openings : OpenFault → ℕ
failed_openings (Scan fault) = 0
failed_openings (Disk cause) = 1

-- ---- the calls

-- how many reads take in so many bytes, each at most as many as a piece has
abbrev pub reads_of : ℕ → ℕ → ℕ
reads_of piece len = (len + (piece - 1)) / piece

-- the calls of the disk that a scan makes at most: a sync, the length, and the reads
abbrev pub calls_by : ℕ → ℕ → ℕ
calls_by piece len = 2 + reads_of piece len

-- so many it makes where the length is answered, and each read succeeds: the reads end where the bytes do, or sooner,
-- where what follows can't change the answer
abbrev pub AreCallsDoneBy : ℕ → ℕ → ℕ → Type 0
AreCallsDoneBy piece len n = (2 ≤ n) × (n ≤ calls_by piece len) × (len < 2 ^ 64)

-- where it answers this at a read, or behind it
abbrev pub IsReadFault : OpenFault → Type 0
IsReadFault (Scan fault) = Unit {0}
IsReadFault (Disk causes.Read) = Unit {0}
IsReadFault (Disk causes.Sync) = ⊥
IsReadFault (Disk causes.Length) = ⊥
IsReadFault (Disk causes.Write) = ⊥

-- and how many it has made, the one that failed among them, where it answers this. The length was answered before a
-- read.
abbrev pub AreCallsMadeBy : ℕ → ℕ → OpenFault → ℕ → Type 0
AreCallsMadeBy piece len (Scan fault) n = AreCallsDoneBy piece len n
AreCallsMadeBy piece len (Disk causes.Sync) n = n ≡ 1
AreCallsMadeBy piece len (Disk causes.Length) n = n ≡ 2
AreCallsMadeBy piece len (Disk causes.Read) n = (2 < n) × (n ≤ calls_by piece len) × (len < 2 ^ 64)
AreCallsMadeBy piece len (Disk causes.Write) n = ⊥

-- opening a file reads 4,096 bytes at a time
abbrev pub calls_of : ℕ → ℕ
calls_of len = calls_by 4096 len

abbrev pub AreCallsDone : ℕ → ℕ → Type 0
AreCallsDone len n = AreCallsDoneBy 4096 len n

abbrev pub AreCallsMade : ℕ → OpenFault → ℕ → Type 0
AreCallsMade len fault n = AreCallsMadeBy 4096 len fault n

-- ---- what is read

-- the bytes of the first n pieces
abbrev pub pieces_front : ℕ → ℕ → List ℕ → List ℕ
pieces_front piece n bytes = take (piece * n) bytes

-- So many pieces are read: all, or as many as tell the answer, whatever follows; and none before them told it.
pub record AreNeeded {R : Type 0} (piece : ℕ) (form : Encoding R) (bytes : List ℕ) (n : ℕ) : Type 0 where
  pub enough : (n ≡ reads_of piece (length bytes)) ⊎ IsDecided form (pieces_front piece n bytes)
  pub needed : (k : ℕ) → k < n → IsCutShort form (pieces_front piece k bytes)

-- how many reads were made where this is answered, the one that failed among them
abbrev pub AreReadsMade : {R : Type 0} → ℕ → Encoding R → List ℕ → OpenFault → ℕ → Type 0
AreReadsMade piece form bytes (Scan fault) n = (fault ≡ Memory) ⊎ AreNeeded piece form bytes n
AreReadsMade piece form bytes (Disk cause) n = (k : ℕ) → k + 1 < n → IsCutShort form (pieces_front piece k bytes)

-- the calls of a scan by pieces of so many bytes, of a file of some length: those of the disk's file, where it keeps the model
pub record ReadsByPieces {R X : Type 0} (form : Encoding R) (piece : ℕ) (kept : Type 0) (old new : List State) (result : Result X OpenFault) : Type 0 where
  pub time : (len : ℕ) × (kept → len ≡ length (bytes_of old)) × MatchResult result
      (λ _. AreCallsDoneBy piece len (clock new - clock old))
      (λ fault. AreCallsMadeBy piece len fault (clock new - clock old))
  pub reads : kept → MatchResult result
      (λ _. AreNeeded piece form (bytes_of old) (clock new - clock old - 2))
      (λ fault. AreReadsMade piece form (bytes_of old) fault (clock new - clock old - 2))
