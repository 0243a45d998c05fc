-- What each command over a file has done that its words ask for. The disk is that of the file which was opened, left is what its
-- engine gave back; in between hold the engine's own clauses.
use Rattle.std.specs.Prelude.{◌≡◌, ◌⊎◌, ◌+◌, ◌++◌, ℕ, Bool, true, false, List, [], length, codes, decimal, Option, Some, None, IfErr, Result, Ok, Err}
use Rattle.std.specs.Io.KnownBytes.{Appends, Keeps}
use Rattle.std.specs.declared.fs.File.{File}
use Rattle.std.specs.Option.{option_copied}
use Rattle.std.specs.NonZero.{non_zero_u32_get}
use Rattle.std.specs.declared.num.NonZeroU32.{NonZeroU32}
use Rattle.record_core.specs.Bytes.{Encoding}
use Rattle.disk_core.specs.Fault.{CountsFailures}
use Rattle.disk_core.specs.Calls.{bytes_of}
use Rattle.disk_core.specs.Moments.{clock}
use Rattle.disk_core.specs.FileDisk.{KeepsSoFar, faults_of, states_of}
use Rattle.disk_core.specs.declared.fault.DiskFault.{DiskFault}
use Rattle.segment_core.specs.declared.format.Format.{Format}
use Rattle.segment_core.specs.declared.format.Format.TheVariants.{One, Two}
use Rattle.pen_core.specs.Opening.{IsOpenRefusal, OnlySyncs, failed_openings}
use Rattle.pen_core.specs.declared.fault.OpenFault.{OpenFault}
use Rattle.pen_core.specs.declared.fault.PenFault.{PenFault}
use Rattle.pen_core.specs.declared.fault.PenFault.TheVariants as pens
use Rattle.vault_core.specs.Commands.{resized}
use Rattle.vault_core.specs.Touched.{IsTouched}
use Rattle.vault_core.specs.Upgrading.{IsCopied, IsFileOfFormat, IsPieceOfCopy, format_of_copy}
use Rattle.vault_core.specs.Vault.{VaultOf}
use Rattle.vault_core.specs.declared.fault.VaultFault.{VaultFault}
use Rattle.vault_core.specs.declared.fault.VaultFault.TheVariants as vaults
use Rattle.vault_core.specs.declared.upgrading.UpgradeFault.TheVariants as upgrades
use Rattle.pen_core.specs.Refusals.{one_run}
use Rattle.text_core.specs.Text.{Spelling, ended_line}
use Rattle.text_core.specs.declared.status.Status.{Status}
use Rattle.text_core.specs.declared.status.Status.TheVariants as statuses
use Rattle.load_core.specs.Appending.{HasAppendedAll, IsAppendFault}
use Rattle.files_core.specs.Asked.{IsNumber, IsNumberOr, IsRecord}
use Rattle.files_core.specs.Changing.{HasWorked, IsCleared, IsClearFault, IsResized, IsResizeFault, IsSet, IsSetFault, IsWorkFault, Replaces}
use Rattle.files_core.specs.Checking.{IsChecked}
use Rattle.files_core.specs.Creating.{IsCreated, IsCreateRefusal}
use Rattle.files_core.specs.Ended.{EndsAs, WritesAnswer, WritesText}
use Rattle.files_core.specs.Folding.{IsFolded, IsFoldCommandFault, KeepsList, NoneLive, failed_folding}
use Rattle.files_core.specs.Given.{given_from}
use Rattle.files_core.specs.Lengthened.{IsLengthened, IsLengthenRefusal, StandsWhole}
use Rattle.files_core.specs.Listing.{IsWindowListed}
use Rattle.load_core.specs.Loading.{IsLoaded, IsLoadRefusal}
use Rattle.files_core.specs.Opened.{CommandOnlyReads}
use Rattle.files_core.specs.Searching.{TellsCount, TellsFirst}
use Rattle.files_core.specs.Texts.{appended_line, copied_line, created_line, loaded_line, ok_line, upgraded_line}
use Rattle.files_core.specs.Vacant.{IsVacantFor}
use Rattle.files_core.specs.declared.appended.Appended.{Appended}
use Rattle.files_core.specs.declared.asked.Window.{Window}
use Rattle.files_core.specs.declared.ended.Ended.{Ended}
use Rattle.files_core.specs.declared.fault.FileFault.{FileFault}
use Rattle.files_core.specs.declared.fault.FileFault.TheVariants.{Vault, Upgrade as Unupgraded}
use Rattle.serve_core.specs.Clients.{LeavesClients}
use Rattle.serve_core.specs.Serving.{IsLeft, IsServeRefusal, serve_failures}
use Rattle.serve_core.specs.declared.client.Pipes.{Pipes}
use Rattle.serve_core.specs.declared.fault.ServeFault.{ServeFault}
use Rattle.stat_core.specs.Calls.{AreCalls, failed_at}
use Rattle.stat_core.specs.Ended.{IsTold}
use Rattle.stat_core.specs.Window.{OnlyReads}
use Rattle.stat_core.specs.declared.telling.StatEnded.{StatEnded}
use Rattle.stat_core.specs.declared.writing.Form.{Form}
use Rattle.sentences.specs.declared.beside.BesideFault.TheVariants as besides
use Rattle.sentences.specs.declared.complaint.Complaint.{Complaint}
use Rattle.sentences.specs.declared.complaint.Complaint.TheVariants as complaints
use Rattle.sentences.specs.declared.role.Role.TheVariants as roles
use Rattle.words_core.specs.declared.request.FileTask.{FileTask}
use Rattle.words_core.specs.declared.request.Following.{Following}
use Rattle.words_core.specs.declared.request.Following.TheVariants.{Records, Events}
use Rattle.words_core.specs.declared.request.FileTask.TheVariants.{Create, Load, Append, Check, List as Listed, Follow, Count, Find, Set, Resize, Clear, Fold, Upgrade, Copy, Serve}
use Rattle.filing_core.specs.declared.polling.Looks.{Looks}
use Rattle.filing_core.specs.declared.searching.Sought.{Sought}
use Rattle.filing_core.specs.declared.searching.Sought.TheVariants as soughts
use Rattle.beside_core.specs.declared.fault.LookFault.{LookFault}
use Rattle.follow_core.specs.declared.ended.LookEnd.{LookEnd}
use Rattle.follow_core.specs.declared.place.Place.{Place}
use Rattle.filing_core.specs.Beside.{CheckedBeside, FollowsEvents, FollowsFrom, Foreign, HadOnce, IsFollowDone, IsJustShared, IsLeftShared, IsLookDone, IsNoPlace, IsUnread, IsPlaceOr, looks_asked, ListedBeside, ReadsBeside, SoughtBeside, SummarizesBeside, copy_complaint}
use Rattle.filing_core.specs.Asked.{IsWindow, IsNoWindow, IsNoRecord, AreSetRecords, IsNoSetting, IsNoResizing, AreInputGrowths, IsNoInput}
use Rattle.filing_core.specs.Complaints.{Disk, IsJustOpened, IsLookedAt, IsComplaintOf, IsAppendComplaint, IsServeComplaint, IsStatusOf, IsStatStatus, IsRefusedBefore, IsLeftAlone, IsLeftUnopened, IsUnopened, IsUnserved}

-- of what a pipe holds nothing is known
abbrev pub unknown : File → Option (List ℕ)
unknown file = None

-- of a server that has ended
abbrev pub served_line : ℕ → List ℕ
served_line growths = ended_line ((codes "served " ++ decimal growths) ++ codes " growths")

-- what is told of the records that are the one wanted, by what is sought
abbrev pub TellsSought : {R : Type 0} → Encoding R → Sought → R → Type 0 → List ℕ → List ℕ → Type 0
TellsSought form soughts.Count r known bytes text = TellsCount form r known bytes text
TellsSought form soughts.First r known bytes text = TellsFirst form r known bytes text

-- An engine ended so over a disk that was opened, and the command with it.
pub record IsEngineDone (filed : Result Status Complaint) (IsComplaint : Disk → FileFault → Complaint → Type 0) (HasEnded : Disk → Disk → Ended → Type 0) : Type 0 where
  pub disk : Disk
  pub left : Disk
  pub ended : Ended
  pub opened : IsJustOpened disk
  pub engine : HasEnded disk left ended
  pub told : IsStatusOf (IsComplaint left) ended filed

module _ {R : Type 0} (form : Encoding R) where
  -- a file of this version, or of either, may be made on the disk, where nothing but what a stopped creation leaves stands there, or the words say so
  abbrev pub MayBeMadeOn : Option Format → Bool → Disk → Disk → Type 0
  MayBeMadeOn format true disk asked = asked ≡ disk
  MayBeMadeOn format false disk asked = IsLookedAt disk asked × (KeepsSoFar asked → IsVacantFor format form.width (bytes_of (states_of disk)))

  -- It may not on the disk, of which that was asked: by its bytes something else stands there, or a call failed.
  abbrev pub IsOccupied : Option Format → Disk → Disk → PenFault → Type 0
  IsOccupied format disk asked fault =
      ((fault ≡ pens.Exists) × IsLookedAt disk asked × (KeepsSoFar asked → ¬ (IsVacantFor format form.width (bytes_of (states_of disk)))))
      ⊎ ((cause : DiskFault) × (fault ≡ pens.Disk cause) × (faults_of asked ≡ faults_of disk + 1))

  -- `create` may not make it there
  abbrev pub IsTakenBy : Format → Disk → Disk → FileFault → Type 0
  IsTakenBy format disk asked fault = (cause : PenFault) × (fault ≡ Vault (vaults.Pen cause)) × IsOccupied (Some format) disk asked cause

  -- `create` may not make it, as its words say
  abbrev pub IsPlaceTaken : Format → Bool → FileFault → Type 0
  IsPlaceTaken format true fault = ⊥
  IsPlaceTaken format false fault = (disk asked : Disk) × IsJustOpened disk × IsTakenBy format disk asked fault

  -- `upgrade` or `copy` may not make its new file there
  abbrev pub IsNewTakenBy : Option Format → Disk → Disk → FileFault → Type 0
  IsNewTakenBy format disk asked fault = (cause : PenFault) × (fault ≡ Unupgraded (upgrades.New (vaults.Pen cause))) × IsOccupied format disk asked cause

  -- nor anywhere else
  abbrev pub IsNewTaken : Option Format → FileFault → Type 0
  IsNewTaken format fault = (disk asked : Disk) × IsJustOpened disk × IsNewTakenBy format disk asked fault

-- ---- FILE and NEW of `copy` and `upgrade`

module _ {R : Type 0} (form : Encoding R) where
  -- FILE has this version and these records: it was read under a lock.
  pub record IsReadLocked (own : Format) (records : List R) : Type 0 where
    pub disk : Disk
    pub left : Disk
    pub opened : IsJustOpened disk
    pub file : KeepsSoFar left → IsFileOfFormat own form (bytes_of (states_of disk)) records
    pub stays : KeepsSoFar left → OnlySyncs (states_of disk) (states_of left)
    pub no_fault : faults_of left ≡ faults_of disk

  -- Or it had them at one moment of the look: it was read beside the command that has it.
  pub record IsReadOnce (own : Format) (records : List R) : Type 0 where
    pub file : Foreign
    pub left : Foreign
    pub opened : IsJustShared file
    pub stays : IsLeftShared file left
    pub had : HadOnce form file left own records

  abbrev pub IsOldRead : Format → List R → Type 0
  IsOldRead own records = IsReadLocked own records ⊎ IsReadOnce own records

  -- It was locked, and its bytes are no such file, or a call of it failed.
  pub record IsUnreadLocked (complaint : Complaint) : Type 0 where
    pub disk : Disk
    pub left : Disk
    pub fault : OpenFault
    pub opened : IsJustOpened disk
    pub why : KeepsSoFar left → IsOpenRefusal form (bytes_of (states_of disk)) fault
    pub stays : KeepsSoFar left → OnlySyncs (states_of disk) (states_of left)
    pub faults_are : faults_of left ≡ faults_of disk + failed_openings fault
    pub told : IsComplaintOf form left (Unupgraded (upgrades.Old fault)) complaint

  -- Or the look at it was refused.
  pub record IsUnreadOnce (complaint : Complaint) : Type 0 where
    pub file : Foreign
    pub left : Foreign
    pub fault : LookFault
    pub opened : IsJustShared file
    pub stays : IsLeftShared file left
    pub why : IsUnread form file left fault
    pub told : complaint ≡ copy_complaint fault

  -- FILE wasn't opened, or not read.
  abbrev pub IsOldUnread : Complaint → Type 0
  IsOldUnread complaint = IsUnopened roles.File complaint ⊎ (IsUnreadLocked complaint ⊎ IsUnreadOnce complaint)

  -- What came of copying the records of a file of that version into NEW, where nothing else stood.
  pub record IsNewFile (format : Option Format) (block : Option NonZeroU32) (own : Format) (records : List R) (result : Result (VaultOf R Disk) (Disk × PenFault)) : Type 0 where
    pub made : Disk
    pub asked : Disk
    pub opened : IsJustOpened made
    pub vacant : MayBeMadeOn form format false made asked
    pub piece : ℕ
    pub piece_is : IsPieceOfCopy block (format_of_copy format own) form.width piece
    pub copied : IsCopied (format_of_copy format own) form KeepsSoFar states_of faults_of piece records asked result

  -- NEW has all of them.
  pub record IsNewMade (format : Option Format) (block : Option NonZeroU32) (own : Format) (records : List R) (size : ℕ) : Type 0 where
    pub vault : VaultOf R Disk
    pub file : IsNewFile format block own records (Ok vault)
    pub size_is : size ≡ length records

  -- NEW wasn't opened or made, or its place is taken, or the records weren't copied.
  abbrev pub IsNewUnmade : Option Format → Option NonZeroU32 → Format → List R → Complaint → Type 0
  IsNewUnmade format block own records complaint = IsUnopened roles.New complaint
      ⊎ (((fault : FileFault) × (complaint ≡ complaints.Fault fault) × IsNewTaken form format fault)
      ⊎ ((left : Disk) × (fault : PenFault) × (complaint ≡ complaints.Fault (Unupgraded (upgrades.New (vaults.Pen fault)))) × IsNewFile format block own records (Err (left, fault))))

module _ {R : Type 0} (form : Encoding R) (old new : Option (List ℕ)) (filed : Result Status Complaint) where
  -- The words or the input were refused, for such a reason; or the file wasn't opened; or the engine ended so over it.
  abbrev pub IsOverFile : (FileFault → Type 0) → (Disk → Disk → Ended → Type 0) → Type 0
  IsOverFile IsReason HasEnded = IsRefusedBefore old new filed IsReason ⊎ (IsLeftUnopened old new filed roles.File ⊎ IsEngineDone filed (IsComplaintOf form) HasEnded)

  -- The same of a command that reads; or, where another command had the file, an engine ended so beside that one.
  abbrev pub IsReadingRun : (FileFault → Type 0) → (Disk → Disk → Ended → Type 0) → (Foreign → Foreign → LookEnd → Type 0) → Type 0
  IsReadingRun IsReason HasEnded HasLooked = IsOverFile IsReason HasEnded ⊎ IsLookDone filed HasLooked

  -- an engine only read the disk, and wrote such an answer, by its bytes where the file keeps the model
  abbrev pub Reads : (Type 0 → List ℕ → List ℕ → Type 0) → Disk → Disk → Ended → Type 0
  Reads IsAnswer disk left ended =
      CommandOnlyReads form KeepsSoFar states_of faults_of disk left ended × WritesAnswer old new (IsAnswer (KeepsSoFar left) (bytes_of (states_of disk))) ended

  -- an engine put one list in the place of another, of one vault and one more, and wrote `ok`
  abbrev pub Works : (List R → List R → Type 0) → (VaultOf R Disk → VaultOf R Disk → Type 0) → (VaultOf R Disk → VaultOf R Disk → VaultFault → Type 0) → Disk → Disk → Ended → Type 0
  Works IsMadeOf IsDoneBy IsFaultOf disk left ended =
      EndsAs (KeepsSoFar left → Replaces form states_of IsMadeOf disk left) (IsWorkFault form KeepsSoFar states_of faults_of IsFaultOf disk left) ended
      × EndsAs (HasWorked form KeepsSoFar states_of faults_of IsDoneBy disk left) (λ _. Unit {0}) ended × WritesText old new ok_line ended

  -- ---- each command

  -- `check`
  abbrev pub IsCheckRun : Type 0
  IsCheckRun = IsReadingRun (λ _. ⊥) (Reads (IsChecked form)) (ReadsBeside form (CheckedBeside form) old new)

  -- `list`: the records of the window that the words name
  abbrev pub IsListRun : Spelling R → Option (List ℕ) → Option (List ℕ) → Type 0
  IsListRun spelling from count =
      IsReadingRun (IsNoWindow from count) (λ disk left ended. (window : Window) × IsWindow from count window × Reads (IsWindowListed form spelling.text_of window) disk left ended)
      (λ file left end. (window : Window) × IsWindow from count window × ReadsBeside form (ListedBeside form spelling.text_of window) old new file left end)

  -- `count` or `find`: how many records are the one that the word is, or the least position of one that is
  abbrev pub IsSearchRun : Spelling R → Sought → List ℕ → Type 0
  IsSearchRun spelling sought word =
      IsReadingRun (IsNoRecord spelling word) (λ disk left ended. (r : R) × IsRecord spelling word r × Reads (TellsSought form sought r) disk left ended)
      (λ file left end. (r : R) × IsRecord spelling word r × ReadsBeside form (SoughtBeside form sought r) old new file left end)

  -- `follow`: the records from the position on that the word is, or the events behind the place that it is, by such looks; it
  -- takes no lock
  abbrev pub IsFollowRun : Spelling R → Following → Looks → Type 0
  IsFollowRun spelling (Records from) looks =
      IsRefusedBefore old new filed (IsNoWindow (option_copied from) None) ⊎ (IsLeftUnopened old new filed roles.File
      ⊎ IsFollowDone filed looks (λ file left end. (first : ℕ) × IsNumberOr (option_copied from) 0 first × FollowsFrom form spelling.text_of first old new file left end))
  IsFollowRun spelling (Events after) looks =
      IsLeftAlone old new filed (λ complaint. (complaint ≡ complaints.Beside besides.NoPlace) × IsNoPlace (option_copied after)) ⊎ (IsLeftUnopened old new filed roles.File
      ⊎ IsFollowDone filed looks (λ file left end. (place : Option Place) × IsPlaceOr (option_copied after) place × FollowsEvents form spelling.text_of place old new file left end))

  -- `set`: the records that the word or the input has, from the position on that is named
  abbrev pub IsSetRun : Spelling R → List ℕ → Option (List ℕ) → Option (List ℕ) → Type 0
  IsSetRun spelling at word input =
      IsOverFile (IsNoSetting spelling at word input) (λ disk left ended. (start : ℕ) × (records : List R) × IsNumber at start × AreSetRecords spelling word input records
      × Works (IsTouched (given_from start records) (one_run start (length records))) (IsSet form KeepsSoFar states_of faults_of start records)
      (IsSetFault form KeepsSoFar states_of faults_of start records) disk left ended)

  -- an engine made the length n in parts, and wrote `ok`
  abbrev pub Lengthens : ℕ → R → Disk → Disk → Ended → Type 0
  Lengthens n r disk left ended =
      EndsAs (KeepsSoFar left → StandsWhole form states_of n r disk left) (IsLengthenRefusal form KeepsSoFar states_of faults_of n r disk left) ended
      × EndsAs (HasWorked form KeepsSoFar states_of faults_of (IsLengthened form KeepsSoFar states_of faults_of n r) disk left) (λ _. Unit {0}) ended × WritesText old new ok_line ended

  -- in parts or by one frame
  abbrev pub MakesLength : Bool → ℕ → R → Disk → Disk → Ended → Type 0
  MakesLength true n r = Lengthens n r
  MakesLength false n r =
      Works (λ was behind. behind ≡ resized n r was) (IsResized form KeepsSoFar states_of faults_of n r) (IsResizeFault form KeepsSoFar states_of faults_of n r)

  -- `resize`: the length and the filler that the words are
  abbrev pub IsResizeRun : Spelling R → Bool → List ℕ → List ℕ → Type 0
  IsResizeRun spelling in_parts len word =
      IsOverFile (IsNoResizing spelling len word) (λ disk left ended. (n : ℕ) × (r : R) × IsNumber len n × IsRecord spelling word r × MakesLength in_parts n r disk left ended)

  -- `clear`
  abbrev pub IsClearRun : Type 0
  IsClearRun =
      IsOverFile (λ _. ⊥) (Works (λ was behind. behind ≡ []) (IsCleared form KeepsSoFar states_of faults_of) (IsClearFault form KeepsSoFar states_of faults_of))

  -- `fold`: none is live then
  abbrev pub IsFoldRun : Type 0
  IsFoldRun = IsOverFile (λ _. ⊥) (λ disk left ended.
      EndsAs (KeepsSoFar left → KeepsList form states_of disk left) (IsFoldCommandFault form KeepsSoFar states_of faults_of disk left) ended
      × EndsAs (NoneLive KeepsSoFar states_of left) (λ _. Unit {0}) ended × (faults_of left ≡ faults_of disk + failed_folding ended)
      × WritesAnswer old new (IsFolded form (KeepsSoFar left) (bytes_of (states_of disk))) ended)

  -- `load`: the growths of the input's lines, by so many growers; the complaint tells what phases have settled
  abbrev pub IsLoadRun : Spelling R → Option (List ℕ) → ℕ → Type 0
  IsLoadRun spelling input growers = IsRefusedBefore old new filed (IsNoInput spelling form.width input)
      ⊎ (IsLeftUnopened old new filed roles.File ⊎ ((appended : Appended) × IsEngineDone filed (IsAppendComplaint form appended) (λ disk left ended.
      (growths : List (List R)) × AreInputGrowths spelling form.width input growths
      × EndsAs (IsLoaded form KeepsSoFar states_of growths growers disk left appended) (IsLoadRefusal form KeepsSoFar states_of faults_of growths growers disk left appended) ended
      × WritesText old new (loaded_line appended.growths appended.size) ended)))

  -- `append`: growths of so many lines of the input each; the complaint tells what was settled. How long what has come waits for
  -- more is its input's to keep, and of time no clause speaks.
  abbrev pub IsAppendRun : Spelling R → Option (List ℕ) → ℕ → Type 0
  IsAppendRun spelling input block =
      IsLeftUnopened old new filed roles.File ⊎ ((appended : Appended) × IsEngineDone filed (IsAppendComplaint form appended) (λ disk left ended.
      EndsAs (HasAppendedAll form KeepsSoFar states_of spelling block input disk left appended)
      (IsAppendFault form KeepsSoFar states_of faults_of spelling block input disk left appended) ended
      × WritesText old new (appended_line appended.growths appended.size) ended))

  -- `create`: an empty file of this version
  abbrev pub IsCreateRun : Format → Bool → Type 0
  IsCreateRun format over = IsOverFile (IsPlaceTaken form format over) (λ disk left ended. (asked : Disk) × MayBeMadeOn form (Some format) over disk asked
      × EndsAs (IsCreated form KeepsSoFar states_of faults_of format asked left) (IsCreateRefusal form KeepsSoFar states_of faults_of format asked left) ended
      × WritesText old new created_line ended)

  -- The records of a file of that version stand in NEW, as this line tells; or they don't.
  abbrev pub IsNewRun : (ℕ → List ℕ) → Option Format → Option NonZeroU32 → Format → List R → Type 0
  IsNewRun line format block own records =
      IsLeftAlone old new filed (IsNewUnmade form format block own records)
      ⊎ ((size : ℕ) × IsNewMade form format block own records size × ((filed ≡ Ok statuses.OutputFailed) ⊎ ((filed ≡ Ok statuses.Done) × Appends old new (line size))))

  -- `copy`: FILE is read first, and what is refused of it comes before all that is of NEW. The new file has this version or that of the
  -- old one, and growths of so many records or of the most.
  abbrev pub IsCopyRun : Option Format → Option NonZeroU32 → Type 0
  IsCopyRun format block = IsLeftAlone old new filed (IsOldUnread form)
      ⊎ ((own : Format) × (records : List R) × IsOldRead form own records × IsNewRun copied_line format block own records)

  -- `upgrade`: the same of a file of version 1 into one of version 2. One of version 2 is refused before NEW is asked for.
  abbrev pub IsUpgradeRun : Type 0
  IsUpgradeRun = IsLeftAlone old new filed (IsOldUnread form)
      ⊎ ((own : Format) × (records : List R) × IsOldRead form own records
      × (((own ≡ Two) × IsLeftAlone old new filed (λ complaint. complaint ≡ complaints.Fault (Unupgraded upgrades.NotOld)))
      ⊎ ((own ≡ One) × IsNewRun upgraded_line (Some Two) None own records)))

  -- how `serve` ends whose engine gave that disk back, ended so, and settled so many growths
  abbrev pub IsServedAs : Disk → ℕ → Result (Unit {0}) ServeFault → Type 0
  IsServedAs left growths (Ok all) = (filed ≡ Ok statuses.OutputFailed) ⊎ ((filed ≡ Ok statuses.Done) × Appends old new (served_line growths))
  IsServedAs left growths (Err fault) = (complaint : Complaint) × (filed ≡ Err complaint) × IsServeComplaint form left growths fault complaint × Keeps old new

  -- `serve`: so many clients, each at a pair of pipes, grew the vector
  pub record HasServed (clients : ℕ) : Type 0 where
    pub disk : Disk
    pub left : Disk
    pub growths : ℕ
    pub served : Result (Unit {0}) ServeFault
    pub pipes : List (Pipes File File)
    pub as_many : length pipes ≡ clients
    pub opened : IsJustOpened disk
    pub leaves : KeepsSoFar left → IsLeft form states_of disk left growths served
    pub theirs : KeepsSoFar left → LeavesClients form states_of unknown unknown pipes disk left growths served
    pub refused : IfErr served (IsServeRefusal form KeepsSoFar states_of clients left growths)
    pub faults_are : CountsFailures serve_failures (faults_of disk) (faults_of left) served
    pub model : KeepsSoFar left → KeepsSoFar disk
    pub told : IsServedAs left growths served

  abbrev pub IsServeRun : ℕ → Type 0
  IsServeRun clients = IsLeftAlone old new filed IsUnserved ⊎ (IsLeftUnopened old new filed roles.File ⊎ HasServed clients)

-- What a command on records of these bytes and texts has done: its task is what the words ask for.
abbrev pub IsCommandRun : {R : Type 0} → Encoding R → Spelling R → FileTask → Option (List ℕ) → Option (List ℕ) → Option (List ℕ) → Result Status Complaint → Type 0
IsCommandRun form spelling (Create format over) input old new filed = IsCreateRun form old new filed format over
IsCommandRun form spelling (Load growers) input old new filed = IsLoadRun form old new filed spelling input growers
IsCommandRun form spelling (Append block every) input old new filed = IsAppendRun form old new filed spelling input (non_zero_u32_get block)
IsCommandRun form spelling Check input old new filed = IsCheckRun form old new filed
IsCommandRun form spelling (Listed from count) input old new filed = IsListRun form old new filed spelling (option_copied from) (option_copied count)
IsCommandRun form spelling (Follow what poll once) input old new filed = IsFollowRun form old new filed spelling what (looks_asked poll once)
IsCommandRun form spelling (Count wanted) input old new filed = IsSearchRun form old new filed spelling soughts.Count wanted.now
IsCommandRun form spelling (Find wanted) input old new filed = IsSearchRun form old new filed spelling soughts.First wanted.now
IsCommandRun form spelling (Set start records) input old new filed = IsSetRun form old new filed spelling start.now (option_copied records) input
IsCommandRun form spelling (Resize len filler in_parts) input old new filed = IsResizeRun form old new filed spelling in_parts len.now filler.now
IsCommandRun form spelling Clear input old new filed = IsClearRun form old new filed
IsCommandRun form spelling Fold input old new filed = IsFoldRun form old new filed
IsCommandRun form spelling (Upgrade name) input old new filed = IsUpgradeRun form old new filed
IsCommandRun form spelling (Copy name format block) input old new filed = IsCopyRun form old new filed format block
IsCommandRun form spelling (Serve clients) input old new filed = IsServeRun form old new filed clients

-- `stat`: the file's summary was told in that form
pub record HasToldStat (told_as : Form) (old new : Option (List ℕ)) (filed : Result Status Complaint) : Type 0 where
  pub disk : Disk
  pub left : Disk
  pub ended : StatEnded
  pub opened : IsJustOpened disk
  pub engine : IsTold (KeepsSoFar left) (bytes_of (states_of disk)) (AreCalls (clock (states_of disk)) (clock (states_of left))) told_as old new ended
  pub only_reads : KeepsSoFar left → OnlyReads (states_of disk) (states_of left)
  pub faults_are : faults_of left ≡ faults_of disk + failed_at ended
  pub told : IsStatStatus ended filed

-- or, where another command had the file, beside that one
abbrev pub IsStatRun : Form → Option (List ℕ) → Option (List ℕ) → Result Status Complaint → Type 0
IsStatRun told_as old new filed =
    IsLeftUnopened old new filed roles.File ⊎ (HasToldStat told_as old new filed ⊎ IsLookDone filed (SummarizesBeside told_as old new))
