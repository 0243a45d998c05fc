-- What a server leaves.
use Rattle.std.specs.Prelude.{◌≡◌, ◌⊎◌, ℕ, ◌+◌, ◌<◌, ◌≤◌, List, [], ◌++◌, length, take, Bool, true, false, None, OnOk, IfErr, MatchResult}
use Rattle.std.specs.declared.result.Result.{Result}
use Rattle.std.specs.declared.result.Result.TheVariants.{Ok, Err}
use Rattle.record_core.specs.Bytes.{Encoding}
use Rattle.disk_core.specs.Fault.{CountsFailures}
use Rattle.disk_core.specs.State.{State, now, IsImage}
use Rattle.disk_core.specs.Calls.{bytes_of}
use Rattle.disk_core.specs.Moments.{LeavesOnly}
use Rattle.pen_core.specs.Typed.{OpensTo}
use Rattle.pen_core.specs.Opening.{IsOpened, IsOpenRefusal, OnlySyncs, failed_openings}
use Rattle.pen_core.specs.declared.fault.PenFault.TheVariants as pens
use Rattle.block_core.specs.Growth.{Growth}
use Rattle.directory_core.specs.Chain.{grown_records}
use Rattle.book_core.specs.Beginning.{seat_limit}
use Rattle.book_core.specs.Lists.{Phase}
use Rattle.flush_core.specs.declared.fault.FlushFault.{FlushFault}
use Rattle.flush_core.specs.declared.fault.FlushFault.TheVariants as flushes
use Rattle.flush_core.specs.Flusher.{FlusherOf, FlusherLearns, IsFlusherOf, OpensToJob}
use Rattle.flush_core.specs.Serving.{Serves, HasSettledAll, IsServeFault}
use Rattle.flush_core.specs.Refusals.{IsNotBegun, failed}
use Rattle.vault_core.specs.declared.fault.VaultFault.{VaultFault}
use Rattle.vault_core.specs.declared.fault.VaultFault.TheVariants.{Pen}
use Rattle.vault_core.specs.Vault.{VaultOf, list_of}
use Rattle.vault_core.specs.Sharing.{OpensToGrown}
use Rattle.serve_core.specs.declared.fault.ServeFault.{ServeFault}
use Rattle.serve_core.specs.declared.fault.ServeFault.TheVariants.{Open, Share, Thread, Flush}

-- the image opens to these records and those of the first of the growths, at least so many of them
pub record OpensBehind {R : Type 0} (form : Encoding R) (before : List R) (growths : List (Growth R)) (settled : ℕ) (image : List ℕ) : Type 0 where
  pub count : ℕ
  pub at_least : settled ≤ count
  pub known : count ≤ length growths
  pub opens : OpensTo form image (before ++ grown_records (take count growths))

-- The file had a list, and behind it growths were made. Whatever a crash may have left meanwhile is what it might have left
-- before, or opens to that list and the first growths, each whole; and whatever it may leave now opens to it and at least so
-- many of them.
pub record IsServed {R D : Type 0} (form : Encoding R) (states : D → List State) (disk left : D) (settled : ℕ) : Type 0 where
  pub before : List R
  pub growths : List (Growth R)
  pub file : OpensTo form (bytes_of (states disk)) before
  pub few : settled ≤ length growths
  pub meanwhile : LeavesOnly (states disk) (states left) (λ image. IsImage (now (states disk)) image ⊎ OpensToGrown form before growths image)
  pub stands : (image : List ℕ) → IsImage (now (states left)) image → OpensBehind form before growths settled image

-- and all that was grown is settled
abbrev pub IsAllServed : {R D : Type 0} → Encoding R → (D → List State) → D → D → ℕ → Type 0
IsAllServed form states disk left settled = (served : IsServed form states disk left settled) × (settled ≡ length served.growths)

-- Where nothing was refused all growths are settled. Where the file wasn't opened nothing was written, and where no client
-- was served nothing was grown.
abbrev pub IsLeft : {R D X : Type 0} → Encoding R → (D → List State) → D → D → ℕ → Result X ServeFault → Type 0
IsLeft form states disk left settled (Ok x) = IsAllServed form states disk left settled
IsLeft form states disk left settled (Err (Open fault)) = (settled ≡ 0) × OnlySyncs (states disk) (states left) × IsOpenRefusal form (bytes_of (states disk)) fault
IsLeft form states disk left settled (Err (Share fault)) = (served : IsServed form states disk left settled) × (served.growths ≡ [])
IsLeft form states disk left settled (Err Thread) = (served : IsServed form states disk left settled) × (served.growths ≡ [])
IsLeft form states disk left settled (Err (Flush fault)) = IsServed form states disk left settled

-- why no client was served, of so many
abbrev pub IsShareRefusal : ℕ → VaultFault → Type 0
IsShareRefusal clients (Pen pens.TooLarge) = (clients ≡ 0) ⊎ (seat_limit < clients)
IsShareRefusal clients (Pen pens.Memory) = (0 < clients) × (clients ≤ seat_limit)
IsShareRefusal clients other = ⊥

-- Why a flusher stopped before all was settled: the file has no room for the next group or there was no memory for it, a
-- call of the device failed, or a growth strayed: the one behind those that it knows, or one of them, which no client made.
abbrev pub IsFlusherStop : {R D : Type 0} → ℕ → FlusherOf R D → FlushFault → Type 0
IsFlusherStop width f (flushes.Pen pens.FileFull) = (f.pen.job ≡ None) × IsNotBegun width f pens.FileFull
IsFlusherStop width f (flushes.Pen pens.Memory) = (f.pen.job ≡ None) × IsNotBegun width f pens.Memory
IsFlusherStop width f (flushes.Pen (pens.Disk cause)) = f.pen.broken ≡ true
IsFlusherStop width f (flushes.Strayed number) = (f.pen.job ≡ None) × (number ≡ length f.pass.entries)
IsFlusherStop width f other = ⊥

-- The flusher that stopped so over that disk: it has settled so many growths, and whatever the disk may leave opens to what
-- the flusher has in the file.
pub record HasStopped {R D : Type 0} (form : Encoding R) (keeps : D → Type 0) (states : D → List State) (left : D) (settled : ℕ) (fault : FlushFault) : Type 0 where
  pub flusher : FlusherOf R D
  pub disk_is : left ≡ flusher.pen.disk
  pub settled_is : settled ≡ flusher.settled
  pub file : keeps left → (image : List ℕ) → IsImage (now (states left)) image → OpensToJob form flusher image
  pub why : IsFlusherStop form.width flusher fault

-- Why so many clients weren't served, or what they grew wasn't settled; that the file wasn't opened is told by what is left.
abbrev pub IsServeRefusal : {R D : Type 0} → Encoding R → (D → Type 0) → (D → List State) → ℕ → D → ℕ → ServeFault → Type 0
IsServeRefusal form keeps states clients left settled (Open fault) = Unit {0}
IsServeRefusal form keeps states clients left settled (Share fault) = IsShareRefusal clients fault
IsServeRefusal form keeps states clients left settled Thread = (0 < clients) × (clients ≤ seat_limit)
IsServeRefusal form keeps states clients left settled (Flush fault) = HasStopped form keeps states left settled fault

-- What comes of clients where that came of their flusher, which knows so many growths: it wasn't refused only where they made
-- just as many.
abbrev pub outcome_of : {X : Type 0} → Result X FlushFault → Bool → ℕ → Result X ServeFault
outcome_of (Ok x) true known = Ok x
outcome_of (Ok x) false known = Err (Flush (flushes.Strayed known))
outcome_of (Err fault) made_all known = Err (Flush fault)

-- The flusher of a phase has served until that came of it: the growths that it settled stand, all of them where it wasn't
-- refused, and the calls of the device failed as often as the fault tells.
pub record HasFlushed {R D : Type 0} (form : Encoding R) (keeps : D → Type 0) (states : D → List State) (faults : D → ℕ) (live : Phase R)
    (old new : FlusherOf R D) {X : Type 0} (flushed : Result X FlushFault) : Type 0 where
  pub of : IsFlusherOf (keeps new.pen.disk) live new
  pub served : Serves form keeps states old new
  pub ended : OnOk flushed (HasSettledAll new)
  pub refused : IfErr flushed (IsServeFault form.width old new)
  pub counts : CountsFailures failed (faults old.pen.disk) (faults new.pen.disk) flushed

-- A flusher has served until it stopped by that fault, with those images, and has learnt since what its clients' seats knew.
pub record HasStoppedBy {R D : Type 0} (form : Encoding R) (keeps : D → Type 0) (states : D → List State) (faults : D → ℕ) (live : Phase R) (old new : FlusherOf R D) (fault : FlushFault) : Type 0 where
  pub stopped : FlusherOf R D
  pub flushed : HasFlushed form keeps states faults live old stopped {X = Unit {0}} (Err fault)
  pub learns : FlusherLearns stopped new
  pub images : keeps stopped.pen.disk → (image : List ℕ) → IsImage (now (states stopped.pen.disk)) image → OpensToJob form stopped image

-- What came of a flusher whose phase was to be served: it has served; or no client was, for want of memory or of a thread, and
-- it is as it was.
abbrev pub ComesBack : {R D X : Type 0} → Encoding R → (D → Type 0) → (D → List State) → (D → ℕ) → Phase R → FlusherOf R D → FlusherOf R D → Result X ServeFault → Type 0
ComesBack {X = X} form keeps states faults live old new (Ok x) = HasFlushed form keeps states faults live old new {X = X} (Ok x)
ComesBack form keeps states faults live old new (Err (Open fault)) = ⊥
ComesBack form keeps states faults live old new (Err (Share fault)) = (fault ≡ Pen pens.Memory) × (new ≡ old)
ComesBack form keeps states faults live old new (Err Thread) = new ≡ old
ComesBack form keeps states faults live old new (Err (Flush fault)) = HasStoppedBy form keeps states faults live old new fault

-- That came of a flusher, and it is let go: its disk is left, and it has settled so many growths.
pub record IsPhaseLeft {R D X : Type 0} (form : Encoding R) (keeps : D → Type 0) (states : D → List State) (faults : D → ℕ) (live : Phase R)
    (old : FlusherOf R D) (left : D) (settled : ℕ) (result : Result X ServeFault) : Type 0 where
  pub flusher : FlusherOf R D
  pub comes : ComesBack form keeps states faults live old flusher result
  pub disk_is : left ≡ flusher.pen.disk
  pub settled_is : settled ≡ flusher.settled
  pub known : settled ≤ length flusher.pass.entries
  pub images : keeps left → (image : List ℕ) → IsImage (now (states left)) image → OpensToJob form flusher image

-- The vault is as that disk was opened: it has the records of the file, to which nothing was written.
pub record IsOpenedFrom {R D : Type 0} (form : Encoding R) (keeps : D → Type 0) (states : D → List State) (disk : D) (vault : VaultOf R D) : Type 0 where
  pub opened : keeps vault.pen.disk → IsOpened form (bytes_of (states disk)) vault.pen (list_of vault)
  pub only_syncs : keeps vault.pen.disk → OnlySyncs (states disk) (states vault.pen.disk)
  pub sure : keeps vault.pen.disk → vault.sure ≡ list_of vault

-- how many calls of the device have failed where this is answered
abbrev pub serve_failures : ServeFault → ℕ
serve_failures (Open fault) = failed_openings fault
serve_failures (Share fault) = 0
serve_failures Thread = 0
serve_failures (Flush fault) = failed fault
