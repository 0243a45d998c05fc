-- What a call makes of an end of a phase.
use Rattle.std.specs.Prelude.{◌≡◌, ◌⊎◌, ℕ, ◌+◌, ◌/◌, ◌<◌, ◌≤◌, List, [], ◌∷◌, ◌++◌, length, replicate, true, None}
use Rattle.std.specs.List.{count_by}
use Rattle.std.specs.Arc.{arc_value}
use denote.RawPtr.{Ptr}
use Rattle.std.specs.declared.cmp.PartialEq as PartialEq
use Rattle.record_core.specs.Cells.{AreRecords}
use Rattle.record_core.specs.declared.record.Record as Record
use Rattle.flush_core.specs.Flusher.{ToldIsLeft}
use Rattle.disk_core.specs.Moments.{clock}
use Rattle.disk_core.specs.FileDisk.{states_of, KeepsSoFar}
use Rattle.block_core.specs.declared.fault.FreshFault.{FreshFault}
use Rattle.block_core.specs.Length.{IsBlockRefusal}
use Rattle.book_core.specs.declared.fault.GrowFault.{GrowFault}
use Rattle.book_core.specs.declared.seat.Receipt.{Receipt}
use Rattle.book_core.specs.declared.mark.MarkState.{MarkState}
use Rattle.book_core.specs.Growing.{Grown, SeatLearns, SeatIsTold, IsBookRefusal, IsCopiesRefusal, IsLookFault}
use Rattle.book_core.specs.Beginning.{IsNewSeat}
use Rattle.book_core.specs.Lists.{Seated}
use Rattle.relay_core.specs.declared.call.Call.{Call}
use Rattle.relay_core.specs.Listed.{LeadThrough}
use Rattle.relay_core.specs.Making.{IsFollowed}
use Rattle.phase_core.specs.Grower.{list_of, pieces_of, Copies, IsOfOnePiece, IsFoundFrom, equals}
use Rattle.phase_core.specs.Grower as growers
use Rattle.phase_core.specs.Telling.{StandAt, TellsFrom}
use Rattle.phase_core.specs.declared.grower.Grower.{Grower}
use Rattle.phase_core.specs.declared.piece.Piece.{Piece}
use Rattle.phase_core.specs.Committing.{GoesOn, IsUnplanned, HostCommits, HostIsTold}
use Rattle.phase_core.specs.Committer.{calls_of}
use Rattle.phase_core.specs.HostVault as vaults
use Rattle.phase_core.specs.Listing.{IsListLost}
use Rattle.phase_core.specs.declared.phase.Phase.{Phase}
use Rattle.flush_core.specs.declared.fault.FlushFault.{FlushFault}
use Rattle.c_core.specs.declared.refusal.Refusal.{Refusal}
use Rattle.c_core.specs.declared.refusal.Refusal.TheVariants.{Memory, Broken, NoRecord, NotSo}
use Rattle.c_core.specs.Records.{AreNone, IsRecord, IsNoRecord}
use Rattle.handle_core.specs.Refusals.{of_block, of_growth, of_flush}
use Rattle.handle_core.specs.declared.end.Role.{Role}
use Rattle.handle_core.specs.declared.end.Role.TheVariants as roles

module _ {R : Type 0} {record_of : Record.Ghosts R} {eq_of : PartialEq.Ghosts R} where
  -- ---- a grower

  -- it made one growth of these records, behind all that it knows of its phase; the receipt has the growth's place
  abbrev pub MakesGrowth : List R → Receipt → Grower R record_of eq_of → Grower R record_of eq_of → Type 0
  MakesGrowth records receipt old new =
      (growers.phase_of new ≡ growers.phase_of old) × Grown (growers.phase_of old) old.seat new.seat records receipt

  -- so of the records that these bytes are
  abbrev pub GrowsBy : List ℕ → Receipt → Grower R record_of eq_of → Grower R record_of eq_of → Type 0
  GrowsBy bytes receipt old new = (records : List R) × AreRecords record_of.form bytes records × MakesGrowth records receipt old new

  abbrev pub Grows : List ℕ → Receipt → Role R record_of eq_of → Role R record_of eq_of → Type 0
  Grows bytes receipt (roles.Grower old) (roles.Grower new) = GrowsBy bytes receipt old new
  Grows bytes receipt old new = ⊥

  -- Why a growth of so many bytes is refused: they are no records; or there was no room or memory for as many, or another growth
  -- came first, and the grower has learned what others grew.
  abbrev pub RefusesBytes : List ℕ → Refusal → Grower R record_of eq_of → Grower R record_of eq_of → Type 0
  RefusesBytes bytes refusal old new =
      (growers.phase_of new ≡ growers.phase_of old) × SeatLearns old.seat new.seat
      × (((refusal ≡ NoRecord) × AreNone record_of.form bytes)
      ⊎ ((fault : GrowFault) × (refusal ≡ of_growth fault)
      × IsCopiesRefusal record_of.form.width (growers.phase_of old) new.seat (length bytes / record_of.form.width) fault))

  -- or it is no grower, and is as it was
  abbrev pub RefusesGrowth : List ℕ → Refusal → Role R record_of eq_of → Role R record_of eq_of → Type 0
  RefusesGrowth bytes refusal (roles.Grower old) (roles.Grower new) = RefusesBytes bytes refusal old new
  RefusesGrowth bytes refusal (roles.Grower old) new = ⊥
  RefusesGrowth bytes refusal old new = (refusal ≡ NotSo) × (new ≡ old)

  -- it is a block of so many blank records, which stand there, for a grower
  abbrev pub IsBlockOf : ℕ → Ptr → Role R record_of eq_of → Role R record_of eq_of → Type 0
  IsBlockOf count place (roles.Grower grower) (roles.Block block) = (block ≡ replicate count record_of.blank_value) × StandAt block place
  IsBlockOf count place end block = ⊥

  -- why there is none: a growth of so many records can't be, or there was no memory for it; or it is no grower
  abbrev pub RefusesBlock : ℕ → Refusal → Role R record_of eq_of → Type 0
  RefusesBlock count refusal (roles.Grower grower) = (fault : FreshFault) × (refusal ≡ of_block fault) × IsBlockRefusal record_of.form.width count fault
  RefusesBlock count refusal end = refusal ≡ NotSo

  -- the grower made one growth of the records that the block had
  abbrev pub Publishes : Receipt → Role R record_of eq_of → Role R record_of eq_of → Role R record_of eq_of → Type 0
  Publishes receipt (roles.Block block) (roles.Grower old) (roles.Grower new) = MakesGrowth block receipt old new
  Publishes receipt block old new = ⊥

  -- Why it didn't: there was no room for the growth, or another came first, and the grower has learned what others grew; or the ends
  -- are no block and grower, and the grower's is as it was.
  abbrev pub RefusesPublishing : Refusal → Role R record_of eq_of → Role R record_of eq_of → Role R record_of eq_of → Type 0
  RefusesPublishing refusal (roles.Block block) (roles.Grower old) (roles.Grower new) =
      (growers.phase_of new ≡ growers.phase_of old) × SeatLearns old.seat new.seat
      × ((fault : GrowFault) × (refusal ≡ of_growth fault) × IsBookRefusal (growers.phase_of old) new.seat (length block) fault)
  RefusesPublishing refusal (roles.Block block) (roles.Grower old) new = ⊥
  RefusesPublishing refusal block old new = (refusal ≡ NotSo) × (new ≡ old)

  -- a growth is none of the phase; or it is no grower, and is as it was
  abbrev pub RefusesLook : Refusal → Role R record_of eq_of → Role R record_of eq_of → Type 0
  RefusesLook refusal (roles.Grower old) (roles.Grower new) =
      (refusal ≡ Broken) × (growers.phase_of new ≡ growers.phase_of old) × SeatLearns old.seat new.seat
      × ((fault : GrowFault) × IsLookFault new.seat fault)
  RefusesLook refusal (roles.Grower old) new = ⊥
  RefusesLook refusal old new = (refusal ≡ NotSo) × (new ≡ old)

  -- it is no grower, and is as it was
  abbrev pub IsNoGrower : Refusal → Role R record_of eq_of → Role R record_of eq_of → Type 0
  IsNoGrower refusal (roles.Grower old) new = ⊥
  IsNoGrower refusal old new = (refusal ≡ NotSo) × (new ≡ old)

  -- a grower learned what others grew, and so many records are in its list
  abbrev pub Sizes : ℕ → Role R record_of eq_of → Role R record_of eq_of → Type 0
  Sizes size (roles.Grower old) (roles.Grower new) =
      (growers.phase_of new ≡ growers.phase_of old) × SeatLearns old.seat new.seat × (size ≡ length (list_of new))
  Sizes size old new = ⊥

  -- a grower was told that so many growths are durable
  abbrev pub Tells : ℕ → MarkState → Role R record_of eq_of → Role R record_of eq_of → Type 0
  Tells count state (roles.Grower old) (roles.Grower new) =
      (growers.phase_of new ≡ growers.phase_of old) × SeatIsTold old.seat new.seat count state
  Tells count state old new = ⊥

  -- the bytes of so many records of its list from that position on stand in front of the output: if there is one, of as many as
  -- there stand in its piece, and as there is room for
  abbrev pub Reads : ℕ → List ℕ → List ℕ → ℕ → Role R record_of eq_of → Role R record_of eq_of → Type 0
  Reads from before after count (roles.Grower old) (roles.Grower new) =
      (new ≡ old) × Copies record_of.form (list_of old) from before after count
      × (from < length (list_of old) → IsOfOnePiece (pieces_of old) from (length before / record_of.form.width) count)
      × ((count ≡ 0) → (length (list_of old) ≤ from) ⊎ (length before < record_of.form.width))
  Reads from before after count old new = ⊥

  -- of the records of its list from that position on so many pieces are told in front of the output
  abbrev pub TellsPieces : ℕ → List Piece → List Piece → ℕ → Role R record_of eq_of → Role R record_of eq_of → Type 0
  TellsPieces from before after count (roles.Grower old) (roles.Grower new) = (new ≡ old) × TellsFrom (list_of old) from before after count
  TellsPieces from before after count old new = ⊥

  -- the bytes are a record, and so many of those that it knows equal it
  abbrev pub Counts : List ℕ → ℕ → Role R record_of eq_of → Role R record_of eq_of → Type 0
  Counts bytes count (roles.Grower old) new =
      (new ≡ roles.Grower old) × ((x : R) × IsRecord record_of.form bytes x × (count ≡ count_by (equals eq_of.eq x) (list_of old)))
  Counts bytes count old new = ⊥

  -- the bytes are a record, and that is the first position from there on whose record equals it, or how many records it knows
  abbrev pub Finds : List ℕ → ℕ → ℕ → Role R record_of eq_of → Role R record_of eq_of → Type 0
  Finds bytes from place (roles.Grower old) new =
      (new ≡ roles.Grower old) × ((x : R) × IsRecord record_of.form bytes x × IsFoundFrom (list_of old) x from place)
  Finds bytes from place old new = ⊥

  -- the bytes are no record; or it is no grower; it is as it was
  abbrev pub RefusesSearch : List ℕ → Refusal → Role R record_of eq_of → Role R record_of eq_of → Type 0
  RefusesSearch bytes refusal (roles.Grower old) new = (refusal ≡ NoRecord) × IsNoRecord record_of.form bytes × (new ≡ roles.Grower old)
  RefusesSearch bytes refusal old new = (refusal ≡ NotSo) × (new ≡ old)

  -- ---- who commits

  -- It lists the calls that commit so many growths more, none only where all that are known are taken, and tells nobody yet. Where
  -- the host had made all calls before, whatever a crash leaves of its file while it makes these opens to the growths that were
  -- settled then, and maybe to more of the first.
  abbrev pub Plans : ℕ → Role R record_of eq_of → Role R record_of eq_of → Type 0
  Plans count (roles.Committer old) (roles.Committer new) =
      (arc_value new.live ≡ arc_value old.live) × (new.made ≡ old.made)
      × GoesOn record_of.form (λ disk. KeepsSoFar disk.inner) (λ disk. states_of disk.inner) old.flusher new.flusher
      × (new.flusher.taken ≡ old.flusher.taken + count) × (new.flusher.taken < length new.flusher.pass.entries → 0 < count) × (new.flusher.pen.job ≡ None)
      × (KeepsSoFar new.flusher.pen.disk.inner
      → HostCommits record_of.form (states_of old.flusher.pen.disk.inner) (states_of new.flusher.pen.disk.inner) new.made old.flusher new.flusher)
  Plans count old new = ⊥

  -- Why it plans no calls: nothing more was taken then, but where a call has failed; nobody is told anything. Or it is another
  -- end, and is as it was.
  abbrev pub RefusesPlan : Refusal → Role R record_of eq_of → Role R record_of eq_of → Type 0
  RefusesPlan refusal (roles.Committer old) (roles.Committer new) =
      (arc_value new.live ≡ arc_value old.live) × (new.made ≡ old.made) × GoesOn record_of.form (λ disk. KeepsSoFar disk.inner) (λ disk. states_of disk.inner) old.flusher new.flusher
      × ((fault : FlushFault) × (refusal ≡ of_flush fault) × IsUnplanned fault old.flusher new.flusher)
  RefusesPlan refusal (roles.Committer old) new = ⊥
  RefusesPlan refusal old new = (refusal ≡ NotSo) × (new ≡ old)

  -- a call was lost, and nobody is told anything; or it is another end, and is as it was
  abbrev pub RefusesSettle : Refusal → Role R record_of eq_of → Role R record_of eq_of → Type 0
  RefusesSettle refusal (roles.Committer old) (roles.Committer new) =
      (refusal ≡ Broken) × (old.flusher.pen.disk.lost ≡ true)
      × (arc_value new.live ≡ arc_value old.live) × (new.flusher ≡ old.flusher) × (new.made ≡ old.made)
  RefusesSettle refusal (roles.Committer old) new = ⊥
  RefusesSettle refusal (roles.Vault old) (roles.Vault new) =
      (refusal ≡ Broken) × (old.vault.pen.disk.lost ≡ true) × (new.vault ≡ old.vault) × (new.made ≡ old.made)
  RefusesSettle refusal (roles.Vault old) new = ⊥
  RefusesSettle refusal old new = (refusal ≡ NotSo) × (new ≡ old)

  -- These are the calls that the host hasn't made. They make of the file as it has made it, state by state, the file as it is to
  -- be: whatever a crash leaves of the host's file while it makes them, a crash might have left of the disk since. Who commits:
  -- what the mark told stands also of the host's file.
  abbrev pub Lists : List Call → Role R record_of eq_of → Type 0
  Lists calls (roles.Committer committer) =
      let disk = committer.flusher.pen.disk.inner in
      (calls ≡ calls_of committer) × (KeepsSoFar disk → LeadThrough (states_of disk) committer.made calls)
      × (KeepsSoFar disk → IsFollowed (states_of disk) committer.made calls)
      × (KeepsSoFar disk → HostIsTold record_of.form (states_of disk) committer.made calls committer.flusher)
  Lists calls (roles.Vault vault) =
      let disk = vault.vault.pen.disk.inner in
      (calls ≡ vaults.calls_of vault) × (KeepsSoFar disk → LeadThrough (states_of disk) vault.made calls)
      × (KeepsSoFar disk → IsFollowed (states_of disk) vault.made calls)
  Lists calls role = ⊥

  -- a call was lost; or it is no end that lists calls
  abbrev pub RefusesCalls : Refusal → Role R record_of eq_of → Type 0
  RefusesCalls refusal (roles.Committer committer) = (refusal ≡ Broken) × IsListLost committer.made committer.flusher.pen.disk
  RefusesCalls refusal (roles.Vault vault) = (refusal ≡ Broken) × IsListLost vault.made vault.vault.pen.disk
  RefusesCalls refusal role = refusal ≡ NotSo

  -- The host has made all calls, and the growers are told what is in the file by them: so many growths, and nothing else is
  -- done. What they were told stands: whatever a crash has left since then opens to so many growths at least. Of a vault, which has told nobody, no growth.
  abbrev pub Settles : ℕ → Role R record_of eq_of → Role R record_of eq_of → Type 0
  Settles count (roles.Committer old) (roles.Committer new) =
      (arc_value new.live ≡ arc_value old.live) × (new.made ≡ clock (states_of new.flusher.pen.disk.inner))
      × (count ≡ old.flusher.settled) × (new.flusher.mark.told.count ≡ count) × (new.flusher ≡ record old.flusher { mark = new.flusher.mark })
      × (KeepsSoFar new.flusher.pen.disk.inner
      → ToldIsLeft record_of.form (states_of new.flusher.pen.disk.inner) new.flusher new.flusher.mark.raises)
  Settles count (roles.Vault old) (roles.Vault new) = (new.vault ≡ old.vault) × (new.made ≡ clock (states_of new.vault.pen.disk.inner)) × (count ≡ 0)
  Settles count old new = ⊥

  -- ---- a phase

  -- that seat is no more among those that nobody has
  abbrev pub GivesSeat : Seated R → Phase R record_of eq_of → Phase R record_of eq_of → Type 0
  GivesSeat seat old new = (arc_value new.live ≡ arc_value old.live) × (old.seats.items ≡ new.seats.items ++ seat ∷ [])

  -- the first is a new grower of the phase, which has one seat less
  abbrev pub Seats : Role R record_of eq_of → Role R record_of eq_of → Role R record_of eq_of → Type 0
  Seats (roles.Grower grower) (roles.Phase old) (roles.Phase new) =
      GivesSeat grower.seat old new × (growers.phase_of grower ≡ arc_value old.live)
      × IsNewSeat (arc_value old.live).directory (arc_value old.live).mark (length new.seats.items) grower.seat
  Seats seat old new = ⊥

  -- each seat is taken, or there is no memory, and no seat is given up, but where C's handle had no memory for its grower; or it
  -- is another end, and is as it was
  abbrev pub RefusesSeat : Refusal → Role R record_of eq_of → Role R record_of eq_of → Type 0
  RefusesSeat refusal (roles.Phase old) (roles.Phase new) =
      ((arc_value new.live ≡ arc_value old.live) × (new.seats.items ≡ old.seats.items)
      × ((refusal ≡ Memory) ⊎ ((refusal ≡ NotSo) × (length old.seats.items ≡ 0))))
      ⊎ ((refusal ≡ Memory) × ((seat : Seated R) × GivesSeat seat old new))
  RefusesSeat refusal (roles.Phase old) new = ⊥
  RefusesSeat refusal old new = (refusal ≡ NotSo) × (new ≡ old)
