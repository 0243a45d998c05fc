-- What a crew grows by, and what comes of it.
use Rattle.std.specs.Prelude.{◌≡◌, ℕ, zero, suc, ◌+◌, ◌<◌, ◌≤◌, ◌⊎◌, max, List, [], ◌++◌, length, map, take, get_or, slice_get, All, Option, Some, None, IfSome, false}
use Rattle.std.specs.Global.{Vec}
use Rattle.record_core.specs.Bytes.{Encoding}
use Rattle.record_core.specs.Limits.{payload_limit, record_limit}
use Rattle.disk_core.specs.State.{State, IsImage, now}
use Rattle.disk_core.specs.Moments.{LeavesOnly}
use Rattle.pen_core.specs.Typed.{OpensTo}
use Rattle.block_core.specs.Growth.{Growth}
use Rattle.block_core.specs.Length.{payload_len}
use Rattle.block_core.specs.declared.fault.FreshFault.{FreshFault}
use Rattle.block_core.specs.declared.fault.FreshFault.TheVariants as fresh
use Rattle.directory_core.specs.Chain.{grown_records, IsChained}
use Rattle.book_core.specs.declared.fault.GrowFault.{GrowFault}
use Rattle.book_core.specs.declared.fault.GrowFault.TheVariants.{Closed, Full, TooLong, Strayed, Memory, Empty, TooLarge}
use Rattle.book_core.specs.declared.seat.Receipt.{Receipt}
use Rattle.book_core.specs.Lists.{Phase, Seated, IsSeatOf, opening_of, own_of, records_of}
use Rattle.book_core.specs.Growing.{IsBookRefusal}
use Rattle.crew_core.specs.declared.crewing.CrewFault.{CrewFault}
use Rattle.crew_core.specs.declared.crewing.CrewFault.TheVariants.{Share, Gather}
use Rattle.vault_core.specs.Vault.{VaultOf, list_of}
use Rattle.vault_core.specs.Sharing.{IsShareFault, OpensToGrown}
use Rattle.vault_core.specs.Gathering.{AreOfPhase, IsGatherFault}

-- ---- sources

-- why a source gives no block of so many records
abbrev pub IsSourceFault : ℕ → ℕ → FreshFault → Type 0
IsSourceFault width n fresh.Empty = n ≡ 0
IsSourceFault width n fresh.TooLarge = payload_limit < payload_len width n
IsSourceFault width n fresh.Memory = Unit {0}

-- for each grower the records of its blocks
abbrev pub grower_growths : {R : Type 0} → List (Vec (Vec R)) → List (List (List R))
grower_growths lists = map (λ blocks. records_of blocks.items) lists

abbrev pub grower_count : {R : Type 0} → List (List (List R)) → ℕ → ℕ
grower_count growths grower = length (get_or growths grower [])

abbrev pub block_in : {R : Type 0} → List (List (List R)) → ℕ → ℕ → List R
block_in growths grower k = get_or (get_or growths grower []) k []

-- how many blocks the first n growers have together
abbrev pub counts_to : (ℕ → ℕ) → ℕ → ℕ
counts_to count zero = 0
counts_to count (suc n) = counts_to count n + count n

-- ---- one grower

-- the receipt of a growth that stands behind so many records from before the phase
abbrev pub receipt_of : {R : Type 0} → ℕ → Growth R → Receipt
receipt_of before growth = record { number = growth.number; start = before + growth.start; len = length growth.records; seat = growth.seat; serial = growth.serial }

-- why a growth of so many records isn't made: it has none, or too many for a block; or the book refuses it
abbrev pub IsGrowerFault : {R : Type 0} → ℕ → Phase R → Seated R → ℕ → GrowFault → Type 0
IsGrowerFault width live seat n Closed = Unit {0}
IsGrowerFault width live seat n Full = IsBookRefusal live seat n Full
IsGrowerFault width live seat n TooLong = IsBookRefusal live seat n TooLong
IsGrowerFault width live seat n (Strayed k) = IsBookRefusal live seat n (Strayed k)
IsGrowerFault width live seat n Memory = Unit {0}
IsGrowerFault width live seat n Empty = n ≡ 0
IsGrowerFault width live seat n TooLarge = payload_limit < payload_len width n

-- why there is no such block, as the fault of a growth
abbrev pub IsBlockFault : ℕ → ℕ → GrowFault → Type 0
IsBlockFault width n Closed = ⊥
IsBlockFault width n Full = ⊥
IsBlockFault width n TooLong = ⊥
IsBlockFault width n (Strayed k) = ⊥
IsBlockFault width n Memory = Unit {0}
IsBlockFault width n Empty = n ≡ 0
IsBlockFault width n TooLarge = payload_limit < payload_len width n

-- memory for the next growth, or for its thread, may be what a grower wants that has made so many growths
abbrev pub MayStarve : ℕ → ℕ → Type 0
MayStarve count m = (m < count) ⊎ (m ≡ 0)

-- why a grower stopped: memory was refused, that of its thread among it; or the growth of the block that comes next wasn't
-- made
abbrev pub StopsGrower : {R : Type 0} → ℕ → Phase R → ℕ → (ℕ → List R) → Seated R → GrowFault → Type 0
StopsGrower width live count block seat fault =
    ((fault ≡ Memory) × MayStarve count (length seat.made))
    ⊎ ((length seat.made < count) × IsGrowerFault width live seat (length (block (length seat.made))) fault)

-- The grower of that id has made growths of the first blocks that are named for it, in order, has their receipts, and, where
-- it stopped by a fault, that. Its growths are numbered as it made them.
pub record HasGrown {R : Type 0} (width : ℕ) (live : Phase R) (count : ℕ) (block : ℕ → List R) (id : ℕ) (seat : Seated R) (receipts : List Receipt) (fault : Option GrowFault) : Type 0 where
  pub of : IsSeatOf live seat
  pub id_is : seat.id ≡ id
  pub few : length seat.made ≤ count
  pub blocks_are : (k : ℕ) (growth : Growth R) → slice_get seat.made k ≡ Some growth → growth.records ≡ block k
  pub serials_are : (k : ℕ) (growth : Growth R) → slice_get seat.made k ≡ Some growth → growth.serial ≡ k
  pub receipts_are : receipts ≡ map (receipt_of (length (opening_of live))) seat.made
  pub fault_is : IfSome fault (StopsGrower width live count block seat)

-- ---- its gate

-- the growth of that number comes next: the one before it, if there is one, was told
abbrev pub ComesNext : (Receipt → Type 0) → ℕ → Type 0
ComesNext was_told k = (before : ℕ) → before + 1 ≡ k → (receipt : Receipt) × (receipt.serial ≡ before) × was_told receipt

-- A grower with these receipts has heeded its gate: it was let make each of its growths, and told each. Where it stopped by a
-- fault, it was let make the next one too, unless it had no thread: then it made none.
pub record HeedsGate (has_let : ℕ → Type 0) (was_told : Receipt → Type 0) (receipts : List Receipt) (fault : Option GrowFault) : Type 0 where
  pub each_let : (k : ℕ) → k < length receipts → has_let k
  pub each_told : All was_told receipts
  pub stop_let : IfSome fault (λ why. has_let (length receipts) ⊎ ((why ≡ Memory) × (receipts ≡ [])))

-- It has come home: all of its growths are made, unless it stopped by a fault, or its gate might stop it before the next one.
pub record HasCome {R : Type 0} (width : ℕ) (live : Phase R) (count : ℕ) (block : ℕ → List R) (may_stop : ℕ → Type 0) (has_let : ℕ → Type 0)
    (was_told : Receipt → Type 0) (id : ℕ) (seat : Seated R) (receipts : List Receipt) (fault : Option GrowFault) : Type 0 where
  pub grown : HasGrown width live count block id seat receipts fault
  pub all_made : fault ≡ None → (length seat.made ≡ count) ⊎ may_stop (length seat.made)
  pub heeds : HeedsGate has_let was_told receipts fault

-- ---- all of them

-- what a grower was sent for: by which number it grows in which phase by which source, and which gate it asks
pub record SentOf (R S G : Type 0) : Type 0 where
  pub live : Phase R
  pub source : S
  pub gate : G
  pub grower : ℕ

-- Growers that were sent out, the last of n first: that at place k is grower n - 1 - k.
abbrev pub AreSent : {R S G : Type 0} → Phase R → S → G → ℕ → List (SentOf R S G) → Type 0
AreSent {R} {S} {G} live source gate n sent = (k : ℕ) (s : SentOf R S G) → slice_get sent k ≡ Some s → (s.live ≡ live) × (s.source ≡ source)
    × (s.gate ≡ gate) × (s.grower + k + 1 ≡ n)

-- the growers from 0 up to n have come home, each with its seat, its receipts and its fault
pub record IsGrowerHome {R : Type 0} (width : ℕ) (live : Phase R) (count : ℕ → ℕ) (block : ℕ → ℕ → List R) (may_stop : ℕ → ℕ → Type 0) (has_let : ℕ → ℕ → Type 0)
    (was_told : ℕ → Receipt → Type 0) (seats : List (Seated R)) (receipts : List (List Receipt)) (faults : List (Option GrowFault)) (k : ℕ) : Type 0 where
  pub seat : Seated R
  pub seat_is : slice_get seats k ≡ Some seat
  pub its : List Receipt
  pub its_are : slice_get receipts k ≡ Some its
  pub fault : Option GrowFault
  pub fault_is : slice_get faults k ≡ Some fault
  pub come : HasCome width live (count k) (block k) (may_stop k) (has_let k) (was_told k) k seat its fault

pub record AreHome {R : Type 0} (width : ℕ) (live : Phase R) (count : ℕ → ℕ) (block : ℕ → ℕ → List R) (may_stop : ℕ → ℕ → Type 0) (has_let : ℕ → ℕ → Type 0)
    (was_told : ℕ → Receipt → Type 0) (n : ℕ) (seats : List (Seated R)) (receipts : List (List Receipt)) (faults : List (Option GrowFault)) : Type 0 where
  pub as_many_seats : length seats ≡ n
  pub as_many_receipts : length receipts ≡ n
  pub as_many_faults : length faults ≡ n
  pub each : (k : ℕ) → k < n → IsGrowerHome width live count block may_stop has_let was_told seats receipts faults k

-- the room of a crew's phase: a growth for each block, and one at least
abbrev pub crew_room : (ℕ → ℕ) → ℕ → ℕ
crew_room count n = max 1 (counts_to count n)

-- Number k strayed for the grower of that id: it is in the room, and of the growths those before it are known, with all of
-- the grower's own.
pub record IsStrayFor {R : Type 0} (room id : ℕ) (growths : List (Growth R)) (k : ℕ) : Type 0 where
  pub inside : k < room
  pub known : k ≤ length growths
  pub behind_its_own : own_of id (take k growths) ≡ own_of id growths

-- Why the grower of that id made no more growths than m, where these were made in all, and the vector has in the end so many
-- records: memory was refused, that of its thread among it; or, of the block that is named for it next, that it has no record,
-- or more than a frame holds, or more than the vector had room for; or the book refused it, since it was closed, or the room
-- was filled, or a number strayed.
abbrev pub IsReason : {R : Type 0} → ℕ → ℕ → ℕ → ℕ → (ℕ → List R) → ℕ → List (Growth R) → ℕ → GrowFault → Type 0
IsReason width room size count block id growths m Closed = m < count
IsReason width room size count block id growths m Full = (m < count) × (room ≤ length growths)
IsReason width room size count block id growths m TooLong = (m < count) × (record_limit < size + length (block m))
IsReason width room size count block id growths m (Strayed k) = (m < count) × IsStrayFor room id growths k
IsReason width room size count block id growths m Memory = MayStarve count m
IsReason width room size count block id growths m Empty = (m < count) × (length (block m) ≡ 0)
IsReason width room size count block id growths m TooLarge = (m < count) × (payload_limit < payload_len width (length (block m)))

-- What comes of a crew of n growers. The vault's list is the old one, and behind it the growths that were made, one after
-- the other; each was made by one of the growers. Those of a grower have the first of the blocks that are named for it, in
-- order, and its receipts are theirs: so each growth has one receipt, and stands where that says. A grower without a fault made
-- all of its growths, unless its gate might stop it before the next one.
pub record IsCrewed {R D : Type 0} (width : ℕ) (count : ℕ → ℕ) (block : ℕ → ℕ → List R) (may_stop : ℕ → ℕ → Type 0) (n : ℕ) (old new : VaultOf R D)
    (receipts : List (List Receipt)) (faults : List (Option GrowFault)) (growths : List (Growth R)) : Type 0 where
  pub list_is : list_of new ≡ list_of old ++ grown_records growths
  pub chained : IsChained growths
  pub by_growers : All (λ growth. growth.seat < n) growths
  pub as_many : (length receipts ≡ n) × (length faults ≡ n)
  pub few : (k : ℕ) → k < n → length (own_of k growths) ≤ count k
  pub blocks_are : (k j : ℕ) (growth : Growth R) → k < n → slice_get (own_of k growths) j ≡ Some growth → growth.records ≡ block k j
  pub serials_are : (k j : ℕ) (growth : Growth R) → k < n → slice_get (own_of k growths) j ≡ Some growth → growth.serial ≡ j
  pub receipts_are : (k : ℕ) → k < n → slice_get receipts k ≡ Some (map (receipt_of (length (list_of old))) (own_of k growths))
  pub all_made : (k : ℕ) → k < n → slice_get faults k ≡ Some None → (length (own_of k growths) ≡ count k) ⊎ may_stop k (length (own_of k growths))
  pub faults_are : (k : ℕ) (fault : GrowFault) → k < n → slice_get faults k ≡ Some (Some fault)
      → IsReason width (crew_room count n) (length (list_of new)) (count k) (block k) k growths (length (own_of k growths)) fault

-- The vault that comes back is whole, and whatever a crash may leave now opens to all of its list: so all that was grown is
-- settled. A disk that keeps its model then kept it before.
pub record IsBack {R D : Type 0} (form : Encoding R) (keeps : D → Type 0) (states : D → List State) (old new : VaultOf R D) : Type 0 where
  pub whole : new.pen.broken ≡ false
  pub settled : keeps new.pen.disk → (image : List ℕ) → IsImage (now (states new.pen.disk)) image → OpensTo form image (list_of new)
  pub model : keeps new.pen.disk → keeps old.pen.disk

-- each of the first n growers has heeded the gate
abbrev pub AllHeed : (ℕ → ℕ → Type 0) → (ℕ → Receipt → Type 0) → ℕ → List (List Receipt) → List (Option GrowFault) → Type 0
AllHeed has_let was_told n receipts faults = (k : ℕ) (its : List Receipt) (fault : Option GrowFault) → k < n → slice_get receipts k ≡ Some its
    → slice_get faults k ≡ Some fault → HeedsGate (has_let k) (was_told k) its fault

-- Some growths come of a crew, all of them settled, and whatever a crash may have left meanwhile opens to the old list and the
-- first of them, each whole.
abbrev pub HasCrewed : {R D : Type 0} → Encoding R → (D → Type 0) → (D → List State) → (ℕ → ℕ) → (ℕ → ℕ → List R) → (ℕ → ℕ → Type 0) → ℕ → VaultOf R D
    → VaultOf R D → List (List Receipt) → List (Option GrowFault) → Type 0
HasCrewed {R} form keeps states count block may_stop n old new receipts faults =
    (growths : List (Growth R)) × IsCrewed form.width count block may_stop n old new receipts faults growths
    × IsBack form keeps states old new
    × (keeps new.pen.disk → LeavesOnly (states old.pen.disk) (states new.pen.disk) (OpensToGrown form (list_of old) growths))

-- Why a crew of n growers gave no vault: a phase with this room and a seat for each of them wasn't begun, and the vault is as
-- it was; or the phase wasn't ended, and here are its parts, with all seats, over the same blocks, and what a crash may have
-- left meanwhile.
abbrev pub IsCrewFault : {R D : Type 0} → Encoding R → (D → Type 0) → (D → List State) → VaultOf R D → ℕ → ℕ → CrewFault R D → Type 0
IsCrewFault form keeps states vault room n (Share back fault) = (back ≡ vault) × IsShareFault vault room n fault
IsCrewFault form keeps states vault room n (Gather g) =
    (g.live.blocks ≡ vault.blocks) × (g.live.directory.room ≡ room) × (g.live.seat_count ≡ n) × (length g.seats.items ≡ n)
    × (keeps g.flusher.pen.disk → keeps vault.pen.disk) × AreOfPhase (keeps g.flusher.pen.disk) g.live g.seats.items g.flusher × IsGatherFault g.live g.seats.items g.flusher g.fault
    × (keeps g.flusher.pen.disk → LeavesOnly (states vault.pen.disk) (states g.flusher.pen.disk) (OpensToGrown form (list_of vault) g.flusher.pass.entries))
