-- Growths that are appended to a file by a crew.
use Rattle.std.specs.Prelude.{◌≡◌, ◌⊎◌, ℕ, ◌+◌, ◌-◌, ◌*◌, ◌^◌, ◌<◌, ◌≤◌, min, Option, List, [], ◌∷◌, ◌++◌, length, All, Some, slice_get}
use Rattle.record_core.specs.Bytes.{Encoding}
use Rattle.disk_core.specs.State.{State, now, IsImage}
use Rattle.disk_core.specs.Calls.{bytes_of}
use Rattle.disk_core.specs.Moments.{LeavesOnly}
use Rattle.std.specs.Global.{Vec}
use Rattle.block_core.specs.Growth.{Growth}
use Rattle.book_core.specs.declared.seat.Receipt.{Receipt}
use Rattle.book_core.specs.declared.fault.GrowFault.{GrowFault}
use Rattle.book_core.specs.declared.fault.GrowFault.TheVariants.{Closed}
use Rattle.directory_core.specs.Chain.{grown_records, IsChained}
use Rattle.book_core.specs.Lists.{Phase, Seated, own_of}
use Rattle.flush_core.specs.Flusher.{FlusherOf}
use Rattle.pen_core.specs.Typed.{OpensTo}
use Rattle.pen_core.specs.declared.fault.PenFault.TheVariants.{TooLarge}
use Rattle.vault_core.specs.declared.fault.VaultFault.{VaultFault}
use Rattle.vault_core.specs.declared.fault.VaultFault.TheVariants.{Pen}
use Rattle.vault_core.specs.Gathering.{AreOfPhase, IsGatherFault}
use Rattle.vault_core.specs.Sharing.{IsShareFault, OpensToGrown}
use Rattle.vault_core.specs.Vault.{VaultOf, list_of}
use Rattle.crew_core.specs.declared.crewing.CrewFault.{CrewFault}
use Rattle.crew_core.specs.declared.crewing.CrewFault.TheVariants.{Share, Gather}
use Rattle.crew_core.specs.Crewing.{IsReason, crew_room}
use Rattle.files_core.specs.declared.fault.FileFault.{FileFault}
use Rattle.files_core.specs.declared.fault.Stopped.{Stopped}
use Rattle.files_core.specs.declared.fault.FileFault.TheVariants.{Word, Input, Open, Vault, Grower, Upgrade}
use Rattle.files_core.specs.declared.appended.Appended.{Appended}
use Rattle.segment_core.specs.Written.{joined}
use Rattle.load_core.specs.Appending.{nothing_appended}
use Rattle.load_core.specs.Dealt.{behind_slice, count_for, dealt, slice_limit, slice_of}
use Rattle.files_core.specs.Opened.{IsNotOpened, IsOpenedOn, LeavesBeforeOr}

-- Some growths were made by the growers, one behind the other: those of a grower have the first of the growths that are
-- dealt to it, in order.
pub record AreDealt {R : Type 0} (growths : List (List R)) (growers : ℕ) (made : List (Growth R)) : Type 0 where
  pub chained : IsChained made
  pub by_growers : All (λ growth. growth.seat < growers) made
  pub records_are : (grower j : ℕ) (growth : Growth R) → grower < growers → slice_get (own_of grower made) j ≡ Some growth → growth.records ≡ dealt growths growers grower j

-- a source of so many growers deals them so
pub record AreDealtBy {R : Type 0} (growths : List (List R)) (growers : ℕ) (of : ℕ) (count : ℕ → ℕ) (block : ℕ → ℕ → List R) : Type 0 where
  pub growers_are : of ≡ growers
  pub counts_are : count ≡ count_for (length growths) growers
  pub blocks_are : block ≡ dealt growths growers

-- all of them were made
abbrev pub AllMade : {R : Type 0} → List (List R) → ℕ → List (Growth R) → Type 0
AllMade growths growers made = (grower : ℕ) → grower < growers → length (own_of grower made) ≡ count_for (length growths) growers grower

-- a phase takes these growths
abbrev pub IsSlice : {R : Type 0} → ℕ → List (List R) → Type 0
IsSlice growers growths = length growths ≤ slice_limit growers

-- Phases of so many growers, one behind the other, have made the first of some growths, each as many as a phase takes, and
-- these are left.
abbrev pub AreMadeBy : {R : Type 0} → ℕ → List (List R) → List (List (Growth R)) → List (List R) → Type 0
AreMadeBy growers growths [] left = left ≡ growths
AreMadeBy growers growths (made ∷ phases) left =
    AreDealt (slice_of growers growths) growers made × AllMade (slice_of growers growths) growers made × AreMadeBy growers (behind_slice growers growths) phases left

-- behind so many lines before the phase, the growth that a grower didn't make, which had made so many of growers as many as these,
-- has this line
abbrev pub line_behind : ℕ → ℕ → ℕ → ℕ → ℕ
line_behind before growers grower made = min (2 ^ 64 - 1) (before + (made * growers + (grower + 1)))

-- One of so many growers stopped: by the fault that it has, or with fewer receipts than growths were named for it.
pub record IsFirstStop (before growers : ℕ) (count : ℕ → ℕ) (receipts : List (Vec Receipt)) (faults : List (Option GrowFault)) (stopped : Stopped) : Type 0 where
  pub inside : stopped.grower < growers
  pub its : Vec Receipt
  pub its_are : slice_get receipts stopped.grower ≡ Some its
  pub why : (slice_get faults stopped.grower ≡ Some (Some stopped.fault)) ⊎ ((stopped.fault ≡ Closed) × (length its.items < count stopped.grower))
  pub line_is : stopped.line ≡ line_behind before growers stopped.grower (length its.items)

-- why the grower that is told didn't make its next growth, where these were made of growths that were dealt
abbrev pub IsStopReason : {R : Type 0} → ℕ → List (List R) → ℕ → List (Growth R) → Stopped → Type 0
IsStopReason width growths growers made stopped =
    IsReason width (crew_room (count_for (length growths) growers) growers) stopped.size (count_for (length growths) growers stopped.grower)
    (dealt growths growers stopped.grower) stopped.grower made (length (own_of stopped.grower made)) stopped.fault

-- The grower that is told stopped, behind so many lines before the phase: its first growth that wasn't made has that line, and
-- that is why it wasn't.
pub record IsStopOf {R : Type 0} (width before : ℕ) (growths : List (List R)) (growers : ℕ) (made : List (Growth R)) (stopped : Stopped) : Type 0 where
  pub inside : stopped.grower < growers
  pub line_is : stopped.line ≡ line_behind before growers stopped.grower (length (own_of stopped.grower made))
  pub why : IsStopReason width growths growers made stopped

-- Why no phase of so many growers was begun over a vault: there is no grower; or none with a seat for each is begun over it,
-- whatever room it has.
abbrev pub IsLoadNotBegun : {R D : Type 0} → ℕ → VaultOf R D → VaultFault → Type 0
IsLoadNotBegun growers v fault = ((fault ≡ Pen TooLarge) × (growers ≡ 0)) ⊎ IsShareFault v 1 growers fault

-- Why these growths gave no vault, though their phase was begun: it was of so many growers and had room for so many growths, these
-- are what its flusher knows, whose disk is given back, and it wasn't ended.
pub record IsNotEnded {R D : Type 0} (keeps : D → Type 0) (count growers : ℕ) (left : D) (made : List (Growth R)) (fault : VaultFault) : Type 0 where
  pub live : Phase R
  pub seats : List (Seated R)
  pub flusher : FlusherOf R D
  pub room_is : live.directory.room ≡ crew_room (count_for count growers) growers
  pub as_many : length seats ≡ growers
  pub parts : AreOfPhase (keeps left) live seats flusher
  pub disk_is : flusher.pen.disk ≡ left
  pub made_are : flusher.pass.entries ≡ made
  pub why : IsGatherFault live seats flusher fault

-- a crew that gave no vault left this disk, and that is told of it
abbrev pub IsGivenUp : {R D : Type 0} → CrewFault R D → D → FileFault → Type 0
IsGivenUp (Share v fault) left told = (left ≡ v.pen.disk) × (told ≡ Vault fault)
IsGivenUp (Gather g) left told = (left ≡ g.flusher.pen.disk) × (told ≡ Vault g.fault)

module _ {R D : Type 0} (form : Encoding R) (keeps : D → Type 0) (states : D → List State) where
  -- Growths stand behind a vault's list, all of them settled, and each image that a crash may have left meanwhile opens to
  -- the list and the first of them, each whole.
  pub record StandBehind (v : VaultOf R D) (left : D) (made : List (Growth R)) : Type 0 where
    pub images : keeps left → LeavesOnly (states v.pen.disk) (states left) (OpensToGrown form (list_of v) made)
    pub settled : keeps left → (image : List ℕ) → IsImage (now (states left)) image → OpensTo form image (list_of v ++ grown_records made)
    pub model : keeps left → keeps v.pen.disk

  -- What stands where a crew gave no vault, or not all growths of a slice were made, behind so many lines: nothing was begun; or
  -- each image opens to the list and the first of some growths.
  abbrev pub IsGrowthStop : ℕ → List (List R) → ℕ → VaultOf R D → D → FileFault → Type 0
  IsGrowthStop before growths growers v left (Vault fault) =
      ((left ≡ v.pen.disk) × IsLoadNotBegun growers v fault)
      ⊎ ((made : List (Growth R)) × IsNotEnded keeps (length growths) growers left made fault
      × (keeps left → keeps v.pen.disk × LeavesOnly (states v.pen.disk) (states left) (OpensToGrown form (list_of v) made)))
  IsGrowthStop before growths growers v left (Grower stopped) = (made : List (Growth R)) × AreDealt growths growers made × StandBehind v left made
      × (stopped.size ≡ length (list_of v ++ grown_records made)) × IsStopOf form.width before growths growers made stopped
  IsGrowthStop before growths growers v left (Open fault) = ⊥
  IsGrowthStop before growths growers v left (Word word) = ⊥
  IsGrowthStop before growths growers v left (Input refusal) = ⊥
  IsGrowthStop before growths growers v left (Upgrade fault) = ⊥

-- The file had a list, and growths were appended to it: each image meanwhile opens to the list and the first of them, and
-- each that a crash may leave now to all of them.
pub record Appends {R D : Type 0} (form : Encoding R) (states : D → List State) (disk left : D) (was : List R) (made : List (Growth R)) : Type 0 where
  pub file : OpensTo form (bytes_of (states disk)) was
  pub images : LeavesBeforeOr (states disk) (states left) (OpensToGrown form was made)
  pub settled : (image : List ℕ) → IsImage (now (states left)) image → OpensTo form image (was ++ grown_records made)

-- Growths of phases were appended, and of the next phase these may stand: each image meanwhile opens to the list and the first of
-- them all, and behind a phase each that a crash may leave now has all growths of the phases.
pub record MayAppend {R D : Type 0} (form : Encoding R) (states : D → List State) (disk left : D) (was : List R) (phases : List (List (Growth R))) (made : List (Growth R)) : Type 0 where
  pub file : OpensTo form (bytes_of (states disk)) was
  pub images : LeavesBeforeOr (states disk) (states left) (OpensToGrown form was (joined phases ++ made))
  pub settled : 0 < length phases → (image : List ℕ) → IsImage (now (states left)) image → OpensToGrown form (was ++ grown_records (joined phases)) made image

-- Phases behind a list have made the first of some growths, and that is told: so many growths, each of a line, and so many records
-- in all. These are left.
pub record AreToldPhases {R : Type 0} (growths : List (List R)) (growers : ℕ) (was : List R) (phases : List (List (Growth R))) (left : List (List R)) (appended : Appended) : Type 0 where
  pub made_by : AreMadeBy growers growths phases left
  pub growths_are : appended.growths ≡ length growths - length left
  pub lines_are : appended.lines ≡ appended.growths
  pub size_is : appended.size ≡ length (was ++ grown_records (joined phases))

-- So far a vault goes on with the file of a disk behind phases, and these growths are left. Behind none it is as it was opened.
pub record HasLoadedSoFar {R D : Type 0} (form : Encoding R) (keeps : D → Type 0) (states : D → List State) (faults : D → ℕ) (growths : List (List R)) (growers : ℕ)
    (disk : D) (v : VaultOf R D) (left : List (List R)) (appended : Appended) : Type 0 where
  pub was : List R
  pub phases : List (List (Growth R))
  pub told : AreToldPhases growths growers was phases left appended
  pub list_is : list_of v ≡ was ++ grown_records (joined phases)
  pub opened : phases ≡ [] → IsOpenedOn form keeps states faults disk v
  pub stands : keeps v.pen.disk → MayAppend form states disk v.pen.disk was phases []

-- the same behind a phase at least
abbrev pub HasLoadedOn : {R D : Type 0} → Encoding R → (D → Type 0) → (D → List State) → (D → ℕ) → List (List R) → ℕ → D → VaultOf R D → List (List R) → Appended → Type 0
HasLoadedOn form keeps states faults growths growers disk v left appended =
    (so : HasLoadedSoFar form keeps states faults growths growers disk v left appended) × (0 < length so.phases)

-- all growths were appended, by phases, and are told
pub record IsLoaded {R D : Type 0} (form : Encoding R) (keeps : D → Type 0) (states : D → List State) (growths : List (List R)) (growers : ℕ) (disk left : D) (appended : Appended) : Type 0 where
  pub was : List R
  pub phases : List (List (Growth R))
  pub told : AreToldPhases growths growers was phases [] appended
  pub stands : keeps left → Appends form states disk left was (joined phases)

-- Why a vault refused a phase: it wasn't begun over that vault, behind phases or as it was opened, and nothing more was done; or it
-- was, for a slice of so many growths, and these may stand.
abbrev pub IsVaultStop : {R D : Type 0} → Encoding R → (D → Type 0) → (D → List State) → (D → ℕ) → ℕ → ℕ → D → D → List R → List (List (Growth R)) → List (Growth R) → VaultFault → Type 0
IsVaultStop {R} {D} form keeps states faults count growers disk left was phases made fault =
    ((v : VaultOf R D) × (phases ≡ [] → IsOpenedOn form keeps states faults disk v) × (list_of v ≡ was ++ grown_records (joined phases))
    × (left ≡ v.pen.disk) × (made ≡ []) × IsLoadNotBegun growers v fault)
    ⊎ IsNotEnded keeps count growers left made fault

-- Why not: at opening, and then nothing was written; or by the crew of a phase, and then the growths of the phases before it stand,
-- and are told. Behind them some growths of its slice may stand, or, behind a grower's fault, those that were made stand.
abbrev pub IsLoadRefusal : {R D : Type 0} → Encoding R → (D → Type 0) → (D → List State) → (D → ℕ) → List (List R) → ℕ → D → D → Appended → FileFault → Type 0
IsLoadRefusal form keeps states faults growths growers disk left appended (Open fault) = (appended ≡ nothing_appended) × IsNotOpened form keeps states faults disk left fault
IsLoadRefusal {R} form keeps states faults growths growers disk left appended (Vault fault) =
    (was : List R) × (phases : List (List (Growth R))) × (rest : List (List R)) × (made : List (Growth R)) × AreToldPhases growths growers was phases rest appended
    × (keeps left → MayAppend form states disk left was phases made)
    × IsVaultStop form keeps states faults (length (slice_of growers rest)) growers disk left was phases made fault
IsLoadRefusal {R} form keeps states faults growths growers disk left appended (Grower stopped) =
    (was : List R) × (phases : List (List (Growth R))) × (rest : List (List R)) × (made : List (Growth R)) × AreToldPhases growths growers was phases rest appended
    × AreDealt (slice_of growers rest) growers made × (keeps left → Appends form states disk left was (joined phases ++ made))
    × (stopped.size ≡ length (was ++ grown_records (joined phases ++ made))) × IsStopOf form.width appended.lines (slice_of growers rest) growers made stopped
IsLoadRefusal form keeps states faults growths growers disk left appended (Word word) = ⊥
IsLoadRefusal form keeps states faults growths growers disk left appended (Input refusal) = ⊥
IsLoadRefusal form keeps states faults growths growers disk left appended (Upgrade fault) = ⊥
