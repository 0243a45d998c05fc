-- Worked commands over files: what is told of a file, a server and a follower, and the nearest that isn't.
use Rattle.std.proofs.Common.{◌≡◌, ◌≢◌, ℕ, ◌+◌, ◌<◌, inl, inr, true, false, List, [], ◌∷◌, length, All, Some, None, Option, Result, Ok, Err, refl, sym, ap, subst, ◌∙◌, arith}
use Rattle.record_core.specs.Bytes.{Encoding}
use Rattle.disk_core.specs.Calls.{bytes_of}
use Rattle.disk_core.specs.FileDisk.{KeepsSoFar, faults_of, states_of}
use Rattle.segment_core.specs.declared.fault.Cause.TheVariants.{ShortFrame}
use Rattle.segment_core.specs.declared.fault.ScanFault.TheVariants as scans
use Rattle.segment_core.specs.declared.format.Format.{Format}
use Rattle.segment_core.specs.declared.format.Format.TheVariants.{One, Two}
use Rattle.segment_core.specs.declared.format.Shape.{Shape}
use Rattle.segment_core.specs.Frame.{Frame}
use Rattle.pen_core.specs.declared.fault.OpenFault.TheVariants as opens
use Rattle.pen_core.specs.declared.fault.PenFault.TheVariants as pens
use Rattle.vault_core.specs.declared.fault.VaultFault.TheVariants as vaults
use Rattle.vault_core.specs.declared.upgrading.UpgradeFault.TheVariants as upgrades
use Rattle.beside_core.specs.PensFile.{IsPensFile}
use Rattle.beside_core.specs.declared.fault.LookFault.TheVariants as look_faults
use Rattle.beside_core.specs.declared.since.Loss.TheVariants as losses
use Rattle.follow_core.specs.declared.ended.FollowEnd.{FollowEnd}
use Rattle.follow_core.specs.declared.ended.FollowEnd.TheVariants as follows
use Rattle.follow_core.specs.declared.ended.LookEnd.TheVariants as looks
use Rattle.text_core.specs.Text.{Spelling}
use Rattle.text_core.specs.declared.refusal.Refusal.TheVariants as refusals
use Rattle.text_core.specs.declared.status.Status.{Status}
use Rattle.text_core.specs.declared.status.Status.TheVariants as statuses
use Rattle.files_core.specs.SoundFront.{IsSoundFront}
use Rattle.files_core.specs.Vacant.{IsVacantFor}
use Rattle.files_core.specs.declared.ended.Ended.TheVariants.{Done, OutputFailed, Refused}
use Rattle.files_core.specs.declared.fault.FileFault.{FileFault}
use Rattle.files_core.specs.declared.fault.FileFault.TheVariants as faults
use Rattle.follow_core.specs.Followed.{MayEndBy}
use Rattle.serve_core.specs.Clients.{LeavesClients}
use Rattle.serve_core.specs.declared.fault.ServeFault.{ServeFault}
use Rattle.serve_core.specs.declared.fault.ServeFault.TheVariants as serves
use Rattle.sentences.specs.declared.beside.BesideFault.TheVariants as besides
use Rattle.sentences.specs.declared.complaint.Complaint.{Complaint}
use Rattle.sentences.specs.declared.complaint.Complaint.TheVariants as complaints
use Rattle.sentences.specs.declared.role.Role.TheVariants as roles
use Rattle.filing_core.specs.declared.polling.Looks.TheVariants.{Once, Each}
use Rattle.filing_core.specs.Asked.{IsNoWindow, IsWindow}
use Rattle.filing_core.specs.Beside.{Foreign, IsFollowDone, IsFollowStatus, IsJustShared, IsLeftShared, IsLookStatus, copy_complaint, look_complaint, looks_asked, MayRest}
use Rattle.filing_core.specs.Commands.{HasServed, IsOccupied, IsPlaceTaken, MayBeMadeOn, unknown}
use Rattle.filing_core.specs.Complaints.{Disk, IsComplaintOf, IsLeftAlone, IsLookedAt, IsRefusedBefore, IsSoundOn, IsStatusOf, IsUnopened, IsUnserved, damage_of, served_fault}
use Rattle.filing_core.specs.Copying.{HadRecords}
use Rattle.filing_core.specs.Releasing.{known_through}
use Rattle.filing_core.specs.Shown.{IsSetShown}

-- ---- files that aren't opened, and pipes that aren't there

unopened : IsUnopened roles.File (complaints.InUse roles.File) × IsUnserved (complaints.Fault (faults.Input refusals.Memory))
unopened = (refl, refl)

not_unopened : (IsUnopened roles.File (complaints.InUse roles.New) → ⊥) × ((fault : FileFault) → IsUnopened roles.File (complaints.Fault fault) → ⊥) × (IsUnserved (complaints.InUse roles.Pipe) → ⊥)
not_unopened = ((λ is. absurd cc), (λ fault is. is), λ is. is)

-- ---- a damaged file

abbrev damaged_at : ℕ → FileFault
damaged_at at = faults.Open (opens.Scan (scans.Damaged at ShortFrame))

damage_is_placed : (damage_of (damaged_at 40) ≡ Some 40) × (damage_of (faults.Upgrade (upgrades.Old (opens.Scan (scans.Damaged 7 ShortFrame)))) ≡ Some 7) × (damage_of (faults.Open (opens.Scan scans.Memory)) ≡ None)
damage_is_placed = (refl, refl, refl)

place_of : (x y : ℕ) → Some x ≡ Some y → x ≡ y
place_of x y is = cc

module _ {R : Type 0} (form : Encoding R) (left last : Disk) (sound at : ℕ) where
  sound_is_told : IsLookedAt left last → IsSoundFront form (bytes_of (states_of left)) at sound → IsComplaintOf form left (damaged_at at) (complaints.Damaged sound (damaged_at at))
  sound_is_told looked front = (refl, last, record { at = at; damaged = refl; looked = looked; front = λ keeps. front })

  -- a number of records that aren't sound isn't
  no_other_number : KeepsSoFar last → (IsSoundFront form (bytes_of (states_of left)) at sound → ⊥) → IsSoundOn form left last (damaged_at at) sound → ⊥
  no_other_number keeps unsound is = unsound (subst (λ (n : ℕ). IsSoundFront form (bytes_of (states_of left)) n sound) (sym (place_of at is.at is.damaged)) (is.front keeps))

  -- nor of another disk than that which was left
  of_the_disk : (is : IsComplaintOf form left (damaged_at at) (complaints.Damaged sound (damaged_at at))) → (faults_of is.1 ≡ faults_of left) × (KeepsSoFar is.1 → KeepsSoFar left)
  of_the_disk is = (is.2.looked.no_fault, is.2.looked.model)

  -- one that isn't damaged has no number
  none_of_memory : (fault : FileFault) → damage_of fault ≡ None → IsComplaintOf form left fault (complaints.Damaged sound fault) → ⊥
  none_of_memory fault none is = absurd (let some = sym none ∙ is.2.damaged in cc)

  not_of_another_fault : IsComplaintOf form left (damaged_at at) (complaints.Fault (faults.Input refusals.Memory)) → ⊥
  not_of_another_fault is = absurd cc

-- ---- where something stands

module _ {R : Type 0} (form : Encoding R) (format : Option Format) (disk asked : Disk) where
  occupied : IsLookedAt disk asked → (IsVacantFor format form.width (bytes_of (states_of disk)) → ⊥) → IsOccupied form format disk asked pens.Exists
  occupied looked other = inl (refl, looked, λ keeps. other)

  -- where nothing does, none is told
  not_where_nothing_stands : KeepsSoFar asked → IsVacantFor format form.width (bytes_of (states_of disk)) → IsOccupied form format disk asked pens.Exists → ⊥
  not_where_nothing_stands keeps vacant (inl is) = is.2 keeps vacant
  not_where_nothing_stands keeps vacant (inr failed) = absurd (let is = failed.1 in cc)

  -- nor where that couldn't be asked
  not_by_a_failed_call : faults_of asked ≡ faults_of disk + 1 → IsOccupied form format disk asked pens.Exists → ⊥
  not_by_a_failed_call one (inl is) = absurd (let none = is.1.no_fault in omega (arith, one, none))
  not_by_a_failed_call one (inr failed) = absurd (let is = failed.1 in cc)

  no_other_fault : IsOccupied form format disk asked pens.Memory → ⊥
  no_other_fault (inl is) = absurd (let named = is.0 in cc)
  no_other_fault (inr failed) = absurd (let is = failed.1 in cc)

  -- and a file may be made where it is vacant, or where the words say so, of the same disk
  made_where_vacant : KeepsSoFar asked → MayBeMadeOn form format false disk asked → IsVacantFor format form.width (bytes_of (states_of disk))
  made_where_vacant keeps may = may.1 keeps

  made_over : MayBeMadeOn form format true disk disk × (disk ≢ asked → MayBeMadeOn form format true asked disk → ⊥)
  made_over = (refl, λ differs is. differs is)

taken_over_none : {R : Type 0} (form : Encoding R) (fault : FileFault) → IsPlaceTaken form One true fault → ⊥
taken_over_none form fault taken = taken

-- ---- how commands end

abbrev NoComplaint : FileFault → Complaint → Type 0
NoComplaint fault complaint = ⊥

module _ (old new : Option (List ℕ)) where
  ended : IsStatusOf NoComplaint Done (Ok statuses.Done) × IsStatusOf NoComplaint OutputFailed (Ok statuses.OutputFailed) × IsLookStatus looks.Done (Ok statuses.Done) × IsFollowStatus follows.Ended (Ok statuses.Done)
  ended = (refl, refl, refl, refl)

  not_ended : (IsStatusOf NoComplaint Done (Ok statuses.OutputFailed) → ⊥) × (IsStatusOf NoComplaint (Refused (damaged_at 3)) (Ok statuses.Done) → ⊥) × (IsLookStatus looks.OutputFailed (Ok statuses.Done) → ⊥)
      × (IsFollowStatus follows.Replaced (Ok statuses.Done) → ⊥) × (IsFollowStatus (follows.Lost (losses.Changed 3)) (Err (complaints.Beside (besides.Shorter 3))) → ⊥)
  not_ended = ((λ is. absurd cc), (λ is. is.2), (λ is. absurd cc), (λ is. elim is [ inl one ↦ absurd cc | inr two ↦ absurd cc ]), λ is. absurd cc)

  -- what is refused before an engine is called is told
  not_done : ((IsReason : FileFault → Type 0) → IsRefusedBefore old new (Ok statuses.Done) IsReason → ⊥) × ((IsWhy : Complaint → Type 0) → IsLeftAlone old new (Ok statuses.Done) IsWhy → ⊥)
  not_done = ((λ IsReason is. absurd (let told = is.told in cc)), λ IsWhy is. absurd (let told = is.told in cc))

  looked : (look_complaint look_faults.Memory ≡ complaints.Fault (faults.Open (opens.Scan scans.Memory))) × (copy_complaint look_faults.Memory ≡ complaints.Fault (faults.Upgrade (upgrades.Old (opens.Scan scans.Memory))))
  looked = (refl, refl)

-- nothing was written before a refusal
quiet : (IsWhy : Complaint → Type 0) (filed : Result Status Complaint) → IsLeftAlone (Some []) (Some (49 ∷ [])) filed IsWhy → ⊥
quiet IsWhy filed is = absurd (let same = is.quiet in cc)

-- ---- `follow`: one look ends it, and looks that come again and again don't

module _ (file left : Foreign) (Has : Foreign → Foreign → FollowEnd → Type 0) (opened : IsJustShared file) (stays : IsLeftShared file left) where
  one_look : Has file left follows.Ended → IsFollowDone (Ok statuses.Done) Once Has
  one_look has = record { file = file; left = left; end = follows.Ended; opened = opened; stays = stays; engine = has; paused = tt; told = refl }

  replaced : Has file left follows.Replaced → IsFollowDone (Err (complaints.Beside besides.Cut)) (Each 5) Has
  replaced has = record { file = file; left = left; end = follows.Replaced; opened = opened; stays = stays; engine = has; paused = tt; told = inr refl }

  ends_for_no_reason : (n : ℕ) → IsFollowDone (Ok statuses.Done) (Each n) Has → ⊥
  ends_for_no_reason n done = by_end done.end done.paused done.told
    where
      by_end : (end : FollowEnd) → MayEndBy (MayRest (Each n)) end → IsFollowStatus end (Ok statuses.Done) → ⊥
      by_end follows.Ended may told = may
      by_end follows.OutputFailed may told = absurd cc
      by_end (follows.Lost loss) may told = absurd cc
      by_end (follows.Refused fault) may told = absurd cc
      by_end follows.Replaced may told = elim told [ inl one ↦ absurd cc | inr two ↦ absurd cc ]

  not_replaced_by_one_look : IsFollowDone (Err (complaints.Beside besides.Replaced)) Once Has → ⊥
  not_replaced_by_one_look done = by_end done.end done.paused done.told
    where
      by_end : (end : FollowEnd) → MayEndBy (MayRest Once) end → IsFollowStatus end (Err (complaints.Beside besides.Replaced)) → ⊥
      by_end follows.Ended may told = absurd cc
      by_end follows.OutputFailed may told = absurd cc
      by_end (follows.Lost (losses.Changed i)) may told = absurd cc
      by_end (follows.Lost (losses.Shorter n)) may told = absurd cc
      by_end (follows.Refused (look_faults.NoRecord i)) may told = absurd cc
      by_end (follows.Refused (look_faults.Disk fault)) may told = absurd cc
      by_end (follows.Refused (look_faults.Scan fault)) may told = absurd cc
      by_end (follows.Refused look_faults.TooFar) may told = absurd cc
      by_end (follows.Refused look_faults.Memory) may told = absurd cc
      by_end follows.Replaced may told = may

asked_looks : (looks_asked 5 true ≡ Once) × (looks_asked 5 false ≡ Each 5) × (looks_asked 5 false ≡ Each 6 → ⊥)
asked_looks = (refl, refl, λ is. absurd (let same = millis_of 5 6 is in omega (arith, same)))
  where
    millis_of : (x y : ℕ) → Each x ≡ Each y → x ≡ y
    millis_of x y is = cc

-- ---- `serve`

-- none has a number below none
none_below : {G : Type 0} {n : ℕ} → n ≡ 0 → (all : List G) (number_of : G → ℕ) → All (λ e. number_of e < n) all → length all ≡ 0
none_below none [] number_of below = refl
none_below none (e ∷ rest) number_of below = absurd (let lt = below 0 e (omega arith) in omega (arith, lt, none))

module _ {R : Type 0} (form : Encoding R) (old new : Option (List ℕ)) (filed : Result Status Complaint) where
  -- each client has its pair of pipes, and a file that keeps the model did so before
  of_two : (has : HasServed form old new filed 2) → (length has.pipes ≡ 2) × (KeepsSoFar has.left → KeepsSoFar has.disk)
  of_two has = (has.as_many, has.model)

  -- clients that aren't there have grown nothing
  none_by_none : (has : HasServed form old new filed 0) → KeepsSoFar has.left → has.served ≡ Ok tt → has.growths ≡ 0
  none_by_none has keeps is = by_result has.served (has.theirs keeps) is
    where
      by_result : (result : Result (Unit {0}) ServeFault) → LeavesClients form states_of unknown unknown has.pipes has.disk has.left has.growths result → result ≡ Ok tt → has.growths ≡ 0
      by_result (Ok x) leaves same = leaves.1 ∙ none_below has.as_many leaves.0.served.growths (λ e. e.seat) leaves.2.by_growers
      by_result (Err fault) leaves same = absurd cc

served_faults : (served_fault serves.Thread ≡ faults.Input refusals.Memory) × (served_fault (serves.Share vaults.WrongPhase) ≡ faults.Vault vaults.WrongPhase)
served_faults = (refl, refl)

-- ---- words that are asked for

whole_window : IsWindow None None (record { from = 0; count = 18446744073709551615 }) × (IsWindow None None (record { from = 1; count = 18446744073709551615 }) → ⊥) × ((fault : FileFault) → IsNoWindow None None fault → ⊥)
whole_window = ((refl, refl), (λ is. absurd (let from = is.0 in omega (arith, from))), λ fault is. elim is [ inl from ↦ from.1 | inr count ↦ count.2 ])

-- ---- a copy, what is shown, and a writer with a lock

not_of_another_version : {R : Type 0} (form : Encoding R) (held : ℕ → List ℕ) (shape : Shape) (frames : ℕ → List Frame) → IsPensFile shape held frames → shape.format ≡ One
    → HadRecords form (Unit {0}) held 0 1 1 Two [] → ⊥
not_of_another_version form held shape frames file one had = absurd (let two = (had tt shape frames file).0 in let both = sym one ∙ two in cc)

shown_of_a_word : {R : Type 0} (spelling : Spelling R) (filed : Result Status Complaint) → IsSetShown spelling (Some []) None filed None
shown_of_a_word spelling filed = refl

through : (known_through 3 (Some (5 ∷ [])) ≡ Some (3 ∷ 5 ∷ [])) × (known_through 3 None ≡ None)
through = (refl, refl)
