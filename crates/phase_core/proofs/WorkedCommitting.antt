-- Worked examples: what committing, ending, lending and the commands of a vault make of it, and what isn't so.
use Rattle.std.proofs.Common.{◌≡◌, ℕ, ◌-◌, ◌==◌, if◌then◌else◌, ◌<◌, Bool, true, false, List, [], ◌∷◌, length, length-append, Ok, None, inl, inr, refl, ap, sym, ◌∙◌, arith}
use Rattle.std.specs.Prelude.{replicate}
use Rattle.std.specs.Arc.{arc_value}
use Rattle.std.specs.declared.cmp.PartialEq as PartialEq
use Rattle.record_core.specs.declared.record.Record as Record
use Rattle.record_core.specs.Bytes.{Encoding}
use Rattle.disk_core.specs.State.{State, now, IsImage}
use Rattle.disk_core.specs.Moments.{clock, states_at}
use Rattle.disk_core.specs.FileDisk.{KeepsSoFar, faults_of}
use Rattle.disk_core.specs.declared.disk.Disk.{Ghosts}
use Rattle.disk_core.specs.declared.fault.DiskFault.{DiskFault}
use Rattle.pen_core.specs.declared.fault.OpenFault.{OpenFault}
use Rattle.pen_core.specs.declared.fault.OpenFault.TheVariants as opens
use Rattle.pen_core.specs.declared.fault.PenFault.TheVariants as faults
use Rattle.directory_core.specs.Chain.{grown_records}
use Rattle.book_core.specs.Lists.{opening_of}
use Rattle.flush_core.specs.declared.fault.FlushFault.{FlushFault}
use Rattle.flush_core.specs.declared.fault.FlushFault.TheVariants.{Pen, Strayed}
use Rattle.flush_core.specs.Flusher.{FlusherOf, OpensToFirst}
use Rattle.relay_core.specs.declared.call.Call.{Call}
use Rattle.relay_core.specs.declared.relay_disk.RelayDisk.{RelayDisk}
use Rattle.relay_core.specs.Making.{IsFollowed}
use Rattle.vault_core.specs.Vault.{VaultOf}
use Rattle.phase_core.specs.declared.committer.Committer.{Committer}
use Rattle.phase_core.specs.declared.ending.GatherFault.TheVariants as ends
use Rattle.phase_core.specs.declared.host_vault.HostVault.{HostVault}
use Rattle.phase_core.specs.declared.phase.BeginFault.TheVariants.{Open}
use Rattle.phase_core.specs.declared.phase.Phase.{Phase}
use Rattle.phase_core.specs.Beginning.{IsCreateRefusal, IsLendRefusal, IsNotMade, IsNotOpened}
use Rattle.phase_core.specs.Committing.{GoesOn, HostCommits, IsCallFault, IsUnplanned}
use Rattle.phase_core.specs.Committer.{phase_of}
use Rattle.phase_core.specs.Folding.{Folds}
use Rattle.phase_core.specs.Gathering.{IsGatherFault, Gathers}
use Rattle.phase_core.specs.HostCommands.{IsChange, IsResize}
use Rattle.phase_core.specs.HostVault.{list_of}
use Rattle.phase_core.specs.Listing.{calls_from, IsListLost}
use Rattle.phase_core.specs.Sharing.{Lends}

one_is_no_zero : ◌≡◌ {A = ℕ} 1 0 → ⊥
one_is_no_zero is = absurd (omega (arith, is))

yes_is_no_false : ◌≡◌ {A = Bool} true false → ⊥
yes_is_no_false is = cc

-- ---- why nothing is committed

-- a call of the file has failed, now or before; a growth that strayed is no call, and nor is want of memory
broken : IsCallFault (Pen faults.Broken)
broken = tt

disk_failed : (cause : DiskFault) → IsCallFault (Pen (faults.Disk cause))
disk_failed cause = tt

strayed : (number : ℕ) → IsCallFault (Strayed number) → ⊥
strayed number is = is

no_memory : IsCallFault (Pen faults.Memory) → ⊥
no_memory is = is

module _ {R D : Type 0} (old new : FlusherOf R D) where
  -- nothing more was taken, whatever the fault
  untaken : (fault : FlushFault) → new.taken ≡ old.taken → IsUnplanned fault old new
  untaken fault same = inl same

  -- one more was taken, as by a commit whose call failed
  taken_broken : IsUnplanned (Pen faults.Broken) old new
  taken_broken = inr tt

  -- none is where memory was refused, or a growth strayed
  taken_memory : old.taken ≡ 0 → new.taken ≡ 1 → IsUnplanned (Pen faults.Memory) old new → ⊥
  taken_memory none one why = elim why [ inl same ↦ one_is_no_zero (sym one ∙ same ∙ none) | inr never ↦ never ]

  taken_strayed : (number : ℕ) → old.taken ≡ 0 → new.taken ≡ 1 → IsUnplanned (Strayed number) old new → ⊥
  taken_strayed number none one why = elim why [ inl same ↦ one_is_no_zero (sym one ∙ same ∙ none) | inr never ↦ never ]

  -- who commits tells nobody before the host has made the calls, and forgets no settled growth
  told_early : (form : Encoding R) (keeps : D → Type 0) (states : D → List State) → old.mark.told.count ≡ 0 → new.mark.told.count ≡ 1 → GoesOn form keeps states old new → ⊥
  told_early form keeps states none one goes = one_is_no_zero (sym one ∙ ap (λ mark. mark.told.count) goes.told ∙ none)

  forgotten : (form : Encoding R) (keeps : D → Type 0) (states : D → List State) → old.settled ≡ 1 → new.settled ≡ 0 → GoesOn form keeps states old new → ⊥
  forgotten form keeps states one none goes = let no_less = goes.goes_on.no_less_settled in absurd (omega (arith, one, none, no_less))

  -- nor does its disk leave meanwhile what opens to fewer growths than were settled
  left_fewer : (form : Encoding R) (keeps : D → Type 0) (states : D → List State) → keeps new.pen.disk → GoesOn form keeps states old new → (image : List ℕ)
      → IsImage (now (states new.pen.disk)) image → OpensToFirst form old.settled new image
  left_fewer form keeps states model goes image is = (goes.images model).newest image is

-- ---- the calls that a host hasn't made

module _ {D : Type 0} {disk : Ghosts D} (relay : RelayDisk D disk) where
  -- all of the list, where it began at the moment up to which the host has made its calls; else none of it
  from_there : relay.from ≡ 5 → calls_from 5 relay ≡ relay.calls.items
  from_there is = ap (λ (n : ℕ). if n == 5 then relay.calls.items else []) is

  from_elsewhere : relay.from ≡ 5 → calls_from 7 relay ≡ []
  from_elsewhere is = ap (λ (n : ℕ). if n == 7 then relay.calls.items else []) is

  -- it is known where no call was lost, and the list began there
  known_there : relay.lost ≡ false → relay.from ≡ 5 → IsListLost 5 relay → ⊥
  known_there none is lost = elim lost [ inl some ↦ yes_is_no_false (sym some ∙ none) | inr other ↦ other.0 is ]

-- what a crash leaves of a host's file before the first call of a commit opens to what was settled
left_by_host : {R D : Type 0} (form : Encoding R) (before states file : List State) (made : ℕ) (call : Call) (calls : List Call) (old new : FlusherOf R D)
    → HostCommits form before states made old new → made ≡ clock before → IsFollowed states made (call ∷ calls) → now file ≡ now (states_at made states)
    → (image : List ℕ) → IsImage (now file) image → OpensToFirst form old.settled new image
left_by_host form before states file made call calls old new commits here followed same = (commits here (call ∷ calls) followed file file same (inl refl)).newest

-- ---- a phase that doesn't begin

-- for want of memory, or of room or seats that are none; not for two seats and nine growths, nor as a file is refused
no_memory_to_lend : IsLendRefusal 9 2 faults.Memory
no_memory_to_lend = inl refl

no_room_asked : IsLendRefusal 0 2 faults.TooLarge
no_room_asked = inr (refl, inl refl)

few_enough : IsLendRefusal 9 2 faults.TooLarge → ⊥
few_enough refused = elim refused [
  | inl memory ↦ (let same : faults.TooLarge ≡ faults.Memory = memory in cc)
  | inr large ↦ elim large.1 [
    | inl none ↦ absurd (omega (arith, none))
    | inr rest ↦ elim rest [
      | inl past ↦ absurd (omega (arith, past))
      | inr seats ↦ elim seats [ inl none ↦ absurd (omega (arith, none)) | inr past ↦ absurd (omega (arith, past)) ]
    ]
  ]
]

existing_lent : IsLendRefusal 9 2 faults.Exists → ⊥
existing_lent refused = elim refused [
  | inl memory ↦ (let same : faults.Exists ≡ faults.Memory = memory in cc)
  | inr large ↦ (let same : faults.Exists ≡ faults.TooLarge = large.0 in cc)
]

-- nothing exists where there are no bytes
nothing_exists : (is : IsNotMade [] faults.Exists) → KeepsSoFar is.disk → ⊥
nothing_exists is model = elim (is.exists model refl) [ inl long ↦ absurd (omega (arith, long)) | inr begun ↦ (let long = begun.0 in absurd (omega (arith, long))) ]

-- a call of the file has failed where that is told, and of no other refusal
no_call_failed : {R : Type 0} (form : Encoding R) (bytes : List ℕ) (cause : DiskFault) (is : IsNotOpened form bytes (opens.Disk cause)) → faults_of is.disk ≡ 0 → ⊥
no_call_failed form bytes cause is none = one_is_no_zero (sym is.failed ∙ none)

no_call_of_creation : (bytes : List ℕ) (cause : DiskFault) (is : IsNotMade bytes (faults.Disk cause)) → faults_of is.disk ≡ 0 → ⊥
no_call_of_creation bytes cause is none = one_is_no_zero (sym is.failed ∙ none)

-- a file that is made isn't refused as one that is opened
made_as_opened : (bytes : List ℕ) (fault : OpenFault) → IsCreateRefusal bytes 9 2 (Open fault) → ⊥
made_as_opened bytes fault is = is

-- ---- the end of a phase

module _ {R D : Type 0} (old new : FlusherOf R D) where
  -- a growth that isn't settled is named, the first of them
  unsettled : new.settled ≡ 1 → length new.pass.entries ≡ 2 → IsGatherFault (ends.Unsettled 1) old new
  unsettled one two = (sym one, omega (arith, one, two))

  another_unsettled : new.settled ≡ 1 → IsGatherFault (ends.Unsettled 0) old new → ⊥
  another_unsettled one fault = one_is_no_zero (sym one ∙ sym fault.0)

  -- all settled: none is
  all_settled : new.settled ≡ 1 → length new.pass.entries ≡ 1 → IsGatherFault (ends.Unsettled 1) old new → ⊥
  all_settled one all fault = let less = fault.1 in absurd (omega (arith, one, all, fault.0, less))

  -- one that isn't broken isn't refused as broken
  whole : old.pen.broken ≡ false → IsGatherFault ends.Broken old new → ⊥
  whole is fault = yes_is_no_false (sym fault ∙ is)

module _ {R D : Type 0} {record_of : Record.Ghosts R} {eq_of : PartialEq.Ghosts R} {disk : Ghosts D} (old : Committer R D record_of eq_of disk) (new : HostVault R D disk) where
  -- the vault has no less than the records from before the phase, and then the growths: one that lost them isn't gathered
  lost_growths : 0 < length (opening_of (phase_of old)) → list_of new ≡ [] → Gathers old new → ⊥
  lost_growths some none gathers =
      let all = ap length gathers.list in
      let long = length-append (opening_of (phase_of old)) (grown_records gathers.flusher.pass.entries) in
      absurd (omega (arith, some, ap length none, all, long))

  -- nor one whose host has made other calls
  other_made : old.made ≡ 0 → new.made ≡ 1 → Gathers old new → ⊥
  other_made none one gathers = one_is_no_zero (sym one ∙ gathers.made ∙ none)

-- ---- a vault that is lent

module _ {R D : Type 0} {record_of : Record.Ghosts R} {eq_of : PartialEq.Ghosts R} {disk : Ghosts D} (vault : VaultOf R (RelayDisk D disk)) (phase : Phase R record_of eq_of) (committer : Committer R D record_of eq_of disk) where
  -- what the vault has stands in the phase, and who commits has made what the vault's host had
  lent_elsewhere : Lends vault 1 9 2 phase committer → committer.made ≡ 0 → ⊥
  lent_elsewhere lends none = one_is_no_zero (sym lends.made_same ∙ none)

  lent_without : Lends vault 1 9 2 phase committer → (arc_value phase.live).blocks ≡ [] → length vault.blocks ≡ 1 → ⊥
  lent_without lends none one = one_is_no_zero (sym one ∙ ap length (sym lends.opening ∙ none))

  seats_lost : Lends vault 1 9 2 phase committer → length phase.seats.items ≡ 0 → ⊥
  seats_lost lends none = let two = lends.seats_are in absurd (omega (arith, two, none))

  grown_already : Lends vault 1 9 2 phase committer → committer.flusher.settled ≡ 1 → ⊥
  grown_already lends one = one_is_no_zero (sym one ∙ lends.begins.0)

-- ---- commands

module _ {R D : Type 0} {disk : Ghosts D} (form : Encoding R) (old new : HostVault R D disk) where
  -- a change that is made stands, of as many records
  change_shortens : (x : R) → IsChange form old new (Ok tt) 0 (x ∷ []) → length (list_of old) ≡ 1 → length (list_of new) ≡ 0 → ⊥
  change_shortens x change one none = let written = change.1 (omega arith) in one_is_no_zero (sym one ∙ sym written.same_length ∙ none)

  -- a resize to none leaves none
  resize_keeps : (x : R) → IsResize form old new (Ok tt) 0 x → length (list_of new) ≡ 1 → ⊥
  resize_keeps x resize one =
      let none : 0 - length (list_of old) ≡ 0 = omega arith in
      one_is_no_zero (sym one ∙ ap length resize.1 ∙ ap (λ (k : ℕ). length (replicate k x)) none)

  -- no command counts calls as made
  change_counts : (records : List R) → IsChange form old new (Ok tt) 0 records → old.made ≡ 0 → new.made ≡ 1 → ⊥
  change_counts records change none one = one_is_no_zero (sym one ∙ change.0 ∙ none)

module _ {R D : Type 0} (form : Encoding R) (keeps : D → Type 0) (states : D → List State) (old new : VaultOf R D) where
  -- a fold that leaves something in hand isn't whole, nor one that changes the list
  fold_in_hand : (folded : Bool) → Folds form keeps states folded old new → (new.pen.fold ≡ None → ⊥) → ⊥
  fold_in_hand folded folds in_hand = in_hand folds.idle.1

  fold_changes : (folded : Bool) → Folds form keeps states folded old new → length old.blocks ≡ 0 → length new.blocks ≡ 1 → ⊥
  fold_changes folded folds none one = one_is_no_zero (sym one ∙ ap length (folds.blocks_same) ∙ none)
