-- Files that are made and opened.
use Rattle.std.proofs.Common.{◌≡◌, ◌⊎◌, inl, inr, ℕ, ◌+◌, ◌-◌, ◌≤◌, ◌<◌, ◌^◌, List, [], length, Option, Some, None, refl, sym, ap, subst, ◌∙◌, arith}
use Rattle.std.specs.Prelude.{Ok, Err}
use Rattle.disk_core.specs.Calls.{bytes_of}
use Rattle.disk_core.specs.Moments.{clock}
use Rattle.disk_core.specs.declared.fault.DiskFault.{DiskFault}
use Rattle.disk_core.specs.declared.fault.DiskFault.TheVariants as causes
use Rattle.segment_core.specs.declared.format.Format.{Format}
use Rattle.segment_core.specs.declared.fault.ScanFault.{ScanFault}
use Rattle.segment_core.specs.Shape.{shape_of}
use Rattle.segment_core.specs.declared.format.Shape.{Shape}
use Rattle.std.specs.declared.result.Result.{Result}
use Rattle.segment_core.specs.Written.{joined}
use Rattle.segment_core.specs.Fault.{IsRefused}
use Rattle.pen_core.specs.PenOf.{PenOf}
use Rattle.pen_core.specs.Births.{IsExisting, IsNew, IsCreateFault, StaysUnbornOrEmpty, WritesNothing}
use Rattle.pen_core.specs.Opening.{OnlySyncs, IsAtRest, IsOpened, IsOpenRefusal, AreCallsDone, AreCallsMade, calls_of, failed_openings}
use Rattle.pen_core.specs.Pen.{failed_calls}
use Rattle.pen_core.specs.declared.fault.PenFault.{PenFault}
use Rattle.pen_core.specs.declared.fault.PenFault.TheVariants as pen
use Rattle.pen_core.specs.declared.fault.OpenFault.{OpenFault}
use Rattle.pen_core.specs.declared.fault.OpenFault.TheVariants as openings
use Rattle.drive_core.specs.Line.{of_open}
use Rattle.vault_core.specs.declared.fault.VaultFault.TheVariants as vault
use Rattle.vault_core.specs.Making.{IsMade}
use Rattle.vault_core.specs.Vault.{VaultOf, list_of}
use Rattle.drive_core.specs.declared.fault.StepFault.TheVariants.{Vault, Scan}
use Rattle.drive_core.specs.declared.phase.DrivePhase.TheVariants as hands
use Rattle.drive_core.specs.Medium.{Medium}
use Rattle.drive_core.specs.declared.phase.DrivePhase as code
use Rattle.drive_core.specs.Step.{Step, Answer}
use Rattle.drive_core.specs.Step as step
use Rattle.drive_core.specs.World.{World, File, Hand, DiskOf, hand_of, vector}
use Rattle.drive_core.specs.World as worlds
use Rattle.drive_core.specs.Outcome.{stray_in}
use Rattle.drive_core.specs.OpeningRows.{IsOpening, AreCallsOfOpening, with_opened, empty_file, at_rest, IsMaking, AreCallsOfMaking, HasReadFile}
use Rattle.drive_core.specs.Rows.{ShutRow}
use Rattle.drive_core.specs.Run.{HasCalls}
use Rattle.drive_core.specs.Headline.{HasFile, Rests}
use Rattle.drive_core.specs.Ties.{growths_in_hand, disk_of}
use Rattle.drive_core.specs.VaultTies.{IsExclusive}
use Rattle.drive_core.specs.Phases.{IsPhaseShut, IsWorldLeft, PhaseStep, disk_in}
use Rattle.drive_core.proofs.PhaseEvents.{still_left, left_exclusive, left_shut}
use Rattle.drive_core.proofs.Steps.{at_phase, answered}
use Rattle.drive_core.proofs.VaultEvents.{Holds, vault_rests}

-- no file has so many pieces that they can't be counted
few_pieces : (len n : ℕ) → n ≤ calls_of len → len < 2 ^ 64 → n < 2 ^ 64
few_pieces len n most short = omega (arith, most, short)

module _ {R D : Type 0} {m : Medium R D} {w : World R} {disk : D} (tie : IsPhaseShut m w disk) where
  abbrev calls_to : D → ℕ
  calls_to new = clock (m.states new) - clock (m.states disk)

  -- an event with device calls
  called : {new : code.DrivePhase R D} {asked : Step R} {answer : Answer R} (w' : World R) → ShutRow m.form (m.keeps (disk_in new)) w asked answer w'
      → HasCalls w asked answer (calls_to (disk_in new)) → clock (m.states disk) < clock (m.states (disk_in new)) → calls_to (disk_in new) < 2 ^ 64
      → w'.disk ≡ disk_of m.states m.faults (disk_in new) → w'.strayed ≡ stray_in answer → IsWorldLeft m w' new → (m.keeps (disk_in new) → HasFile w'.phase → Rests m.form w')
      → PhaseStep m w disk new asked answer
  called {new} {asked} {answer} w' row calls some few behind stray left rests = record {
    after = w';
    is_event = record {
      row = at_phase m.form (m.keeps (disk_in new)) w worlds.Shut asked answer w' tie.calm tie.phase_is row;
      called = calls;
      time = (let was = ap (λ (d : DiskOf). clock d.states) tie.disk_is in let is = ap (λ (d : DiskOf). clock d.states) behind in omega (arith, was, is, some));
      still = λ none. absurd (omega (arith, some, none));
    };
    inner = λ kept. record { within = λ more has. absurd (subst HasFile tie.phase_is has); behind = λ more has. rests kept has };
    few = few;
    stray_is = stray;
    tied = left;
  }

  -- the world where only the disk is another
  abbrev with_disk : D → World R
  with_disk new = record w { disk = disk_of m.states m.faults new }

  still_shut : (new : D) → IsWorldLeft m (with_disk new) (hands.Shut new)
  still_shut new = left_shut (record { phase_is = tie.phase_is; calm = tie.calm; disk_is = refl })

  no_file : (new : D) → m.keeps new → HasFile (with_disk new).phase → Rests m.form (with_disk new)
  no_file new kept has = absurd (subst HasFile tie.phase_is has)

  rose : (new : D) → m.faults new ≡ m.faults disk + 1 → w.disk.faults < (with_disk new).disk.faults
  rose new more = let was = ap (λ (d : DiskOf). d.faults) tie.disk_is in omega (arith, more, was)

  states_are : w.disk.states ≡ m.states disk
  states_are = ap (λ (d : DiskOf). d.states) tie.disk_is

  bytes_are : bytes_of w.disk.states ≡ bytes_of (m.states disk)
  bytes_are = ap (λ (d : DiskOf). bytes_of d.states) tie.disk_is

  -- ---- a file is made

  module _ (format : Format) where
    abbrev shape : Shape
    shape = shape_of format m.form

    abbrev Made : Result (VaultOf R D) (D × PenFault) → Type 0
    Made result = IsMade m.keeps m.states m.faults shape disk result

    abbrev Making : Option PenFault → D → Type 0
    Making ended new = IsMaking shape ended w.disk.states (m.states new)

    -- what the vault promises of the calls, by the world's disk
    tried : (new : D) (ended : Option PenFault) → (IsExisting (bytes_of (m.states disk)) → WritesNothing (m.states disk) (m.states new)) → StaysUnbornOrEmpty shape (m.states disk) (m.states new)
        → AreCallsOfMaking (bytes_of (m.states disk)) ended (calls_to new) → Making ended new
    tried new ended existed born calls = subst (λ old. IsMaking shape ended old (m.states new)) (sym states_are) (record { existed = existed; born = born; calls = calls })

    -- a call was made: so nothing was written where there was a file
    wrote_nothing : (new : D) → clock (m.states disk) < clock (m.states new) → (new ≡ disk) ⊎ WritesNothing (m.states disk) (m.states new) → WritesNothing (m.states disk) (m.states new)
    wrote_nothing new some is = elim is [
      | inl same ↦ absurd (let clocks = ap (λ d. clock (m.states d)) same in omega (arith, some, clocks))
      | inr nothing ↦ nothing
    ]

    pub create_answers : {v : VaultOf R D} {answer : Answer R} → answer ≡ step.Fine → Made (Ok v) → Holds m v v.pen.disk → PhaseStep m w disk (hands.Exclusive v) (step.Create format) answer
    create_answers {v} is made rests =
        let w' : World R = record (with_opened w [] (empty_file shape)) { disk = disk_of m.states m.faults v.pen.disk } in
        let some = made.later in
        let most = made.time in
        let tied : IsExclusive m w' v = record {
          phase_is = refl;
          calm = tie.calm;
          list_is = ap joined (sym made.created.1);
          sure_is = λ kept. sym (made.sure kept);
          settled_within = omega arith;
          whole = λ on. refl;
          brings_none = λ on. ap growths_in_hand made.created.0.no_job;
          hand_is = new_hand v.pen made.created.0;
          disk_is = refl;
        } in
        let none : m.keeps v.pen.disk → IsExisting (bytes_of w.disk.states) → ⊥ = λ kept existing. made.none_existed kept (subst IsExisting bytes_are existing) in
        let tries : m.keeps v.pen.disk → Making None v.pen.disk
        = λ kept. tried v.pen.disk None (λ existing. absurd (made.none_existed kept existing)) (made.born kept) (let all = made.calls kept in omega (arith, all)) in
        answered is (called w' (inl (inr (inr (inr refl)), (refl, none, tries, refl))) (omega (arith, some), omega (arith, most)) some (omega (arith, most)) refl tie.calm
        (left_exclusive tied) (λ kept has. vault_rests tied kept rests))
      where
        new_hand : (p : PenOf D) → IsNew shape p → at_rest (empty_file shape) ≡ hand_of p
        new_hand p new i = record {
          file = record { shape = sym new.shape_is i; gate = sym new.gate_is i; changes = (sym new.tally_is i).changes; folded = (sym new.tally_is i).folded };
          job = sym new.no_job i;
          fold = sym new.no_fold i;
          broken = sym new.whole i;
        }

    abbrev NotMade : D → PenFault → Type 0
    NotMade new fault = PhaseStep m w disk (hands.Shut new) (step.Create format) (step.Refused (Vault (vault.Pen fault)))

    no_memory : (new : D) → new ≡ disk → NotMade new pen.Memory
    no_memory new same = still_left worlds.Shut w tie.calm tie.phase_is (inr (Vault (vault.Pen pen.Memory), inl (Vault (vault.Pen pen.Memory), refl, refl), refl, refl)) refl refl same tie.calm
        (left_shut (record { phase_is = tie.phase_is; calm = tie.calm; disk_is = tie.disk_is ∙ ap (disk_of m.states m.faults) (sym same) }))

    module _ (new : D) (some : clock (m.states disk) < clock (m.states new)) (most : clock (m.states new) ≤ clock (m.states disk) + 8) where
      existed : (m.keeps new → IsExisting (bytes_of (m.states disk))) → (m.keeps new → Making (Some pen.Exists) new) → NotMade new pen.Exists
      existed existing making = called (with_disk new)
          (inr (Vault (vault.Pen pen.Exists), inr (inr (inl (Vault (vault.Pen pen.Exists), refl, refl))), refl, ((λ kept. subst IsExisting (sym bytes_are) (existing kept)), making, refl)))
          (omega (arith, most)) some (omega (arith, most)) refl tie.calm (still_shut new) (no_file new)

      disk_failed : (cause : DiskFault) → m.faults new ≡ m.faults disk + 1 → (m.keeps new → Making (Some (pen.Disk cause)) new) → NotMade new (pen.Disk cause)
      disk_failed cause more making = called (with_disk new)
          (inr (Vault (vault.Pen (pen.Disk cause)), inr (inl (Vault (vault.Pen (pen.Disk cause)), refl, refl)), refl, (rose new more, making, refl)))
          (omega (arith, some), omega (arith, most)) some (omega (arith, most)) refl tie.calm (still_shut new) (no_file new)

    making : (new : D) (fault told : PenFault) → fault ≡ told → Made (Err (new, fault)) → IsCreateFault fault → m.keeps new → Making (Some told) new
    making new fault told same made is kept =
        subst (λ f. Making (Some f) new) same (tried new (Some fault) (λ existing. wrote_nothing new (made.later is) (made.existed kept existing)) (made.born kept) (made.calls kept))

    pub create_refuses : {answer : Answer R} (new : D) (fault : PenFault) → answer ≡ step.Refused (Vault (vault.Pen fault)) → Made (Err (new, fault))
        → PhaseStep m w disk (hands.Shut new) (step.Create format) answer
    create_refuses new fault is made = elim made.refused [
      | inl memory ↦ answered (is ∙ ap (λ f. step.Refused (Vault (vault.Pen f))) memory.0) (no_memory new memory.1)
      | inr other ↦ elim other [
        | inl exists ↦ answered (is ∙ ap (λ f. step.Refused (Vault (vault.Pen f))) exists)
            (existed new (made.later (inl exists)) made.time (λ kept. made.exists kept exists) (making new fault pen.Exists exists made (inl exists)))
        | inr failed ↦ answered (is ∙ ap (λ f. step.Refused (Vault (vault.Pen f))) failed.1)
            (disk_failed new (made.later (inr (failed.0, failed.1))) made.time failed.0 (made.failed ∙ ap (λ f. m.faults disk + failed_calls f) failed.1)
            (making new fault (pen.Disk failed.0) failed.1 made (inr (failed.0, failed.1))))
      ]
    ]

  -- ---- a file is opened

  read_file : (format : Format) (p : PenOf D) (bytes : List ℕ) (base : List R) → (o : IsOpened m.form bytes p base) → HasReadFile m.form bytes base (hand_of p).file
  read_file format p bytes base o = record {
    format = o.format;
    frames = o.found;
    vector = o.vector;
    file_is = λ i. record { shape = o.shape_is i; gate = o.gate_is i; changes = (o.tally_is i).changes; folded = (o.tally_is i).folded };
  }

  module _ {new : D} (syncs : m.keeps new → OnlySyncs (m.states disk) (m.states new)) {len : ℕ} (all : m.keeps new → len ≡ length (bytes_of (m.states disk))) where
    looked : (ended : Option OpenFault) → AreCallsOfOpening len ended (calls_to new) → m.keeps new → IsOpening ended w.disk.states (m.states new)
    looked ended calls kept = subst (λ old. IsOpening ended old (m.states new)) (sym states_are)
        (record { syncs = syncs kept; calls = subst (λ k. AreCallsOfOpening k ended (calls_to new)) (all kept) calls })

    abbrev NotOpen : Answer R → Type 0
    NotOpen answer = PhaseStep m w disk (hands.Shut new) step.Open answer

    open_scans : (fault : ScanFault) → (m.keeps new → IsRefused m.form (bytes_of (m.states disk)) fault) → AreCallsMade len (openings.Scan fault) (calls_to new)
        → NotOpen (step.Refused (Scan fault))
    open_scans fault refused calls =
        let two = calls.0 in
        called (with_disk new) (inr (Scan fault, inr (inl (Scan fault, refl, refl)), refl, ((λ kept. subst (λ bytes. IsRefused m.form bytes fault) (sym bytes_are) (refused kept)), looked (Some (openings.Scan fault)) calls, refl)))
        (omega (arith, two)) (omega (arith, two)) (few_pieces len (calls_to new) calls.1 calls.2) refl tie.calm (still_shut new) (no_file new)

    calls_made : (n : ℕ) (cause : DiskFault) → AreCallsMade len (openings.Disk cause) n → (0 < n) × (n < 2 ^ 64)
    calls_made n causes.Sync is = (omega (arith, is), omega (arith, is))
    calls_made n causes.Length is = (omega (arith, is), omega (arith, is))
    calls_made n causes.Read is = (let more = is.0 in omega (arith, more), few_pieces len n is.1 is.2)
    calls_made n causes.Write is = absurd is

    open_fails : (cause : DiskFault) → m.faults new ≡ m.faults disk + 1 → AreCallsMade len (openings.Disk cause) (calls_to new) → NotOpen (step.Refused (Vault (vault.Pen (pen.Disk cause))))
    open_fails cause more calls =
        let made = calls_made (calls_to new) cause calls in
        let some = made.0 in
        called (with_disk new)
        (inr (Vault (vault.Pen (pen.Disk cause)), inl (Vault (vault.Pen (pen.Disk cause)), refl, refl), refl, (rose new more, looked (Some (openings.Disk cause)) calls, refl)))
        (omega (arith, some)) (omega (arith, some)) made.1 refl tie.calm (still_shut new) (no_file new)

  pub open_refuses : {new : D} {answer : Answer R} (fault : OpenFault) → answer ≡ step.Refused (of_open fault) → (m.keeps new → IsOpenRefusal m.form (bytes_of (m.states disk)) fault)
      → m.faults new ≡ m.faults disk + failed_openings fault → (m.keeps new → OnlySyncs (m.states disk) (m.states new))
      → (len : ℕ) → (m.keeps new → len ≡ length (bytes_of (m.states disk))) → AreCallsMade len fault (calls_to new) → PhaseStep m w disk (hands.Shut new) step.Open answer
  open_refuses (openings.Scan fault) is refused more syncs len all calls = answered is (open_scans syncs all fault refused calls)
  open_refuses (openings.Disk cause) is refused more syncs len all calls = answered is (open_fails syncs all cause more calls)

  pub open_answers : {v : VaultOf R D} {size : ℕ} {answer : Answer R} → answer ≡ step.Size size → size ≡ length (list_of v) → IsAtRest m.form.width (length (list_of v)) v.pen
      → (m.keeps v.pen.disk → IsOpened m.form (bytes_of (m.states disk)) v.pen (list_of v)) → (m.keeps v.pen.disk → v.sure ≡ list_of v)
      → (m.keeps v.pen.disk → OnlySyncs (m.states disk) (m.states v.pen.disk))
      → (len : ℕ) → (m.keeps v.pen.disk → len ≡ length (bytes_of (m.states disk))) → AreCallsDone len (calls_to v.pen.disk) → Holds m v v.pen.disk
      → PhaseStep m w disk (hands.Exclusive v) step.Open answer
  open_answers {v} is long rest read sure syncs len all calls rests =
      let two = calls.0 in
      let w' : World R = record (with_opened w (list_of v) (hand_of v.pen).file) { disk = disk_of m.states m.faults v.pen.disk } in
      let tied : IsExclusive m w' v = record {
        phase_is = refl;
        calm = tie.calm;
        list_is = refl;
        sure_is = λ kept. sym (sure kept);
        settled_within = omega arith;
        whole = λ on. refl;
        brings_none = λ on. ap growths_in_hand rest.no_job;
        hand_is = λ i. record { file = (hand_of v.pen).file; job = sym rest.no_job i; fold = sym rest.no_fold i; broken = sym rest.whole i };
        disk_is = refl;
      } in
      let reads : m.keeps v.pen.disk → HasReadFile m.form (bytes_of w.disk.states) (list_of v) (hand_of v.pen).file
      = λ kept. subst (λ bytes. HasReadFile m.form bytes (list_of v) (hand_of v.pen).file) (sym bytes_are) (let o = read kept in read_file o.format v.pen (bytes_of (m.states disk)) (list_of v) o) in
      answered (is ∙ ap step.Size long) (called w' (inl (inr (inr refl), (list_of v, (hand_of v.pen).file, refl, reads, looked syncs all None calls, refl)))
      (omega (arith, two)) (omega (arith, two)) (few_pieces len (calls_to v.pen.disk) calls.1 calls.2) refl tie.calm (left_exclusive tied) (λ kept has. vault_rests tied kept rests))
