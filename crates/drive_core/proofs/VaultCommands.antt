-- A vault's commands that write, as steps of the exclusive phase.
use Rattle.std.proofs.Common.{◌≡◌, inl, inr, ℕ, ◌+◌, ◌-◌, Bool, true, false, List, [], ◌∷◌, ◌++◌, length, take, Option, Some, None, refl, sym, ap, subst, ◌∙◌, arith, length-append}
use Rattle.std.specs.Prelude.{Ok, Err}
use Rattle.std.specs.declared.result.Result.{Result}
use Rattle.std.proofs.lemmas.List.{take-append-le}
use Rattle.std.proofs.Math.Seq.{take-length}
use Rattle.disk_core.specs.Moments.{LeavesOnly, clock}
use Rattle.segment_core.specs.Command.{Command, content, after_command}
use Rattle.segment_core.specs.Frame.{Frame}
use Rattle.segment_core.specs.Written.{joined}
use Rattle.pen_core.specs.Pen.{IsUnchanged, log_left}
use Rattle.pen_core.specs.Typed.{OpensTo}
use Rattle.pen_core.specs.Refusals.{first_refusal, IsRefusal}
use Rattle.pen_core.specs.declared.step.PenStep as pen_step
use Rattle.pen_core.specs.Step.{fault_of, steps_left}
use Rattle.pen_core.specs.declared.fault.PenFault.{PenFault}
use Rattle.pen_core.specs.declared.fault.PenFault.TheVariants as pen
use Rattle.vault_core.specs.declared.fault.VaultFault.{VaultFault}
use Rattle.vault_core.specs.declared.fault.VaultFault.TheVariants as vault
use Rattle.vault_core.specs.Vault.{VaultOf, list_of, OpensToEither}
use Rattle.vault_core.specs.Commands as commands
use Rattle.vault_core.specs.Commands.{IsStopped, StandsCommanded}
use Rattle.drive_core.specs.declared.fault.StepFault.{StepFault}
use Rattle.drive_core.specs.declared.fault.StepFault.TheVariants.{Vault}
use Rattle.drive_core.specs.Line.{Allows, Might, is_vault_memory, is_disk, pen_table}
use Rattle.drive_core.specs.Medium.{Medium}
use Rattle.drive_core.specs.Step.{Step, Answer}
use Rattle.drive_core.specs.Step as step
use Rattle.drive_core.specs.World.{World, Hand, DiskOf, hand_of, vector, file_with, frame_of}
use Rattle.drive_core.specs.ExclusiveRows.{tests_of, IsCommandStep}
use Rattle.drive_core.specs.Headline.{OpensToPrefix, Leaves}
use Rattle.drive_core.specs.Ties.{growths_in_hand, disk_of}
use Rattle.drive_core.specs.VaultTies.{IsExclusive, VaultStep}
use Rattle.drive_core.proofs.Hands.{hand_unchanged, hand_committed, hand_stopped}
use Rattle.drive_core.proofs.PenTests.{pen_tests, no_failed_call, not_torn, no_calls, stands_was, calls_left, ready_of, true_or_false, differ, first_is, broken_refusal}
use Rattle.drive_core.proofs.Steps.{answered}
use Rattle.drive_core.proofs.Tables.{pen_passes, pen_refuses}
use Rattle.drive_core.proofs.Ties.{content-append}
use Rattle.drive_core.proofs.VaultEvents.{Holds, Asks, vault_steps, still_steps, vault_rests, vault_leaves}

-- A step that asks for a command: what the vault writes it as, and makes of its list.
pub record IsWritten {R D : Type 0} (m : Medium R D) (w : World R) (v new : VaultOf R D)
    (asked : Step R) (command : Command R) (frame : Frame) (made : Type 0) : Type 0 where
  pub asks : Asks m w new asked (Some command)
  -- the vault counts the length of its list
  pub size : v.pen.broken ≡ false → v.pen.tally.size ≡ length (list_of v)
  pub rests : Holds m new new.pen.disk
  pub made_is : first_refusal (pen_tests m.form v.pen command) ≡ None → made → (list_of new ≡ after_command (list_of v) command) × (frame ≡ frame_of m.form command)

module _ {R D : Type 0} {m : Medium R D} {w : World R} {v new : VaultOf R D} {asked : Step R} {command : Command R} {frame : Frame} {made : Type 0}
    (tie : IsExclusive m w v) (written : IsWritten m w v new asked command frame made) where
  abbrev tests : List (Bool × PenFault)
  tests = pen_tests m.form v.pen command

  abbrev world_tests : List (Bool × PenFault)
  world_tests = tests_of m.form w.hand (length (vector w)) command

  abbrev TableAllows : List (Bool × PenFault) → Option StepFault → Type 0
  TableAllows lines answer = Allows (pen_table lines (Might is_vault_memory ∷ Might is_disk ∷ [])) answer

  -- what the vault promises of the command as this frame
  abbrev Says : Frame → Result (Unit {0}) VaultFault → Type 0
  Says f result = commands.IsCommand m.form m.keeps m.states m.faults f tests v new result

  -- the world's tables are the pen's
  tests_are : v.pen.broken ≡ false → world_tests ≡ tests
  tests_are whole =
      ap (λ h. tests_of m.form h (length (vector w)) command) tie.hand_is
      ∙ ap (λ n. tests_of m.form (hand_of v.pen) n command) (ap length tie.list_is ∙ sym (written.size whole))

  -- ---- the history with it

  abbrev history : List (Command R)
  history = w.history ++ command ∷ []

  more : length history ≡ length w.history + 1
  more = length-append w.history (command ∷ [])

  grown : content w.base history ≡ after_command (list_of v) command
  grown = content-append w.base w.history (command ∷ []) ∙ ap (λ l. after_command l command) tie.list_is

  -- the settled ones are those of before
  settled_same : content w.base (take w.settled history) ≡ content w.base (take w.settled w.history)
  settled_same = ap (content w.base) (take-append-le w.settled w.history (command ∷ []) tie.settled_within)

  -- what a crash within the command leaves
  either : m.keeps v.pen.disk → list_of new ≡ after_command (list_of v) command → (image : List ℕ) → OpensToEither m.form v.sure (list_of new) image
      → OpensToPrefix m.form w.base history w.settled image
  either kept is image opens =
      let inside = tie.settled_within in
      elim opens [
        | inl before ↦ record {
          kept = w.settled;
          at_least = omega arith;
          at_most = omega (arith, more, inside);
          opens = subst (OpensTo m.form image) (sym (settled_same ∙ tie.sure_is kept)) before;
        }
        | inr after ↦ record {
          kept = length history;
          at_least = omega (arith, more, inside);
          at_most = omega arith;
          opens = subst (OpensTo m.form image) (sym (ap (content w.base) (take-length history) ∙ grown ∙ sym is)) after;
        }
      ]

  -- the world behind it, with so many commands settled
  abbrev behind : ℕ → Hand → World R
  behind settled hand = record w { history = history; settled = settled; hand = hand; disk = disk_of m.states m.faults new.pen.disk }

  leaves_either : (settled : ℕ) → m.keeps v.pen.disk → list_of new ≡ after_command (list_of v) command
      → LeavesOnly (m.states v.pen.disk) (m.states new.pen.disk) (OpensToEither m.form v.sure (list_of new)) → Leaves m.form w (behind settled (hand_of new.pen))
  leaves_either settled kept is leaves = vault_leaves tie new (behind settled (hand_of new.pen)) refl (either kept is) leaves

  -- ---- all four calls have succeeded

  pub committed_steps : {answer : Answer R} → Says frame (Ok tt) → made → answer ≡ step.Fine → VaultStep m w v new asked answer
  committed_steps promised made_so is =
      let made_is = written.made_is promised.allowed made_so in
      let says : Says (frame_of m.form command) (Ok tt) = subst (λ f. Says f (Ok tt)) made_is.1 promised in
      let ready = ready_of m.form v.pen command says.allowed in
      let all = tie.whole ready.0 in
      let count : w.settled + 1 ≡ length history = omega (arith, more, all) in
      let hand : hand_of new.pen ≡ record w.hand { file = file_with w.hand.file (frame_of m.form command) }
      = hand_committed v.pen new.pen m.form command says.pen ready.0 ready.1 ∙ (λ i. let h : Hand = sym tie.hand_is i in record h { file = file_with h.file (frame_of m.form command) }) in
      let row : IsCommandStep m.form w (Some command) step.Fine (behind (w.settled + 1) (hand_of new.pen)) = inl (
        subst (λ lines. TableAllows lines None) (sym (tests_are ready.0)) (pen_passes tests _ None says.allowed (inr (inr refl))),
        (refl, λ i. behind (w.settled + 1) (hand i)),
      ) in
      let both = written.asks step.Fine (behind (w.settled + 1) (hand_of new.pen)) 4 row refl in
      let tied : IsExclusive m (behind (w.settled + 1) (hand_of new.pen)) new = record {
        phase_is = tie.phase_is;
        calm = tie.calm;
        list_is = grown ∙ sym made_is.0;
        sure_is = λ kept. ap (content w.base) (ap (λ n. take n history) count ∙ take-length history) ∙ grown ∙ sym made_is.0 ∙ sym (says.sure kept);
        settled_within = omega (arith, count);
        whole = λ on. count;
        brings_none = λ on. ap growths_in_hand says.pen.idle;
        hand_is = refl;
        disk_is = refl;
      } in
      answered is (vault_steps tie new (behind (w.settled + 1) (hand_of new.pen)) 4 both.0 both.1 says.time (omega arith) (λ none. absurd (omega (arith, none))) refl tied
      (λ kept. leaves_either (w.settled + 1) (says.model kept) made_is.0 (says.images kept)) (λ kept. vault_rests tied kept written.rests))

  -- ---- refused by a test, or for want of memory

  -- the vault as it was, but for memory
  same_tie : IsUnchanged v.pen new.pen → new.blocks ≡ v.blocks → (m.keeps new.pen.disk → new.sure ≡ v.sure) → IsExclusive m w new
  same_tie same blocks sure = record {
    phase_is = tie.phase_is;
    calm = tie.calm;
    list_is = tie.list_is ∙ ap joined (sym blocks);
    sure_is = λ kept. tie.sure_is (subst m.keeps same.disk_same kept) ∙ sym (sure kept);
    settled_within = tie.settled_within;
    whole = λ on. tie.whole (sym same.broken_same ∙ on);
    brings_none = λ on. ap growths_in_hand same.job_same ∙ tie.brings_none (sym same.broken_same ∙ on);
    hand_is = tie.hand_is ∙ sym (hand_unchanged v.pen new.pen same);
    disk_is = tie.disk_is ∙ ap (disk_of m.states m.faults) (sym same.disk_same);
  }

  -- a broken pen refuses whatever the length
  refused_row : (fault : PenFault) → IsRefusal tests fault → TableAllows world_tests (Some (Vault (vault.Pen fault)))
  refused_row fault why = elim (true_or_false v.pen.broken) [
    | inl broken ↦
        let here = first_is m.form w.hand (length (vector w)) command (ap (λ (h : Hand). h.broken) tie.hand_is ∙ broken) in
        let there = first_is m.form (hand_of v.pen) v.pen.tally.size command broken in
        pen_refuses world_tests (Might is_disk ∷ []) fault (broken_refusal world_tests tests fault here there why)
    | inr whole ↦ subst (λ lines. TableAllows lines (Some (Vault (vault.Pen fault)))) (sym (tests_are whole)) (pen_refuses tests (Might is_disk ∷ []) fault why)
  ]

  refused_steps : (fault : PenFault) → IsRefusal tests fault → IsUnchanged v.pen new.pen → new.blocks ≡ v.blocks → (m.keeps new.pen.disk → new.sure ≡ v.sure)
      → VaultStep m w v new asked (step.Refused (Vault (vault.Pen fault)))
  refused_steps fault why same blocks sure =
      let none = no_failed_call m.form v.pen command fault why in
      let row : IsCommandStep m.form w (Some command) (step.Refused (Vault (vault.Pen fault))) w = inr (Vault (vault.Pen fault), refused_row fault why, refl, not_torn m.form w command fault none) in
      let both = written.asks (step.Refused (Vault (vault.Pen fault))) w 0 row (no_calls fault 0 none refl) in
      still_steps tie new w both.0 both.1 same.disk_same refl (same_tie same blocks sure)

  -- ---- a device call has failed

  torn_steps : (at : pen_step.PenStep) → first_refusal tests ≡ None → IsStopped (frame_of m.form command) at v.pen new.pen → list_of new ≡ after_command (list_of v) command
      → Says (frame_of m.form command) (Err (vault.Pen (pen.Disk (fault_of at)))) → VaultStep m w v new asked (step.Refused (Vault (vault.Pen (pen.Disk (fault_of at)))))
  torn_steps at allowed stopped is says =
      let n : ℕ = 5 - steps_left at in
      let bounds = calls_left at in
      let told : StepFault = Vault (vault.Pen (pen.Disk (fault_of at))) in
      let time : clock (m.states new.pen.disk) ≡ clock (m.states v.pen.disk) + n = says.time ∙ ap (λ k. clock (m.states v.pen.disk) + (5 - k)) (ap log_left stopped.job_is) in
      let rose = says.failed_calls in
      let hand : hand_of new.pen ≡ record w.hand { job = Some (record { frame = frame_of m.form command; step = at }); broken = true }
      = hand_stopped v.pen new.pen (frame_of m.form command) at stopped ∙ (λ i. record (sym tie.hand_is i) { job = Some (record { frame = frame_of m.form command; step = at }); broken = true }) in
      let row : IsCommandStep m.form w (Some command) (step.Refused told) (behind w.settled (hand_of new.pen)) = inr (
        told,
        subst (λ lines. TableAllows lines (Some told)) (sym (tests_are (ready_of m.form v.pen command allowed).0)) (pen_passes tests _ (Some told) allowed (inr (inl (told, refl, refl)))),
        refl,
        (
          (let was = ap (λ (d : DiskOf). d.faults) tie.disk_is in omega (arith, rose, was)),
          (at, refl, λ i. behind w.settled (hand i)),
        ),
      ) in
      let both = written.asks (step.Refused told) (behind w.settled (hand_of new.pen)) n row bounds in
      let broken : new.pen.broken ≡ false → ⊥ = λ on. absurd (differ (sym stopped.broken ∙ on)) in
      let tied : IsExclusive m (behind w.settled (hand_of new.pen)) new = record {
        phase_is = tie.phase_is;
        calm = tie.calm;
        list_is = grown ∙ sym is;
        sure_is = λ kept. settled_same ∙ tie.sure_is (says.model kept) ∙ sym (says.sure kept);
        settled_within = (let inside = tie.settled_within in omega (arith, more, inside));
        whole = λ on. absurd (broken on);
        brings_none = λ on. absurd (broken on);
        hand_is = refl;
        disk_is = refl;
      } in
      let some = bounds.0 in
      let most = bounds.1 in
      vault_steps tie new (behind w.settled (hand_of new.pen)) n both.0 both.1 time (omega (arith, most)) (λ none. absurd (omega (arith, some, none))) refl tied
      (λ kept. leaves_either w.settled (says.model kept) is (says.images kept)) (λ kept. vault_rests tied kept written.rests)

  torn_at : (fault : PenFault) (at : pen_step.PenStep) → fault ≡ pen.Disk (fault_of at) → Says frame (Err (vault.Pen fault)) → StandsCommanded made (new.blocks ≡ v.blocks) (vault.Pen fault)
      → first_refusal tests ≡ None → IsStopped frame at v.pen new.pen → VaultStep m w v new asked (step.Refused (Vault (vault.Pen fault)))
  torn_at fault at is promised list allowed stopped =
      let made_is = written.made_is allowed (subst (λ f. StandsCommanded made (new.blocks ≡ v.blocks) (vault.Pen f)) is list) in
      let torn : Says frame (Err (vault.Pen (pen.Disk (fault_of at)))) = subst (λ f. Says frame (Err (vault.Pen f))) is promised in
      let says : Says (frame_of m.form command) (Err (vault.Pen (pen.Disk (fault_of at)))) = subst (λ f. Says f (Err (vault.Pen (pen.Disk (fault_of at))))) made_is.1 torn in
      answered (ap (λ f. step.Refused (Vault (vault.Pen f))) is) (torn_steps at allowed (subst (λ f. IsStopped f at v.pen new.pen) made_is.1 stopped) made_is.0 says)

  pub failed_steps : {answer : Answer R} (fault : VaultFault) → Says frame (Err fault) → StandsCommanded made (new.blocks ≡ v.blocks) fault → answer ≡ step.Refused (Vault fault)
      → VaultStep m w v new asked answer
  failed_steps (vault.Unsettled number) promised list is = absurd promised.pen
  failed_steps vault.WrongPhase promised list is = absurd promised.pen
  failed_steps (vault.Pen fault) promised list is = answered is (elim promised.pen [
    | inl refused ↦ refused_steps fault refused.0 refused.1 (stands_was _ _ fault (no_failed_call m.form v.pen command fault refused.0) list) promised.sure
    | inr torn ↦ torn_at fault torn.0 torn.2 promised list torn.1 torn.3
  ])
