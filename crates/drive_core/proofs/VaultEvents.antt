-- Steps of the exclusive phase, from what the vault promises of its calls.
use Rattle.std.proofs.Common.{◌≡◌, inl, inr, ℕ, ◌+◌, ◌<◌, ◌^◌, false, List, length, Option, None, refl, sym, ap, subst, ◌∙◌, arith}
use Rattle.std.proofs.Math.Seq.{take-length}
use Rattle.disk_core.specs.State.{IsImage, now}
use Rattle.disk_core.specs.Moments.{LeavesOnly, clock}
use Rattle.disk_core.proofs.JoinedMoments.{LeavesOnly-weaker}
use Rattle.segment_core.specs.Command.{Command, content}
use Rattle.pen_core.specs.Typed.{OpensTo}
use Rattle.pen_core.specs.declared.fault.PenFault.TheVariants as pen
use Rattle.vault_core.specs.declared.fault.VaultFault.{VaultFault}
use Rattle.vault_core.specs.declared.fault.VaultFault.TheVariants as vault
use Rattle.vault_core.specs.Vault.{VaultOf, MayHold}
use Rattle.vault_core.specs.Commands as commands
use Rattle.drive_core.specs.declared.fault.StepFault.TheVariants.{Vault}
use Rattle.drive_core.specs.Medium.{Medium}
use Rattle.drive_core.specs.Step.{Step, Answer}
use Rattle.drive_core.specs.Step as step
use Rattle.drive_core.specs.World.{World, Hand, DiskOf, Exclusive}
use Rattle.drive_core.specs.Outcome.{stray_in}
use Rattle.drive_core.specs.ExclusiveRows.{IsCommandStep}
use Rattle.drive_core.specs.Rows.{ExclusiveRow}
use Rattle.drive_core.specs.Run.{HasCalls, CommandCalls}
use Rattle.drive_core.specs.Headline.{OpensToPrefix, Rests, Leaves}
use Rattle.drive_core.specs.Ties.{disk_of}
use Rattle.drive_core.specs.VaultTies.{IsExclusive, VaultStep, calls_between}
use Rattle.drive_core.proofs.PenTests.{pass_one, stop_one}
use Rattle.drive_core.proofs.Steps.{at_phase, answered, counted, still}

-- each image that the disk may leave now opens to what the vault may hold
abbrev pub Holds : {R D : Type 0} → Medium R D → VaultOf R D → D → Type 0
Holds m v disk = m.keeps disk → (image : List ℕ) → IsImage (now (m.states disk)) image → MayHold m.form v image

-- this step asks for this command, or for none
abbrev pub Asks : {R D : Type 0} → Medium R D → World R → VaultOf R D → Step R → Option (Command R) → Type 0
Asks {R} m w new asked command =
    (answer : Answer R) (w' : World R) (n : ℕ) → IsCommandStep m.form w command answer w' → CommandCalls command answer n
    → ExclusiveRow m.form (m.keeps new.pen.disk) w asked answer w' × HasCalls w asked answer n

module _ {R D : Type 0} {m : Medium R D} {w : World R} {v : VaultOf R D} (tie : IsExclusive m w v) where
  -- what may be held is the vector after a prefix
  pub held : m.keeps v.pen.disk → (image : List ℕ) → MayHold m.form v image → OpensToPrefix m.form w.base w.history w.settled image
  held kept image opens = elim opens [
    | inl before ↦ record {
      kept = w.settled;
      at_least = omega arith;
      at_most = tie.settled_within;
      opens = subst (OpensTo m.form image) (sym (tie.sure_is kept)) before;
    }
    | inr after ↦ record {
      kept = length w.history;
      at_least = tie.settled_within;
      at_most = omega arith;
      opens = subst (OpensTo m.form image) (sym (ap (content w.base) (take-length w.history) ∙ tie.list_is)) after;
    }
  ]

  -- what a crash between two steps leaves
  pub vault_rests : m.keeps v.pen.disk → Holds m v v.pen.disk → Rests m.form w
  vault_rests kept rests image left = held kept image (rests kept image (subst (λ (d : DiskOf). IsImage (now d.states) image) tie.disk_is left))

  -- and within one
  pub vault_leaves : (new : VaultOf R D) {Images : List ℕ → Type 0} (w' : World R) → w'.disk ≡ disk_of m.states m.faults new.pen.disk
      → ((image : List ℕ) → Images image → OpensToPrefix m.form w'.base w'.history w.settled image)
      → LeavesOnly (m.states v.pen.disk) (m.states new.pen.disk) Images → Leaves m.form w w'
  vault_leaves new {Images} w' disk opens leaves =
      subst (λ (d : DiskOf). LeavesOnly d.states w'.disk.states Kept) (sym tie.disk_is)
      (subst (λ (d : DiskOf). LeavesOnly (m.states v.pen.disk) d.states Kept) (sym disk)
      (LeavesOnly-weaker (m.states v.pen.disk) (m.states new.pen.disk) Images Kept opens leaves))
    where
      Kept : List ℕ → Type 0
      Kept = OpensToPrefix m.form w'.base w'.history w.settled

  -- ---- an event

  module _ (new : VaultOf R D) where
    pub vault_steps : {asked : Step R} {answer : Answer R} (w' : World R) (n : ℕ)
        → ExclusiveRow m.form (m.keeps new.pen.disk) w asked answer w' → HasCalls w asked answer n → clock (m.states new.pen.disk) ≡ clock (m.states v.pen.disk) + n
        → n < 2 ^ 64 → (n ≡ 0 → w'.disk ≡ w.disk) → stray_in answer ≡ None → (tied : IsExclusive m w' new) → (m.keeps new.pen.disk → Leaves m.form w w')
        → (m.keeps new.pen.disk → Rests m.form w')
        → VaultStep m w v new asked answer
    vault_steps {asked} {answer} w' n row calls time few still calm tied leaves rests =
        let reading : n ≡ calls_between (m.states v.pen.disk) (m.states new.pen.disk) = omega (arith, time) in
        counted reading (record {
          after = w';
          is_event = record {
            row = at_phase m.form (m.keeps new.pen.disk) w Exclusive asked answer w' tie.calm tie.phase_is row;
            called = calls;
            time = ap (λ (d : DiskOf). clock d.states) tied.disk_is ∙ time ∙ ap (λ (d : DiskOf). clock d.states + n) (sym tie.disk_is);
            still = still;
          };
          inner = λ kept. record { within = λ some has. leaves kept; behind = λ some has. rests kept };
          few = few;
          stray_is = tied.calm ∙ sym calm;
          tied = tied;
        })

    -- where no call is made nothing is left within the step
    pub still_steps : {asked : Step R} {answer : Answer R} (w' : World R) → ExclusiveRow m.form (m.keeps new.pen.disk) w asked answer w' → HasCalls w asked answer 0
        → new.pen.disk ≡ v.pen.disk → stray_in answer ≡ None → IsExclusive m w' new → VaultStep m w v new asked answer
    still_steps {asked} {answer} w' row calls disk calm tied =
        let reading : 0 ≡ calls_between (m.states v.pen.disk) (m.states new.pen.disk) = (let same = ap (λ d. clock (m.states d)) disk in omega (arith, same)) in
        counted reading (still w' (at_phase m.form (m.keeps new.pen.disk) w Exclusive asked answer w' tie.calm tie.phase_is row) calls
        (tied.disk_is ∙ ap (disk_of m.states m.faults) disk ∙ sym tie.disk_is) (tied.calm ∙ sym calm) tied)

  -- the vault as it was
  module _ {new : VaultOf R D} (same : new ≡ v) where
    pub same_steps : {asked : Step R} {answer : Answer R} → ExclusiveRow m.form (m.keeps new.pen.disk) w asked answer w → HasCalls w asked answer 0 → stray_in answer ≡ None
        → VaultStep m w v new asked answer
    same_steps row calls calm = still_steps new w row calls (ap (λ (x : VaultOf R D). x.pen.disk) same) calm (subst (IsExclusive m w) (sym same) tie)

    -- ---- a command with nothing to write

    pub nothing_steps : {asked : Step R} {answer : Answer R} → Asks m w new asked None → v.pen.broken ≡ false → answer ≡ step.Fine → VaultStep m w v new asked answer
    nothing_steps asks whole is =
        let both = asks step.Fine w 0 (inl (pass_one w.hand.broken (ap (λ (h : Hand). h.broken) tie.hand_is ∙ whole), (refl, refl))) refl in
        answered is (same_steps both.0 both.1 refl)

    pub nothing_refused : {asked : Step R} {answer : Answer R} {fault : VaultFault} → Asks m w new asked None → commands.IsNothingFault v.pen fault → answer ≡ step.Refused (Vault fault)
        → VaultStep m w v new asked answer
    nothing_refused asks why is =
        let broken = stop_one w.hand.broken (ap (λ (h : Hand). h.broken) tie.hand_is ∙ why.1) in
        let both = asks (step.Refused (Vault (vault.Pen pen.Broken))) w 0 (inr (Vault (vault.Pen pen.Broken), broken, refl, refl)) refl in
        answered (is ∙ ap (λ f. step.Refused (Vault f)) why.0) (same_steps both.0 both.1 refl)

-- what a crash may leave of the disk as it is lent
pub holds_lent : {R D : Type 0} (m : Medium R D) (v : VaultOf R D) {lent : D} → lent ≡ v.pen.disk → Holds m v lent → Holds m v v.pen.disk
holds_lent m v is = subst (Holds m v) is

pub rests_lent : {R D : Type 0} {m : Medium R D} {w : World R} {old : VaultOf R D} → IsExclusive m w old → (new : VaultOf R D) {lent : D} → lent ≡ new.pen.disk → Holds m new lent
    → Holds m new new.pen.disk
rests_lent {m = m} tie new is = holds_lent m new is
