-- What every command promises.
use Rattle.std.proofs.Common.{◌≡◌, ℕ, ◌+◌, ◌-◌, List, Bool, true, false, [], ◌∷◌, Option, Some, None, inl, inr, refl, sym, ap, subst, ◌∙◌, arith}
use Rattle.std.specs.Prelude.{Result, Ok, Err, IfErr, MatchOption, MatchResult, ◌≤◌}
use Rattle.std.specs.Option.{is_some}
use Rattle.std.specs.List.{AllByRecursion}
use Rattle.std.proofs.lemmas.Option.{same_Some}
use Rattle.record_core.specs.Bytes.{Encoding}
use Rattle.disk_core.specs.State.{State}
use Rattle.disk_core.specs.Moments.{LeavesOnly, clock}
use Rattle.segment_core.specs.Frame.{Frame}
use Rattle.segment_core.specs.Raw.{after_frame}
use Rattle.segment_core.specs.declared.format.Shape.{Shape}
use Rattle.segment_core.specs.Written.{joined}
use Rattle.pen_core.specs.declared.fault.PenFault.{PenFault}
use Rattle.pen_core.specs.declared.fault.PenFault.TheVariants as faults
use Rattle.pen_core.specs.declared.step.PenStep.{PenStep}
use Rattle.pen_core.specs.declared.step.PenStep.TheVariants.{Body, BodySync, Gate, GateSync}
use Rattle.pen_core.specs.Step.{steps_left}
use Rattle.pen_core.specs.PenOf.{PenOf}
use Rattle.pen_core.specs.Pen.{MayOpen, FileSame, FileGains, IsUnchanged, vector_after, vector_with, log_left, failed_calls}
use Rattle.pen_core.specs.Refusals.{first_refusal, IsRefusal}
use Rattle.vault_core.specs.declared.fault.VaultFault.TheVariants.{Pen}
use Rattle.vault_core.specs.declared.fault.VaultFault.{VaultFault}
use Rattle.vault_core.specs.Vault.{VaultOf, IsVault, OpensToEither, vault_of}
use Rattle.pen_core.specs.Settled.{IsLogSettled, IsLogFault, frames_after, frames_and}
use Rattle.pen_core.specs.Vectors.{frames_with}
use Rattle.vault_core.specs.Commands.{IsBegun, IsCommand, IsStopFault, StandsCommanded, calls_if}
use Rattle.vault_core.proofs.Devices.{Device}
use Rattle.vault_core.proofs.Kept.{before, done_sure, done_pen, failed_sure, failed_pen, failed_stands, stopped, command_images, sure_same}

-- ---- tests

-- none of the tests is of a call that failed
abbrev pub AreQuiet : List (Bool × PenFault) → Type 0
AreQuiet lines = AllByRecursion (λ line. failed_calls line.1 ≡ 0) lines

quiet_first : (lines : List (Bool × PenFault)) → AreQuiet lines → (o : Option PenFault) → first_refusal lines ≡ o → (fault : PenFault)
    → MatchOption o (fault ≡ faults.Memory) (λ first. fault ≡ first) → failed_calls fault ≡ 0
quiet_first [] quiet None is fault why = ap failed_calls why
quiet_first [] quiet (Some f) is fault why = absurd cc
quiet_first ((true, first) ∷ lines) quiet None is fault why = absurd cc
quiet_first ((true, first) ∷ lines) quiet (Some f) is fault why = ap failed_calls (why ∙ sym (same_Some first f is)) ∙ quiet.0
quiet_first ((false, first) ∷ lines) quiet o is fault why = quiet_first lines quiet.1 o is fault why

pub quiet : (lines : List (Bool × PenFault)) (fault : PenFault) → AreQuiet lines → IsRefusal lines fault → failed_calls fault ≡ 0
quiet lines fault are why = quiet_first lines are (first_refusal lines) refl fault why

-- what was stands behind a fault that is none of a call
pub stands_was : (made was : Type 0) (fault : PenFault) → failed_calls fault ≡ 0 → was → StandsCommanded made was (Pen fault)
stands_was made was faults.Broken none it = it
stands_was made was faults.Busy none it = it
stands_was made was faults.OldFormat none it = it
stands_was made was faults.Runs none it = it
stands_was made was faults.OutOfRange none it = it
stands_was made was faults.TooLarge none it = it
stands_was made was faults.Unfolded none it = it
stands_was made was faults.FileFull none it = it
stands_was made was faults.Memory none it = it
stands_was made was faults.Exists none it = it
stands_was made was (faults.Disk cause) none it = absurd (omega (arith, none))

-- a test that doesn't hold
pub passes : (test : Bool) (fault : PenFault) (lines : List (Bool × PenFault)) → first_refusal ((test, fault) ∷ lines) ≡ None → (test ≡ false) × (first_refusal lines ≡ None)
passes true fault lines none = absurd cc
passes false fault lines none = (refl, none)

-- the first test that holds
pub first_refused : (lines : List (Bool × PenFault)) (fault : PenFault) → first_refusal lines ≡ Some fault → IsRefusal lines fault
first_refused lines fault is = subst (λ (o : Option PenFault). MatchOption o (fault ≡ faults.Memory) (λ first. fault ≡ first)) (sym is) refl

pub unchanged-refl : {D : Type 0} (pen : PenOf D) → IsUnchanged pen pen
unchanged-refl pen = record {
  disk_same = refl;
  file_same = record { frames_same = refl; vector_same = refl };
  job_same = refl;
  broken_same = refl;
  shape_same = refl;
  fold_same = refl;
  tally_same = refl;
  gate_same = refl;
}

pub memory_refused : (lines : List (Bool × PenFault)) → first_refusal lines ≡ None → IsRefusal lines faults.Memory
memory_refused lines none = at (first_refusal lines) none
  where
    at : (o : Option PenFault) → o ≡ None → MatchOption o (faults.Memory ≡ faults.Memory) (λ first. faults.Memory ≡ first)
    at None is = refl
    at (Some f) is = absurd cc

pub idle_is : {X : Type 0} (job : Option X) → is_some job ≡ false → job ≡ None
idle_is None is = refl
idle_is (Some job) is = absurd cc

steps_left-most : (step : PenStep) → steps_left step ≤ 4
steps_left-most Body = omega arith
steps_left-most BodySync = omega arith
steps_left-most Gate = omega arith
steps_left-most GateSync = omega arith

module _ {R D : Type 0} (form : Encoding R) (keeps : D → Type 0) (states : D → List State) (faults_of : D → ℕ) (v : VaultOf R D)
    (is : IsVault (keeps v.pen.disk) form v) (frame : Frame) (lines : List (Bool × PenFault)) where
  -- ---- refused

  pub refused_command : (pen : PenOf D) (fault : PenFault) → IsUnchanged v.pen pen → AreQuiet lines → IsRefusal lines fault
      → IsCommand form keeps states faults_of frame lines v (vault_of form pen v.blocks) (Err (Pen fault))
  refused_command pen fault same are why =
      let none = quiet lines fault are why in
      let disk : pen.disk ≡ v.pen.disk = same.disk_same in
      record {
        pen = inl (why, same);
        allowed = tt;
        file = λ now. same.file_same;
        sure = λ now. sure_same form (keeps v.pen.disk) v is pen same (subst keeps disk now);
        images = λ now. stands_was _ (pen.disk ≡ v.pen.disk) fault none disk;
        time = let calls : calls_if (failed_calls fault) (5 - log_left pen.job) ≡ 0 = ap (λ n. calls_if n (5 - log_left pen.job)) none in omega (arith, calls, ap (λ d. clock (states d)) disk);
        failed_calls = omega (arith, none, ap faults_of disk);
        model = subst keeps disk;
        goes_on = λ _. tt;
      }

pub stop_fault : {D : Type 0} (mid new : PenOf D) (fault : PenFault) → mid.broken ≡ false → IsLogFault mid new fault → IsStopFault (Pen fault)
stop_fault mid new fault whole why = elim why [
  | inl barred ↦ (let it = barred.1 in absurd cc)
  | inr at ↦ (at.1, ap Pen at.4)
]

-- what a commit that stopped has made stands
pub stands_made : (made was : Type 0) (result : Result (Unit {0}) VaultFault) → IfErr result IsStopFault → made → MatchResult result (λ _. made) (StandsCommanded made was)
stands_made made was (Ok done) stops it = it
stands_made made was (Err fault) stops it = subst (StandsCommanded made was) (sym stops.1) it

-- ---- begun

module _ {R D : Type 0} {form : Encoding R} (device : Device D) {v : VaultOf R D} {frame : Frame} {mid : PenOf D} {blocks : List (List R)}
    (b : IsBegun form device.keeps v frame mid blocks) (new : PenOf D) (model : device.keeps new.disk → device.keeps mid.disk)
    (images : device.keeps new.disk → LeavesOnly (device.states mid.disk) (device.states new.disk) (MayOpen mid)) where
  back : device.keeps new.disk → device.keeps v.pen.disk
  back now = before b (model now)

  left : log_left mid.job ≡ 4
  left = ap log_left b.begins.job_is

  leaves : device.keeps new.disk → LeavesOnly (device.states v.pen.disk) (device.states new.disk) (OpensToEither form v.sure (joined blocks))
  leaves now =
      command_images b (device.states new.disk) (device.states v.pen.disk) (back now)
      (subst (λ (d : D). LeavesOnly (device.states d) (device.states new.disk) (MayOpen mid)) b.begins.disk_same (images now))

  module _ (settled : IsLogSettled mid new) (still : new.broken ≡ false) (file : device.keeps new.disk → new.vector ≡ vector_after mid) where
    gained : device.keeps new.disk → new.frames ≡ frames_after mid → FileGains frame v.pen new
    gained now frames = record {
      frames_more = frames ∙ ap (frames_and mid.frames) b.begins.job_is ∙ ap (λ fs. frames_with fs frame) b.begins.file_same.frames_same;
      vector_is =
          file now ∙ ap (vector_with mid.shape mid.vector) b.begins.job_is ∙ ap (λ (s : Shape). after_frame s.width mid.vector frame) b.begins.shape_same
          ∙ ap (λ cells. after_frame v.pen.shape.width cells frame) b.begins.file_same.vector_same;
    }

    pub committed_command : (lines : List (Bool × PenFault)) → first_refusal lines ≡ None
        → clock (device.states new.disk) ≡ clock (device.states mid.disk) + log_left mid.job → device.faults new.disk ≡ device.faults mid.disk
        → (device.keeps mid.disk → device.keeps new.disk) → (device.keeps new.disk → new.frames ≡ frames_after mid)
        → IsCommand form device.keeps device.states device.faults frame lines v (vault_of form new blocks) (Ok tt)
    committed_command lines allowed time calls goes_on frames = record {
      pen = done_pen b new model settled still file;
      allowed = allowed;
      file = λ now. gained now (frames now);
      sure = done_sure b new model settled still file;
      images = leaves;
      time = time ∙ ap (λ n. clock (device.states mid.disk) + n) left ∙ ap (λ d. clock (device.states d) + 4) b.begins.disk_same;
      failed_calls = calls ∙ ap device.faults b.begins.disk_same;
      model = back;
      goes_on = λ now. goes_on (subst device.keeps (sym b.begins.disk_same) now);
    }

  module _ (fault : PenFault) (why : IsLogFault mid new fault) (file : device.keeps new.disk → FileSame mid new) where
    pub stopped_command : (lines : List (Bool × PenFault)) → first_refusal lines ≡ None
        → clock (device.states new.disk) + log_left new.job ≡ clock (device.states mid.disk) + log_left mid.job + failed_calls fault
        → device.faults new.disk ≡ device.faults mid.disk + failed_calls fault
        → IsCommand form device.keeps device.states device.faults frame lines v (vault_of form new blocks) (Err (Pen fault))
    stopped_command lines allowed time calls =
        let at = stopped b new model fault why file in
        let one : failed_calls fault ≡ 1 = ap failed_calls at.1 in
        let here : log_left new.job ≡ steps_left at.0 = ap log_left at.2.job_is in
        let most = steps_left-most at.0 in
        record {
          pen = failed_pen b new model fault why file lines allowed;
          allowed = tt;
          file = λ now. record {
            frames_same = (file now).frames_same ∙ b.begins.file_same.frames_same;
            vector_same = (file now).vector_same ∙ b.begins.file_same.vector_same;
          };
          sure = failed_sure b new model fault why file;
          images = λ now. failed_stands b new model fault why file _ (new.disk ≡ v.pen.disk) (leaves now);
          time =
              let all : calls_if (failed_calls fault) (5 - log_left new.job) ≡ 5 - log_left new.job = ap (λ n. calls_if n (5 - log_left new.job)) one in
              let disk : clock (device.states mid.disk) ≡ clock (device.states v.pen.disk) = ap (λ d. clock (device.states d)) b.begins.disk_same in
              omega (arith, all, time, left, one, here, most);
          failed_calls = calls ∙ ap (λ d. device.faults d + failed_calls fault) b.begins.disk_same;
          model = back;
          goes_on = λ _. tt;
        }
