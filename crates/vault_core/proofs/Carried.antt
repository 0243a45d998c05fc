-- What is in hand ends in the file, whatever ticks are made.
use Rattle.std.proofs.Common.{◌≡◌, ℕ, ◌-◌, Bool, true, false, Option, Some, None, refl, sym, ap, subst, ◌∙◌}
use Rattle.std.specs.Prelude.{nat_lt, if◌then◌else◌, IfSome, Result, Ok, Err, IfOk, OnOk, MatchResult}
use Rattle.segment_core.specs.Frame.{Frame, Group, Change, Shrink, Fold}
use Rattle.segment_core.specs.Tally.{after}
use Rattle.segment_core.specs.declared.tally.Tally.{Tally}
use Rattle.pen_core.specs.declared.stage.FoldStage.{FoldStage}
use Rattle.pen_core.specs.declared.stage.FoldStage.TheVariants as stages
use Rattle.pen_core.specs.PenOf.{PenOf, JobOf, FoldOf}
use Rattle.pen_core.specs.InHand.{has_call, stage_after, called}
use Rattle.pen_core.specs.Vectors.{frames_with}
use Rattle.pen_core.specs.Pen.{CountsSame, CountsDone, FileSame, FileGains, FilesFold, HomesCalled, fold_behind, next_job}
use Rattle.flush_core.specs.declared.lane.Lane.{Lane}
use Rattle.flush_core.specs.declared.lane.Lane.TheVariants as lanes
use Rattle.flush_core.specs.declared.lane.Tick.{Tick}
use Rattle.flush_core.specs.declared.lane.Tick.TheVariants as ticks
use Rattle.flush_core.specs.Refusals.{IsLaneTicked}
use Rattle.vault_core.specs.declared.fault.VaultFault.{VaultFault}
use Rattle.vault_core.specs.Commands.{FileLaneTicked}
use Rattle.vault_core.specs.Settles.{with_stage, with_fold, with_job, tally_then, frames_then, IsFiledBy, IsOrderly, CarriesOn, StandsInFile, IsIdle}

-- a frame that stands in the file ends its fold
module _ {X : Type 0} (more : X → Frame → X) where
  with_fold-behind : (frame : Frame) (fold : Option FoldOf) (file : X) → IsFiledBy frame fold → with_fold more (fold_behind frame fold) (more file frame) ≡ with_fold more fold (more file frame)
  with_fold-behind (Group lengths bytes) fold file filed = refl
  with_fold-behind (Change runs bytes) fold file filed = refl
  with_fold-behind (Shrink n) fold file filed = refl
  with_fold-behind (Fold count) None file filed = refl
  with_fold-behind (Fold count) (Some fold) file filed = sym (ap (λ (s : FoldStage). with_stage more s fold.count (more file (Fold count))) filed)

  -- a call of a fold leaves its frame to come
  with_stage-after : (stage : FoldStage) (count : ℕ) (file : X) → has_call stage ≡ true → with_stage more (stage_after stage) count file ≡ with_stage more stage count file
  with_stage-after (stages.Home n) count file has = at (nat_lt 1 n)
    where
      at : (b : Bool) → with_stage more (if b then stages.Home (n - 1) else stages.Sync) count file ≡ more file (Fold count)
      at true = refl
      at false = refl
  with_stage-after stages.Sync count file has = refl
  with_stage-after stages.None count file has = absurd cc
  with_stage-after stages.Ready count file has = absurd cc
  with_stage-after stages.Filed count file has = absurd cc

-- and no frame of a fold is the job meanwhile
filed-called : (frame : Frame) (fold : FoldOf) → has_call fold.stage ≡ true → IsFiledBy frame (Some fold) → IsFiledBy frame (Some (called fold))
filed-called (Group lengths bytes) fold has filed = tt
filed-called (Change runs bytes) fold has filed = tt
filed-called (Shrink n) fold has filed = tt
filed-called (Fold count) fold has filed = let is : false ≡ true = sym (ap has_call filed) ∙ has in absurd cc

module _ {D : Type 0} where
  carries-none : (keeps : Type 0) (old new : PenOf D) → new ≡ old → CarriesOn keeps old new
  carries-none keeps old new is = record {
    shape_same = ap (λ (p : PenOf D). p.shape) is;
    orderly = λ o. subst (λ (p : PenOf D). IsOrderly p) (sym is) o;
    tally_same = λ o. ap (λ (p : PenOf D). tally_then p) is;
    frames_same = λ now o. ap (λ (p : PenOf D). frames_then p) is;
  }

  pub carries-trans : (before behind : Type 0) → (behind → before) → (old mid new : PenOf D) → CarriesOn before old mid → CarriesOn behind mid new → CarriesOn behind old new
  carries-trans before behind model old mid new first more = record {
    shape_same = more.shape_same ∙ first.shape_same;
    orderly = λ o. more.orderly (first.orderly o);
    tally_same = λ o. more.tally_same (first.orderly o) ∙ first.tally_same o;
    frames_same = λ kept o. more.frames_same kept (first.orderly o) ∙ first.frames_same (model kept) o;
  }

  module _ (old new : PenOf D) where
    -- the file counts and holds what these are with what is in hand
    module _ {X : Type 0} (more : X → Frame → X) (before behind : X) where
      then-step : (job : JobOf) → old.job ≡ Some job → next_job job new.job → new.fold ≡ old.fold → behind ≡ before
          → with_fold more new.fold (with_job more new.job behind) ≡ with_fold more old.fold (with_job more old.job before)
      then-step job was next fold same =
          ap (λ (f : Option FoldOf). with_fold more f (with_job more new.job behind)) fold
          ∙ (ap (λ (j : Option JobOf). with_fold more old.fold (with_job more j behind)) next.2
          ∙ (ap (λ (t : X). with_fold more old.fold (more t job.frame)) same
          ∙ sym (ap (λ (j : Option JobOf). with_fold more old.fold (with_job more j before)) was)))

      then-done : (job : JobOf) → old.job ≡ Some job → new.fold ≡ fold_behind job.frame old.fold → new.job ≡ None → behind ≡ more before job.frame
          → IsOrderly old → with_fold more new.fold (with_job more new.job behind) ≡ with_fold more old.fold (with_job more old.job before)
      then-done job was fold none is o =
          ap (λ (f : Option FoldOf). with_fold more f (with_job more new.job behind)) fold
          ∙ (ap (λ (j : Option JobOf). with_fold more (fold_behind job.frame old.fold) (with_job more j behind)) none
          ∙ (ap (λ (t : X). with_fold more (fold_behind job.frame old.fold) t) is
          ∙ (with_fold-behind more job.frame old.fold before (subst (λ (j : Option JobOf). IfSome j (λ k. IsFiledBy k.frame old.fold)) was o)
          ∙ sym (ap (λ (j : Option JobOf). with_fold more old.fold (with_job more j before)) was))))

      then-called : (fold : FoldOf) → has_call fold.stage ≡ true → HomesCalled fold old new → behind ≡ before
          → with_fold more new.fold (with_job more new.job behind) ≡ with_fold more old.fold (with_job more old.job before)
      then-called fold has homes same =
          ap (λ (f : Option FoldOf). with_fold more f (with_job more new.job behind)) homes.fold_is
          ∙ (ap (λ (j : Option JobOf). with_fold more (Some (called fold)) (with_job more j behind)) homes.job_same
          ∙ (ap (λ (t : X). with_fold more (Some (called fold)) (with_job more old.job t)) same
          ∙ (with_stage-after more fold.stage fold.count (with_job more old.job before) has
          ∙ sym (ap (λ (f : Option FoldOf). with_fold more f (with_job more old.job before)) homes.fold_was))))

      then-filed : (fold : FoldOf) → FilesFold fold old new → behind ≡ before → with_fold more new.fold (with_job more new.job behind) ≡ with_fold more old.fold (with_job more old.job before)
      then-filed fold filed same =
          ap (λ (f : Option FoldOf). with_fold more f (with_job more new.job behind)) filed.fold_is
          ∙ (ap (λ (j : Option JobOf). with_job more j behind) filed.job_is
          ∙ (ap (λ (t : X). more t (Fold fold.count)) same
          ∙ (sym (ap (λ (s : FoldStage). with_stage more s fold.count before) filed.ready)
          ∙ (sym (ap (λ (j : Option JobOf). with_fold more (Some fold) (with_job more j before)) filed.idle)
          ∙ sym (ap (λ (f : Option FoldOf). with_fold more f (with_job more old.job before)) filed.fold_was)))))

    module _ (keeps : Type 0) where
      carries-step : (job : JobOf) → old.job ≡ Some job → next_job job new.job → CountsSame old new → (keeps → FileSame old new) → CarriesOn keeps old new
      carries-step job was next counts file = record {
        shape_same = counts.shape_same;
        orderly = λ o.
            subst (λ (j : Option JobOf). IfSome j (λ k. IsFiledBy k.frame new.fold)) (sym next.2)
            (subst (IsFiledBy job.frame) (sym counts.fold_same)
            (subst (λ (j : Option JobOf). IfSome j (λ k. IsFiledBy k.frame old.fold)) was o));
        tally_same = λ o. then-step after old.tally new.tally job was next counts.fold_same counts.tally_same;
        frames_same = λ now o. then-step frames_with old.frames new.frames job was next counts.fold_same (file now).frames_same;
      }

      -- the frame of the job in the file
      frames-gained : (job : JobOf) → old.job ≡ Some job → IfSome old.job (λ job. FileGains job.frame old new) → new.frames ≡ frames_with old.frames job.frame
      frames-gained job was file =
          let gains : FileGains job.frame old new = subst (λ (o : Option JobOf). IfSome o (λ job. FileGains job.frame old new)) was file in
          gains.frames_more

      carries-done : (job : JobOf) → old.job ≡ Some job → CountsDone job.frame old new → (keeps → IfSome old.job (λ job. FileGains job.frame old new)) → CarriesOn keeps old new
      carries-done job was done file = record {
        shape_same = done.shape_same;
        orderly = λ o. subst (λ (j : Option JobOf). IfSome j (λ k. IsFiledBy k.frame new.fold)) (sym done.job_done) tt;
        tally_same = λ o. then-done after old.tally new.tally job was done.fold_is done.job_done done.tally_is o;
        frames_same = λ now o. then-done frames_with old.frames new.frames job was done.fold_is done.job_done (frames-gained job was (file now)) o;
      }

      carries-called : (fold : FoldOf) → has_call fold.stage ≡ true → HomesCalled fold old new → (keeps → FileSame old new) → CarriesOn keeps old new
      carries-called fold has homes file = record {
        shape_same = homes.shape_same;
        orderly = λ o. orderly old.job o;
        tally_same = λ o. then-called after old.tally new.tally fold has homes homes.tally_same;
        frames_same = λ now o. then-called frames_with old.frames new.frames fold has homes (file now).frames_same;
      }
        where
          filed : (job : Option JobOf) → IfSome job (λ k. IsFiledBy k.frame old.fold) → IfSome job (λ k. IsFiledBy k.frame new.fold)
          filed None o = tt
          filed (Some job) o = subst (IsFiledBy job.frame) (sym homes.fold_is) (filed-called job.frame fold has (subst (IsFiledBy job.frame) homes.fold_was o))

          orderly : (job : Option JobOf) → IfSome old.job (λ k. IsFiledBy k.frame old.fold) → IfSome new.job (λ k. IsFiledBy k.frame new.fold)
          orderly job o = subst (λ (j : Option JobOf). IfSome j (λ k. IsFiledBy k.frame new.fold)) (sym homes.job_same) (filed old.job o)

      carries-filed : (fold : FoldOf) → FilesFold fold old new → (keeps → FileSame old new) → CarriesOn keeps old new
      carries-filed fold filed file = record {
        shape_same = filed.shape_same;
        orderly = λ o. subst (λ (j : Option JobOf). IfSome j (λ k. IsFiledBy k.frame new.fold)) (sym filed.job_is) (subst (IsFiledBy (Fold fold.count)) (sym filed.fold_is) refl);
        tally_same = λ o. then-filed after old.tally new.tally fold filed filed.tally_same;
        frames_same = λ now o. then-filed frames_with old.frames new.frames fold filed (file now).frames_same;
      }

      pub carries-tick : (lane : Lane) (tick : Tick) → IsLaneTicked lane old new tick → (keeps → FileLaneTicked lane old new tick) → CarriesOn keeps old new
      carries-tick lanes.Log ticks.Idle is file = carries-none keeps old new is.1
      carries-tick lanes.Log ticks.Step is file = carries-step is.0 is.1 is.2 is.3 file
      carries-tick lanes.Log ticks.Done is file = carries-done is.0 is.1 is.3 file
      carries-tick lanes.Log ticks.Filed is file = absurd is
      carries-tick lanes.Log ticks.Waiting is file = absurd is
      carries-tick lanes.Home ticks.Idle is file = carries-none keeps old new is.1
      carries-tick lanes.Home ticks.Step is file = carries-called is.0 is.1 is.2 file
      carries-tick lanes.Home ticks.Done is file = absurd is
      carries-tick lanes.Home ticks.Filed is file = carries-filed is.0 is.1 file
      carries-tick lanes.Home ticks.Waiting is file = carries-none keeps old new is.1.same

      -- whatever it answers
      pub carries-ticked : (lane : Lane) (r : Result Tick VaultFault) → IfOk r (λ tick. IsLaneTicked lane old new tick)
          → (keeps → MatchResult r (λ tick. FileLaneTicked lane old new tick) (λ _. FileSame old new)) → OnOk r (CarriesOn keeps old new)
      carries-ticked lane (Ok tick) is file = carries-tick lane tick is file
      carries-ticked lane (Err fault) is file = tt

      -- with nothing in hand it is all there
      pub stands : CarriesOn keeps old new → IsIdle new → StandsInFile keeps old new
      stands carries idle = record {
        shape_same = carries.shape_same;
        tally_is = λ o. sym (with-none after new.tally) ∙ carries.tally_same o;
        frames_are = λ now o. sym (with-none frames_with new.frames) ∙ carries.frames_same now o;
      }
        where
          with-none : {X : Type 0} (more : X → Frame → X) (file : X) → with_fold more new.fold (with_job more new.job file) ≡ file
          with-none more file = ap (λ (f : Option FoldOf). with_fold more f (with_job more new.job file)) idle.1 ∙ ap (λ (j : Option JobOf). with_job more j file) idle.0
