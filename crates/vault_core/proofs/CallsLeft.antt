-- How many calls of the device the work in hand makes at most.
use Rattle.std.proofs.Common.{◌≡◌, ◌⊎◌, ℕ, ◌+◌, ◌-◌, ◌≤◌, Bool, true, false, Option, Some, None, inl, inr, refl, ap, ◌∙◌, arith}
use Rattle.std.specs.Prelude.{nat_lt, if◌then◌else◌, max, Result, Ok, Err, IfOk, OnOk, MatchResult}
use Rattle.std.proofs.lemmas.Bool.Decides.{nat_tests}
use Rattle.segment_core.specs.Frame.{Frame, Group, Change, Shrink, Fold}
use Rattle.pen_core.specs.Step.{steps_left}
use Rattle.pen_core.specs.declared.step.PenStep.{PenStep}
use Rattle.pen_core.specs.declared.step.PenStep.TheVariants as steps
use Rattle.pen_core.specs.declared.stage.FoldStage.{FoldStage}
use Rattle.pen_core.specs.declared.stage.FoldStage.TheVariants as stages
use Rattle.pen_core.specs.PenOf.{PenOf, JobOf, FoldOf}
use Rattle.pen_core.specs.InHand.{has_call, stage_after}
use Rattle.pen_core.specs.Pen.{FilesFold, IsWaiting, HomesCalled, fold_behind, log_left, fold_stage, calls_due, home_calls_due}
use Rattle.pen_core.proofs.Settled.{steps_left-after}
use Rattle.flush_core.specs.declared.lane.Lane.{Lane}
use Rattle.flush_core.specs.declared.lane.Lane.TheVariants as lanes
use Rattle.flush_core.specs.declared.lane.Tick.{Tick}
use Rattle.flush_core.specs.declared.lane.Tick.TheVariants as ticks
use Rattle.flush_core.specs.Refusals.{IsLaneTicked, lane_calls}
use Rattle.vault_core.specs.declared.fault.VaultFault.{VaultFault}
use Rattle.vault_core.specs.Settles.{fold_calls, calls_left}

-- a call of a fold leaves one less
fold_calls-after : (stage : FoldStage) → has_call stage ≡ true → fold_calls (stage_after stage) + 1 ≤ fold_calls stage
fold_calls-after (stages.Home n) has = one_less (nat_lt 1 n) refl
  where
    one_less : (b : Bool) → nat_lt 1 n ≡ b → fold_calls (if b then stages.Home (n - 1) else stages.Sync) + 1 ≤ max 1 n + 5
    one_less true is = grind (arith, nat_tests)
    one_less false is = grind (arith, nat_tests)
fold_calls-after stages.Sync has = omega arith
fold_calls-after stages.None has = absurd cc
fold_calls-after stages.Ready has = absurd cc
fold_calls-after stages.Filed has = absurd cc

fold_calls-some : (stage : FoldStage) → (if has_call stage then 1 else 0) ≤ fold_calls stage
fold_calls-some (stages.Home n) = omega arith
fold_calls-some stages.Sync = omega arith
fold_calls-some stages.None = omega arith
fold_calls-some stages.Ready = omega arith
fold_calls-some stages.Filed = omega arith

-- a frame that stands in the file ends its fold, or leaves it as it is
fold_calls-behind : (frame : Frame) (fold : Option FoldOf) → fold_calls (fold_stage (fold_behind frame fold)) ≤ fold_calls (fold_stage fold)
fold_calls-behind (Group lengths bytes) fold = omega arith
fold_calls-behind (Change runs bytes) fold = omega arith
fold_calls-behind (Shrink n) fold = omega arith
fold_calls-behind (Fold count) fold = omega arith

steps_left-some : (step : PenStep) → 1 ≤ steps_left step
steps_left-some steps.Body = omega arith
steps_left-some steps.BodySync = omega arith
steps_left-some steps.Gate = omega arith
steps_left-some steps.GateSync = omega arith

calls_due-few : (broken : Bool) (job : Option JobOf) → calls_due broken job ≤ log_left job
calls_due-few true job = omega arith
calls_due-few false None = omega arith
calls_due-few false (Some job) = steps_left-some job.step

home_calls_due-few : (broken : Bool) (fold : Option FoldOf) → home_calls_due broken fold ≤ fold_calls (fold_stage fold)
home_calls_due-few true fold = omega arith
home_calls_due-few false None = omega arith
home_calls_due-few false (Some fold) = fold_calls-some fold.stage

abbrev calls_in : FoldStage → ℕ
calls_in stage = if has_call stage then 1 else 0

no_call : (stage : FoldStage) → (stage ≡ stages.Ready) ⊎ (stage ≡ stages.Filed) → calls_in stage ≡ 0
no_call stage (inl ready) = ap calls_in ready
no_call stage (inr filed) = ap calls_in filed

-- ---- ticks

-- no tick makes more calls than are left
pub lane_calls-few : {D : Type 0} (lane : Lane) (pen : PenOf D) → lane_calls lane pen ≤ calls_left pen
lane_calls-few lanes.Log pen = omega (arith, calls_due-few pen.broken pen.job)
lane_calls-few lanes.Home pen = omega (arith, home_calls_due-few pen.broken pen.fold)

-- and one that succeeds leaves as many less as it makes
pub lane_calls-ticked : {D : Type 0} (lane : Lane) (old new : PenOf D) (tick : Tick) → old.broken ≡ false → IsLaneTicked lane old new tick
    → lane_calls lane old + calls_left new ≤ calls_left old
lane_calls-ticked lanes.Log old new ticks.Idle whole ticked =
    let due : calls_due old.broken old.job ≡ 0 = ap (λ b. calls_due b old.job) whole ∙ ap (calls_due false) ticked.0 in
    omega (arith, due, ap calls_left ticked.1)
lane_calls-ticked lanes.Log old new ticks.Step whole ticked =
    let job = ticked.0 in
    let next = ticked.2 in
    let due : calls_due old.broken old.job ≡ 1 = ap (λ b. calls_due b old.job) whole ∙ ap (calls_due false) ticked.1 in
    let left : log_left old.job ≡ steps_left job.step = ap log_left ticked.1 in
    let rest : log_left new.job ≡ steps_left next.0 = ap log_left next.2 in
    omega (arith, due, left, rest, steps_left-after job.step next.0 next.1, ap (λ f. fold_calls (fold_stage f)) ticked.3.fold_same)
lane_calls-ticked lanes.Log old new ticks.Done whole ticked =
    let due : calls_due old.broken old.job ≡ 1 = ap (λ b. calls_due b old.job) whole ∙ ap (calls_due false) ticked.1 in
    let left : log_left old.job ≡ 1 = ap log_left ticked.1 ∙ ap steps_left ticked.2 in
    let rest : log_left new.job ≡ 0 = ap log_left ticked.3.job_done in
    omega (arith, due, left, rest, ap (λ f. fold_calls (fold_stage f)) ticked.3.fold_is, fold_calls-behind ticked.0.frame old.fold)
lane_calls-ticked lanes.Log old new ticks.Filed whole ticked = absurd ticked
lane_calls-ticked lanes.Log old new ticks.Waiting whole ticked = absurd ticked
lane_calls-ticked lanes.Home old new ticks.Idle whole ticked =
    let due : home_calls_due old.broken old.fold ≡ 0 = ap (λ b. home_calls_due b old.fold) whole ∙ ap (home_calls_due false) ticked.0 in
    omega (arith, due, ap calls_left ticked.1)
lane_calls-ticked lanes.Home old new ticks.Step whole ticked =
    let fold = ticked.0 in
    let called : HomesCalled fold old new = ticked.2 in
    let due : home_calls_due old.broken old.fold ≡ 1 = ap (λ b. home_calls_due b old.fold) whole ∙ ap (home_calls_due false) called.fold_was
    ∙ ap {B = ℕ} (λ b. if b then 1 else 0) ticked.1 in
    let was = ap (λ f. fold_calls (fold_stage f)) called.fold_was in
    let is = ap (λ f. fold_calls (fold_stage f)) called.fold_is in
    omega (arith, due, was, is, fold_calls-after fold.stage ticked.1, ap log_left called.job_same)
lane_calls-ticked lanes.Home old new ticks.Done whole ticked = absurd ticked
lane_calls-ticked lanes.Home old new ticks.Filed whole ticked =
    let filed : FilesFold ticked.0 old new = ticked.1 in
    let due : home_calls_due old.broken old.fold ≡ 0 = ap (λ b. home_calls_due b old.fold) whole ∙ ap (home_calls_due false) filed.fold_was ∙ ap calls_in filed.ready in
    let was : fold_calls (fold_stage old.fold) ≡ 4 = ap (λ f. fold_calls (fold_stage f)) filed.fold_was ∙ ap fold_calls filed.ready in
    let is : fold_calls (fold_stage new.fold) ≡ 0 = ap (λ f. fold_calls (fold_stage f)) filed.fold_is in
    omega (arith, due, was, is, ap log_left filed.idle, ap log_left filed.job_is)
lane_calls-ticked lanes.Home old new ticks.Waiting whole ticked =
    let waiting : IsWaiting ticked.0 old new = ticked.1 in
    let none : calls_in ticked.0.stage ≡ 0 = no_call ticked.0.stage waiting.at in
    let due : home_calls_due old.broken old.fold ≡ 0 = ap (λ b. home_calls_due b old.fold) whole ∙ ap (home_calls_due false) waiting.fold_was ∙ none in
    omega (arith, due, ap calls_left waiting.same)

-- and so whatever a tick answers
pub lane_time : {D : Type 0} (lane : Lane) (old new : PenOf D) (before behind : ℕ) (r : Result Tick VaultFault) → behind ≡ before + lane_calls lane old
    → OnOk r ((old.broken ≡ false) × (new.broken ≡ false)) → IfOk r (λ tick. IsLaneTicked lane old new tick)
    → MatchResult r (λ _. behind + calls_left new ≤ before + calls_left old) (λ _. behind ≤ before + calls_left old)
lane_time lane old new before behind (Ok tick) is whole ticked = omega (arith, is, lane_calls-ticked lane old new tick whole.0 ticked)
lane_time lane old new before behind (Err fault) is whole ticked = omega (arith, is, lane_calls-few lane old)
