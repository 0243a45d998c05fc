-- What a begin leaves a reader: it makes no call of the disk.
use Rattle.std.proofs.Common.{◌≡◌, ℕ, ◌+◌, ◌-◌, ◌*◌, ◌≤◌, true, false, List, [], ◌∷◌, length, map, Bool, Result, Ok, Err, All, sym, ap, subst, ◌∙◌, arith}
use Rattle.std.specs.Prelude.{IfOk, IfSome, OnOk, OnErr}
use Rattle.std.proofs.Math.Nat.{add-mul}
use Rattle.std.proofs.lemmas.List.Elements.{All-nil, All-cons, All-head, All-tail}
use Rattle.record_core.specs.Bytes.{Encoding}
use Rattle.disk_core.specs.State.{State}
use Rattle.disk_core.specs.Calls.{bytes_of}
use Rattle.segment_core.specs.declared.format.Shape.{Shape}
use Rattle.segment_core.specs.declared.found.Home as found
use Rattle.segment_core.specs.Frame.{Frame}
use Rattle.segment_core.specs.Tally.{nothing, tally_of, AreLegal}
use Rattle.segment_core.specs.Vector.{home_of}
use Rattle.segment_core.specs.Raw.{raw}
use Rattle.segment_core.proofs.Blanked.{AreLegalFrom-blanked}
use Rattle.segment_core.proofs.PlaceOf.{home_of_between}
use Rattle.pen_core.specs.declared.stage.FoldStage.TheVariants.{Home}
use Rattle.pen_core.specs.declared.fault.PenFault.{PenFault}
use Rattle.pen_core.specs.Folds.{IsWholeFold}
use Rattle.pen_core.specs.Held.{gate_of}
use Rattle.pen_core.specs.HomeRuns.{IsHomeRun, AreAscending}
use Rattle.pen_core.specs.PenOf.{PenOf, FoldOf}
use Rattle.pen_core.specs.Values.{writes_for}
use Rattle.pen_core.specs.Pen.{IsKept, FileSame, IsUnchanged, BeginsFold, IsFoldAnswer}
use Rattle.pen_core.proofs.HomeRows.{HasWidth, length-bytes_at}
use Rattle.pen_core.proofs.WritesFor.{ascending-inside}
use Rattle.witness_core.specs.Witnessed.{ShowsInTurn, EndBelow, HomesEndBelow, WitnessStart, IsWitnessed}
use Rattle.witness_core.proofs.Moments.{newest_shown}
use Rattle.witness_core.proofs.HomeTicks.{one_more, legal_written}
use Rattle.witness_core.proofs.Witnessed.{ShownOn, witnessed_as}

-- ---- the writes of a whole fold end below the gate

all_wide : {R : Type 0} (form : Encoding R) (width : ℕ) (records : List R) → ((r : R) → length (form.bytes_of r) ≡ width) → All (HasWidth width) (map form.bytes_of records)
all_wide form width [] wide = All-nil (HasWidth width)
all_wide form width (r ∷ records) wide = All-cons (HasWidth width) (form.bytes_of r) (map form.bytes_of records) (wide r) (all_wide form width records wide)

module _ (shape : Shape) (frames : List Frame) (vector : List (List ℕ)) (legal : AreLegal shape frames)
    (wide : All (HasWidth shape.width) vector) (size : length vector ≡ (tally_of frames).size) where
  run_below : (run : found.Home) → IsHomeRun shape.width (home_of shape frames) run → run.place + run.count * shape.width ≤ gate_of shape frames
  run_below run is =
      let some = is.some in
      let last : ℕ = run.position + run.count - 1 in
      let at = home_of_between shape frames last (run.place + (last - run.position) * shape.width) legal (is.adjacent last (omega arith) (omega arith)) in
      let count : run.count ≡ (last - run.position) + 1 = omega arith in
      let all : run.count * shape.width ≡ (last - run.position) * shape.width + 1 * shape.width = ap (λ n. n * shape.width) count ∙ add-mul (last - run.position) 1 shape.width in
      omega (arith, at.to)

  writes_below : (from : ℕ) (runs : List found.Home) → AreAscending from (tally_of frames).size runs → All (IsHomeRun shape.width (home_of shape frames)) runs
      → EndBelow (gate_of shape frames) (writes_for (raw shape.width) vector runs)
  writes_below from [] ascend each = tt
  writes_below from (run ∷ runs) ascend each =
      let inside = ascending-inside (run.position + run.count) (tally_of frames).size runs ascend.1 in
      let long = length-bytes_at shape.width vector run.position run.count wide (omega arith) in (
        omega (arith, long, run_below run (All-head (IsHomeRun shape.width (home_of shape frames)) run runs each)),
        writes_below (run.position + run.count) runs ascend.1 (All-tail (IsHomeRun shape.width (home_of shape frames)) run runs each),
      )

module _ {D : Type 0} (states : D → List State) (from : WitnessStart) (old new : PenOf D) (w : IsWitnessed from (states old.disk) old) (kept : IsKept (states new.disk) new)
    (disk_same : new.disk ≡ old.disk) (shape_same : new.shape ≡ old.shape) (gate_same : new.gate ≡ old.gate) (file : FileSame old new) where
  still : ShownOn old.shape from.clock_was (states new.disk) w.shown
  still = subst (λ disk. ShownOn old.shape from.clock_was (states disk) w.shown) (sym disk_same) (record { begun = w.begun; has = w.has_shown })

  pub same_job : new.job ≡ old.job → new.broken ≡ old.broken → HomesEndBelow old.gate new.fold → IsWitnessed from (states new.disk) new
  same_job job_same broken_same homes =
      witnessed_as from (states new.disk) new kept old.shape old.gate old.frames old.vector old.job shape_same gate_same file.frames_same file.vector_same job_same w.wide w.written w.shown
      w.written_as w.have_come still w.shows
      (λ sound. subst (λ disk. ShowsInTurn old.shape old.gate w.written w.shown (bytes_of (states disk)) old.job) (sym disk_same) (w.in_turn (sym broken_same ∙ sound))) homes

module _ {D : Type 0} (states : D → List State) (from : WitnessStart) (old new : PenOf D) (w : IsWitnessed from (states old.disk) old) (kept : IsKept (states new.disk) new) where
  pub still_witnessed : IsUnchanged old new → IsWitnessed from (states new.disk) new
  still_witnessed is =
      same_job states from old new w kept is.disk_same is.shape_same is.gate_same is.file_same is.job_same is.broken_same (subst (HomesEndBelow old.gate) (sym is.fold_same) w.homes_below)

  module _ {R : Type 0} (form : Encoding R) (records : List R) (wide : (r : R) → length (form.bytes_of r) ≡ form.width) (width : form.width ≡ old.shape.width)
      (values : old.vector ≡ map form.bytes_of records) where
    legal : AreLegal old.shape old.frames
    legal =
        let shown = newest_shown old.shape _ (states old.disk) w.shown w.has_shown in
        subst (AreLegal old.shape) w.written_as
        (AreLegalFrom-blanked old.shape nothing w.written (legal_written old.shape w.written w.shown (one_more w.written old.job w.shown w.shows) shown.legal))

    all_below : (fold : FoldOf) → IsWholeFold old.shape old.frames old.vector fold.left → EndBelow old.gate fold.left
    all_below fold whole =
        let cells : All (HasWidth old.shape.width) old.vector =
        subst (All (HasWidth old.shape.width)) (sym values) (subst (λ n. All (HasWidth n) (map form.bytes_of records)) width (all_wide form form.width records wide)) in
        subst (λ g. EndBelow g fold.left) (sym w.kept.gate_is)
        (subst (EndBelow (gate_of old.shape old.frames)) (sym whole.writes_are)
        (writes_below old.shape old.frames old.vector legal cells (sym w.kept.size_is ∙ ap (λ t. t.size) w.kept.tally_is) 0 whole.runs whole.runs_are.ascend whole.runs_are.each))

    folding : BeginsFold old new → IfSome new.fold (λ fold. IsWholeFold old.shape old.frames old.vector fold.left) → IsWitnessed from (states new.disk) new
    folding is plans =
        let fold : FoldOf = record { count = old.tally.changes; left = is.left; stage = Home (length is.left) } in
        let whole = subst (λ o. IfSome o (λ f. IsWholeFold old.shape old.frames old.vector f.left)) is.fold_is plans in
        same_job states from old new w kept is.disk_same is.shape_same is.gate_same is.file_same is.job_same is.broken_same
        (subst (HomesEndBelow old.gate) (sym is.fold_is) (all_below fold whole))

    answered : (begun : Bool) → IsFoldAnswer old new begun → IfSome new.fold (λ fold. IsWholeFold old.shape old.frames old.vector fold.left) → IsWitnessed from (states new.disk) new
    answered true is plans = folding is plans
    answered false is plans = subst (λ (pen : PenOf D). IsWitnessed from (states pen.disk) pen) (sym is.1) w

    pub fold_witnessed : (result : Result Bool PenFault) → IfOk result (λ begun. IsFoldAnswer old new begun)
        → OnOk result (IfSome new.fold (λ fold. IsWholeFold old.shape old.frames old.vector fold.left)) → OnErr result (IsUnchanged old new) → IsWitnessed from (states new.disk) new
    fold_witnessed (Ok begun) is plans same = answered begun is plans
    fold_witnessed (Err fault) is plans same = still_witnessed same

-- where a begin is not refused, no job was in hand, and the same disk is
pub disk_after_fold : {D : Type 0} (old new : PenOf D) (result : Result Bool PenFault) → IfOk result (λ begun. IsFoldAnswer old new begun) → OnErr result (IsUnchanged old new) → new.disk ≡ old.disk
disk_after_fold old new (Ok true) is same = is.disk_same
disk_after_fold old new (Ok false) is same = ap (λ pen. pen.disk) is.1
disk_after_fold old new (Err fault) is same = same.disk_same
