use Rattle.std.proofs.Common.{◌≡◌, ℕ, ◌+◌, ◌≤◌, take, refl, sym, ap, subst, arith}
use Rattle.disk_core.specs.Moments.{clock}
use Rattle.pen_core.specs.declared.stage.Ticked.{Ticked}
use Rattle.pen_core.specs.declared.stage.Ticked.TheVariants as ticks
use Rattle.pen_core.specs.Pen.{IsTicked, FileTicked}
use Rattle.flush_core.specs.declared.lane.Lane.{Lane}
use Rattle.flush_core.specs.declared.lane.Tick.TheVariants.{Idle, Step, Done}
use Rattle.flush_core.specs.declared.fault.FlushFault.TheVariants.{Pen}
use Rattle.flush_core.specs.Flusher.{flusher_of, read_as}
use Rattle.flush_core.specs.Refusals.{IsLaneTicked, IsLaneFault, lane_calls}
use Rattle.flush_core.proofs.Goes.{FlusherGoesOn-same}
use Rattle.flush_core.proofs.Told.{HasTold-calls}
use Rattle.flush_core.proofs.Kept.{leaves_job, ticked_kept, ticked_opening}
use Rattle.flush_core.proofs.Stands.{HandSame-idle, HandSame-step, HandSame-fault, HandSame-home, Stands-called}
use Rattle.flush_core.proofs.flusher.Flusher.tick.Goals as goal

-- the clock doesn't go back
later : (old new calls : ℕ) → new ≡ old + calls → old ≤ new
later old new calls time = omega arith

pub returns-in-Ok-Idle : goal.returns-in-Ok-Idle
returns-in-Ok-Idle g c =
    let s = c.self.inside in
    let pen = c.tick_log.new.self in
    let e = c.in-Ok-Idle.ensures in
    let ticked : IsTicked s.pen pen ticks.Idle = subst (IsTicked s.pen pen) c.in-Ok-Idle.field-0-is e.ticked in
    rw (← c.self.view_is) (record {
      images = λ model. leaves_job c.self.invariant.0 (e.model model) (e.images model);
      kept = e.kept;
      ticked = subst (λ (l : Lane). IsLaneTicked l s.pen pen Idle) (sym c.in-Log.is) ticked;
      settled = refl;
      refused = tt;
      failed = tt;
      no_less = omega arith;
      whole = e.whole;
      same = record { pass_same = refl; mark_same = refl; before_same = refl; taken_same = refl };
      opening = λ model. ap (λ cells. read_as g.R.Record.form (take s.before cells)) (subst (FileTicked s.pen pen) c.in-Ok-Idle.field-0-is (e.file model)).vector_same;
      time = subst (λ (l : Lane). clock (g.D.Disk.states pen.disk) ≡ clock (g.D.Disk.states s.pen.disk) + lane_calls l s.pen) (sym c.in-Log.is) e.time;
      faults = e.faults;
      model = e.model;
      goes_on = e.goes_on;
    })

pub returns-in-Ok-Step : goal.returns-in-Ok-Step
returns-in-Ok-Step g c =
    let s = c.self.inside in
    let pen = c.tick_log.new.self in
    let e = c.in-Ok-Step.ensures in
    let ticked : IsTicked s.pen pen ticks.Step = subst (IsTicked s.pen pen) c.in-Ok-Step.field-0-is e.ticked in
    rw (← c.self.view_is) (record {
      images = λ model. leaves_job c.self.invariant.0 (e.model model) (e.images model);
      kept = e.kept;
      ticked = subst (λ (l : Lane). IsLaneTicked l s.pen pen Step) (sym c.in-Log.is) ticked;
      settled = refl;
      refused = tt;
      failed = tt;
      no_less = omega arith;
      whole = e.whole;
      same = record { pass_same = refl; mark_same = refl; before_same = refl; taken_same = refl };
      opening = λ model. ap (λ cells. read_as g.R.Record.form (take s.before cells)) (subst (FileTicked s.pen pen) c.in-Ok-Step.field-0-is (e.file model)).vector_same;
      time = subst (λ (l : Lane). clock (g.D.Disk.states pen.disk) ≡ clock (g.D.Disk.states s.pen.disk) + lane_calls l s.pen) (sym c.in-Log.is) e.time;
      faults = e.faults;
      model = e.model;
      goes_on = e.goes_on;
    })

pub returns-in-Ok-Done : goal.returns-in-Ok-Done
returns-in-Ok-Done g c =
    let s = c.self.inside in
    let pen = c.tick_log.new.self in
    let e = c.in-Ok-Done.ensures in
    let ticked : IsTicked s.pen pen ticks.Done = subst (IsTicked s.pen pen) c.in-Ok-Done.field-0-is e.ticked in
    rw (← c.self.view_is) (record {
      images = λ model. leaves_job c.self.invariant.0 (e.model model) (e.images model);
      kept = e.kept;
      ticked = subst (λ (l : Lane). IsLaneTicked l s.pen pen Done) (sym c.in-Log.is) ticked;
      settled = refl;
      refused = tt;
      failed = tt;
      no_less = c.self.invariant.0.settled_taken;
      whole = e.whole;
      same = record { pass_same = refl; mark_same = refl; before_same = refl; taken_same = refl };
      opening = λ model. ticked_opening c.self.invariant.0 pen c.in-Ok-Done.field-0 c.in-Ok-Done.field-0-is e.ticked (e.file model) (e.model model);
      time = subst (λ (l : Lane). clock (g.D.Disk.states pen.disk) ≡ clock (g.D.Disk.states s.pen.disk) + lane_calls l s.pen) (sym c.in-Log.is) e.time;
      faults = e.faults;
      model = e.model;
      goes_on = e.goes_on;
    })

pub returns-in-Err : goal.returns-in-Err
returns-in-Err g c =
    let s = c.self.inside in
    let pen = c.tick_log.new.self in
    let e = c.in-Err.ensures in
    rw (← c.self.view_is) (record {
      images = λ model. leaves_job c.self.invariant.0 (e.model model) (e.images model);
      kept = e.kept;
      ticked = tt;
      settled = tt;
      refused = subst (λ (l : Lane). IsLaneFault l s.pen pen (Pen c.in-Err.fault)) (sym c.in-Log.is) e.refused;
      failed = refl;
      no_less = omega arith;
      whole = tt;
      same = record { pass_same = refl; mark_same = refl; before_same = refl; taken_same = refl };
      opening = λ model. ap (λ cells. read_as g.R.Record.form (take s.before cells)) (e.file_stays model).vector_same;
      time = subst (λ (l : Lane). clock (g.D.Disk.states pen.disk) ≡ clock (g.D.Disk.states s.pen.disk) + lane_calls l s.pen) (sym c.in-Log.is) e.time;
      faults = e.faults;
      model = e.model;
      goes_on = λ _. tt;
    })

pub returns-after-tick_home-clause-images : goal.returns-after-tick_home-clause-images
returns-after-tick_home-clause-images g c =
    rw (← c.self.view_is) (λ model. leaves_job c.self.invariant.0 (c.tick_home.ensures.model model) (c.tick_home.ensures.images model))

pub invariant_of-self : goal.invariant_of-self
invariant_of-self g c =
    let e = c.in-Ok-Idle.ensures in
    let is = λ (t : Ticked). IsTicked c.self.inside.pen c.tick_log.new.self t in
    Stands-called g.D.Disk.keeps g.D.Disk.states c.self.invariant c.tick_log.new.self _ (HandSame-idle (subst is c.in-Ok-Idle.field-0-is e.ticked)) e.time e.model
    (λ model. (subst (FileTicked c.self.inside.pen c.tick_log.new.self) c.in-Ok-Idle.field-0-is (e.file model)).vector_same) e.images

pub invariant_of-self-in-Ok-Step : goal.invariant_of-self-in-Ok-Step
invariant_of-self-in-Ok-Step g c =
    let e = c.in-Ok-Step.ensures in
    let is = λ (t : Ticked). IsTicked c.self.inside.pen c.tick_log.new.self t in
    Stands-called g.D.Disk.keeps g.D.Disk.states c.self.invariant c.tick_log.new.self _ (HandSame-step (subst is c.in-Ok-Step.field-0-is e.ticked)) e.time e.model
    (λ model. (subst (FileTicked c.self.inside.pen c.tick_log.new.self) c.in-Ok-Step.field-0-is (e.file model)).vector_same) e.images

pub invariant_of-self-in-Err : goal.invariant_of-self-in-Err
invariant_of-self-in-Err g c =
    let e = c.in-Err.ensures in
    Stands-called g.D.Disk.keeps g.D.Disk.states c.self.invariant c.tick_log.new.self _ (HandSame-fault c.in-Err.fault e.refused) e.time e.model
    (λ model. (e.file_stays model).vector_same) e.images

pub invariant_of-self-in-Home : goal.invariant_of-self-in-Home
invariant_of-self-in-Home g c =
    let e = c.tick_home.ensures in
    Stands-called g.D.Disk.keeps g.D.Disk.states c.self.invariant c.tick_home.new.self _ (HandSame-home c.tick_home.result e.ticked e.refused) e.time e.model
    (λ model. (e.file model).vector_same) e.images

pub invariant_of-self-in-Ok-Done : goal.invariant_of-self-in-Ok-Done
invariant_of-self-in-Ok-Done g c =
    let s = c.self.inside in
    let form = g.R.Record.form in
    let pen = c.tick_log.new.self in
    let e = c.in-Ok-Done.ensures in
    let order = c.self.invariant.0.settled_taken in
    let new = flusher_of form pen s.pass s.mark s.before s.taken s.taken in
    let opening : g.D.Disk.keeps pen.disk → read_as form (take s.before pen.vector) ≡ read_as form (take s.before s.pen.vector) =
    λ model. ticked_opening c.self.invariant.0 pen c.in-Ok-Done.field-0 c.in-Ok-Done.field-0-is e.ticked (e.file model) (e.model model) in
    let goes = FlusherGoesOn-same (g.D.Disk.keeps pen.disk) (flusher_of form s.pen s.pass s.mark s.before s.taken s.settled) new refl refl refl (omega arith) (omega arith) opening in (
      ticked_kept c.self.invariant.0 pen c.in-Ok-Done.field-0 (g.D.Disk.keeps pen.disk) c.in-Ok-Done.field-0-is e.ticked e.file e.model,
      HasTold-calls c.self.invariant.1 c.self.invariant.0 (g.D.Disk.keeps pen.disk) (g.D.Disk.states pen.disk) new (later _ _ _ e.time) e.model c.tick_log.ensures.images goes refl,
    )
