-- Each exit that makes a call builds what its tick knows, and cites one lemma for each clause.
use Rattle.std.proofs.Common.{◌∙◌, arith, Some, inr, refl, sym, ap, subst}
use Rattle.pen_core.specs.declared.fault.PenFault.TheVariants.{Disk}
use Rattle.pen_core.specs.declared.step.PenStep.TheVariants.{Body}
use Rattle.pen_core.specs.declared.stage.FoldStage.TheVariants.{Filed}
use Rattle.pen_core.specs.Fields.{IsSoundPen}
use Rattle.pen_core.specs.InHand.{fold_of}
use Rattle.pen_core.specs.Inside.{job_of}
use Rattle.pen_core.proofs.Filed.{Files, filed_frame, pen_filed}
use Rattle.pen_core.proofs.FoldSeen.{seen, fold_is_seen, calls_held, ready_or_filed, ready_at, none_at, job_some, called_seen}
use Rattle.pen_core.proofs.HomeCall.{HomeCall, home_call, may_call, home_leaves, home_broken, broken_stays, home_called, called_stays}
use Rattle.pen_core.proofs.Whole.{broken_seen, sound_kept, sound_idle}
use Rattle.pen_core.proofs.pen.Pen.tick_home.Given.{Over}
use Rattle.pen_core.proofs.pen.Pen.tick_home.Goals.{After-call, After-swap}
use Rattle.pen_core.proofs.pen.Pen.tick_home.Goals as goal

pub returns-then-self-clause-images : goal.returns-then-self-clause-images
returns-then-self-clause-images g c = rw (← c.self.view_is) (sound_idle c.self.invariant)

pub returns-then-self-clause-kept : goal.returns-then-self-clause-kept
returns-then-self-clause-kept g c = rw (← c.self.view_is) (sound_kept c.self.invariant)

-- ---- a call

pub call-requires : goal.call-requires
call-requires g c =
    let s = c.self.inside in (
      s.gate,
      c.self.invariant.job.gate_fits,
      (λ model.
          let k = c.self.invariant.job.knows model in
          let there = g.met.D.Disk.reads_an_image s.disk model in
          omega (arith, k.gate_is, k.file.gate_synced, there.no_shorter)),
      may_call c.self.invariant (sym c.has_call.ensures ∙ c.if-has_call.true),
    )

pub advance-requires : goal.advance-requires
advance-requires g c = (c.self.inside.gate, may_call c.self.invariant (sym c.has_call.ensures ∙ c.if-has_call.true))

-- what the tick knows of a call
abbrev made : (g : Over) (c : After-call g) → HomeCall g.D.Disk.keeps g.D.Disk.states c.self.inside c.call.new.disk
made g c =
    home_call c.self.invariant c.if-self.false (sym c.has_call.ensures ∙ c.if-has_call.true) c.call.ensures.model g.met.D.Disk.reads_an_image

-- that failed

pub invariant_of-self : goal.invariant_of-self
invariant_of-self g c =
    let tick = made g (goal.at.invariant_of-self g c).After-call in
    home_broken tick c.in-Err.ensures.failed

pub returns-in-Err-clause-images : goal.returns-in-Err-clause-images
returns-in-Err-clause-images g c =
    let tick = made g (goal.at.returns-in-Err-clause-images g c).After-call in
    rw (← c.self.view_is) (home_leaves tick c.call.result c.call.ensures.done c.call.ensures.failed)

pub returns-in-Err-clause-kept : goal.returns-in-Err-clause-kept
returns-in-Err-clause-kept g c = sound_kept (invariant_of-self g c)

pub returns-in-Err-clause-refused : goal.returns-in-Err-clause-refused
returns-in-Err-clause-refused g c = rw (← c.self.view_is) (
    let s = c.self.inside in
    let calls = sym c.has_call.ensures ∙ c.if-has_call.true in
    inr (
      seen s.fold,
      c.if-self.false,
      fold_is_seen s.fold (calls_held s.fold.stage calls),
      calls,
      ap (λ fault. Disk fault) c.in-Err.ensures.cause.0,
      broken_seen g.D.Disk.states s c.call.new.disk,
    ))

pub returns-in-Err-clause-file : goal.returns-in-Err-clause-file
returns-in-Err-clause-file g c =
    let tick = made g (goal.at.returns-in-Err-clause-file g c).After-call in
    rw (← c.self.view_is) (λ model.
    let same = broken_stays tick c.in-Err.ensures.failed model in
    record { frames_same = same.frames_same; vector_same = same.vector_same })

-- that succeeded

pub invariant_of-self-then-has_call : goal.invariant_of-self-then-has_call
invariant_of-self-then-has_call g c =
    let tick = made g (goal.at.invariant_of-self-then-has_call g c).After-call in
    subst (λ f. IsSoundPen g.D.Disk.keeps g.D.Disk.states (record c.self.inside { disk = c.call.new.disk; fold = f })) (sym c.advance.ensures)
    (home_called tick c.in_default.ensures.done)

pub returns-then-has_call-clause-images : goal.returns-then-has_call-clause-images
returns-then-has_call-clause-images g c =
    let tick = made g (goal.at.returns-then-has_call-clause-images g c).After-call in
    rw (← c.self.view_is) (home_leaves tick c.call.result c.call.ensures.done c.call.ensures.failed)

pub returns-then-has_call-clause-kept : goal.returns-then-has_call-clause-kept
returns-then-has_call-clause-kept g c = sound_kept (invariant_of-self-then-has_call g c)

pub returns-then-has_call-clause-ticked : goal.returns-then-has_call-clause-ticked
returns-then-has_call-clause-ticked g c = rw (← c.self.view_is) (
    let s = c.self.inside in
    let calls = sym c.has_call.ensures ∙ c.if-has_call.true in (
      seen s.fold,
      calls,
      record {
        fold_was = fold_is_seen s.fold (calls_held s.fold.stage calls);
        fold_is = ap fold_of c.advance.ensures
            ∙ called_seen c.self.invariant calls;
        job_same = refl;
        shape_same = refl;
        tally_same = refl;
        gate_same = refl;
        room_same = refl;
        places_same = refl;
      },
    ))

pub returns-then-has_call-clause-file : goal.returns-then-has_call-clause-file
returns-then-has_call-clause-file g c =
    let tick = made g (goal.at.returns-then-has_call-clause-file g c).After-call in
    rw (← c.self.view_is) (λ model.
    let same = called_stays tick c.in_default.ensures.done model in
    record { frames_same = same.frames_same; vector_same = same.vector_same })

-- ---- no call

pub returns-then-is_none-clause-images : goal.returns-then-is_none-clause-images
returns-then-is_none-clause-images g c = rw (← c.self.view_is) (sound_idle c.self.invariant)

pub returns-then-is_none-clause-kept : goal.returns-then-is_none-clause-kept
returns-then-is_none-clause-kept g c = rw (← c.self.view_is) (sound_kept c.self.invariant)

pub returns-then-is_some-clause-images : goal.returns-then-is_some-clause-images
returns-then-is_some-clause-images g c = rw (← c.self.view_is) (sound_idle c.self.invariant)

pub returns-then-is_some-clause-kept : goal.returns-then-is_some-clause-kept
returns-then-is_some-clause-kept g c = rw (← c.self.view_is) (sound_kept c.self.invariant)

pub returns-then-is_some-clause-ticked : goal.returns-then-is_some-clause-ticked
returns-then-is_some-clause-ticked g c = rw (← c.self.view_is) (
    let s = c.self.inside in (
      seen s.fold,
      record {
        fold_was = fold_is_seen s.fold (sym c.is_none.ensures ∙ c.if-is_none.false);
        at = ready_or_filed s.fold.stage (sym c.has_call.ensures ∙ c.if-has_call.false) (sym c.is_none.ensures ∙ c.if-is_none.false);
        busy = job_some s.shape s.bytes.items s.step (sym c.is_some.ensures ∙ c.if-is_some.true);
        same = refl;
      },
    ))

-- ---- the fold's frame is the job

-- what the tick knows of the frame
files : (g : Over) (c : After-swap g)
    → Files g.D.Disk.keeps g.D.Disk.states c.self.inside (record c.self.inside {
      bytes = c.swap.new.x;
      fold = record c.self.inside.fold { stage = Filed; frame = c.swap.new.y };
    })
files g c =
    let s = c.self.inside in
    let idle = none_at s.step (sym c.is_some.ensures ∙ c.if-is_some.false) in
    record {
      sound = c.self.invariant;
      going = c.if-self.false;
      idle = idle;
      ready = ready_at c.self.invariant
          (sym c.has_call.ensures ∙ c.if-has_call.false) (sym c.is_none.ensures ∙ c.if-is_none.false) idle;
      reads = g.met.D.Disk.reads_an_image;
      swapped = ap (λ v. v.items) c.swap.ensures.x_after;
      filed = refl;
      count_same = refl;
      runs_same = refl;
      writes_same = refl;
      done_same = refl;
    }

pub invariant_of-self-2 : goal.invariant_of-self-2
invariant_of-self-2 g c = pen_filed (files g (goal.at.invariant_of-self-2 g c).After-swap)

pub returns-clause-images : goal.returns-clause-images
returns-clause-images g c = rw (← c.self.view_is) (sound_idle c.self.invariant)

pub returns-clause-kept : goal.returns-clause-kept
returns-clause-kept g c = sound_kept (invariant_of-self-2 g c)

pub returns-clause-ticked : goal.returns-clause-ticked
returns-clause-ticked g c = rw (← c.self.view_is) (
    let s = c.self.inside in
    let filed = files g (goal.at.returns-clause-ticked g c).After-swap in (
      seen s.fold,
      record {
        fold_was = fold_is_seen s.fold (sym c.is_none.ensures ∙ c.if-is_none.false);
        ready = filed.ready;
        idle = ap (job_of s.shape s.bytes.items) filed.idle;
        fold_is = refl;
        job_is = ap (λ f. Some (record { frame = f; step = Body })) (filed_frame filed);
        disk_same = refl;
        shape_same = refl;
        tally_same = refl;
        gate_same = refl;
        places_same = refl;
      },
    ))

pub returns-then-has_call-clause-goes_on : goal.returns-then-has_call-clause-goes_on
returns-then-has_call-clause-goes_on g c = λ model.
    c.in_default.ensures.goes_on (subst g.D.Disk.keeps (sym (ap (λ pen. pen.disk) c.self.view_is)) model)

pub returns-then-has_call-clause-model : goal.returns-then-has_call-clause-model
returns-then-has_call-clause-model g c = λ model.
    subst g.D.Disk.keeps (ap (λ pen. pen.disk) c.self.view_is) (c.call.ensures.model model)

pub returns-clause-goes_on : goal.returns-clause-goes_on
returns-clause-goes_on g c = λ model.
    subst g.D.Disk.keeps (sym (ap (λ pen. pen.disk) c.self.view_is)) model

pub returns-clause-model : goal.returns-clause-model
returns-clause-model g c = λ model.
    subst g.D.Disk.keeps (ap (λ pen. pen.disk) c.self.view_is) model
