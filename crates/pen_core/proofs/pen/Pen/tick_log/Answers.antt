-- Each exit that makes a call builds what its tick knows, and cites one lemma for each clause.
use Rattle.std.proofs.lemmas.Grind.{common_steps}
use Rattle.std.proofs.Common.{◌≡◌, ◌+◌, ◌-◌, length, inr, refl, sym, ap, ◌∙◌, subst, arith}
use Rattle.std.specs.Prelude.{vec_len, vec_capacity}
use Rattle.pen_core.specs.declared.fault.PenFault.TheVariants.{Disk}
use Rattle.pen_core.specs.declared.stage.Ticked.TheVariants as ticks
use Rattle.pen_core.specs.Fields.{seen_as}
use Rattle.pen_core.specs.Pen.{LogTickCalls, LogTickFails}
use Rattle.pen_core.specs.Vectors.{frame_at}
use Rattle.pen_core.specs.Inside.{job_of}
use Rattle.pen_core.specs.InHand.{live_after}
use Rattle.pen_core.proofs.Whole.{broken_seen, sound_kept, sound_idle, last_step}
use Rattle.pen_core.proofs.Listed.{homes_in_turn}
use Rattle.pen_core.proofs.LogCall.{LogCall, log_call, log_leaves, log_broken, log_calls, log_fails, broken_file, log_next, next_file, counts_after, gate_moved, more_frames, vector_then}
use Rattle.pen_core.proofs.LastTick.{LastCall, log_last, fold_seen, other_unfiled}
use Rattle.pen_core.proofs.pen.Pen.tick_log.Given.{Over}
use Rattle.pen_core.proofs.pen.Pen.tick_log.Goals.{After-call, After-len-self-inside}
use Rattle.pen_core.proofs.pen.Pen.tick_log.Goals as goal

-- ---- no call

pub returns-then-self-clause-images : goal.returns-then-self-clause-images
returns-then-self-clause-images g c = rw (← c.self.view_is) (sound_idle c.self.invariant)

pub returns-then-self-clause-kept : goal.returns-then-self-clause-kept
returns-then-self-clause-kept g c = rw (← c.self.view_is) (sound_kept c.self.invariant)

pub returns-in_default-clause-images : goal.returns-in_default-clause-images
returns-in_default-clause-images g c = rw (← c.self.view_is) (sound_idle c.self.invariant)

pub returns-in_default-clause-kept : goal.returns-in_default-clause-kept
returns-in_default-clause-kept g c = rw (← c.self.view_is) (sound_kept c.self.invariant)

-- ---- a call

-- what the tick knows of it
abbrev made : (g : Over) (c : After-call g) → LogCall g.D.Disk.keeps g.D.Disk.states c.self.inside c.call.new.disk c.in-Some.step
made g c =
    log_call c.self.invariant c.if-self.false c.in-Some.is c.deref.ensures.value c.call.ensures.model g.met.D.Disk.reads_an_image

-- ---- a call that failed

pub invariant_of-self : goal.invariant_of-self
invariant_of-self g c =
    let tick = made g (goal.at.invariant_of-self g c).After-call in
    log_broken tick c.in-Err.ensures.failed

pub returns-in-Err-clause-images : goal.returns-in-Err-clause-images
returns-in-Err-clause-images g c =
    let tick = made g (goal.at.returns-in-Err-clause-images g c).After-call in
    rw (← c.self.view_is) (log_leaves tick c.call.result c.call.ensures.done c.call.ensures.failed)

pub returns-in-Err-clause-kept : goal.returns-in-Err-clause-kept
returns-in-Err-clause-kept g c =
    let tick = made g (goal.at.returns-in-Err-clause-kept g c).After-call in
    sound_kept (log_broken tick c.in-Err.ensures.failed)

pub returns-in-Err-clause-refused : goal.returns-in-Err-clause-refused
returns-in-Err-clause-refused g c = rw (← c.self.view_is) (
    let s = c.self.inside in
    inr (
      record { frame = frame_at s.shape s.bytes.items; step = c.in-Some.step },
      c.if-self.false,
      ap (job_of s.shape s.bytes.items) c.in-Some.is,
      ap (λ fault. Disk fault) c.in-Err.ensures.cause.0,
      broken_seen g.D.Disk.states s c.call.new.disk,
    ))

pub returns-in-Err-clause-file_stays : goal.returns-in-Err-clause-file_stays
returns-in-Err-clause-file_stays g c =
    let tick = made g (goal.at.returns-in-Err-clause-file_stays g c).After-call in
    rw (← c.self.view_is) (λ model.
    let same = broken_file tick c.in-Err.ensures.failed model in
    record { frames_same = same.frames_same; vector_same = same.vector_same })

-- ---- one that succeeded, and another comes behind it

pub invariant_of-self-in-Some-next : goal.invariant_of-self-in-Some-next
invariant_of-self-in-Some-next g c =
    let tick = made g (goal.at.invariant_of-self-in-Some-next g c).After-call in
    log_next tick c.in_default-call.ensures.done c.in-Some-next.behind (sym c.next.ensures ∙ c.in-Some-next.is)

pub returns-in-Some-next-clause-images : goal.returns-in-Some-next-clause-images
returns-in-Some-next-clause-images g c =
    let tick = made g (goal.at.returns-in-Some-next-clause-images g c).After-call in
    rw (← c.self.view_is) (log_leaves tick c.call.result c.call.ensures.done c.call.ensures.failed)

pub returns-in-Some-next-clause-kept : goal.returns-in-Some-next-clause-kept
returns-in-Some-next-clause-kept g c =
    let tick = made g (goal.at.returns-in-Some-next-clause-kept g c).After-call in
    sound_kept (log_next tick c.in_default-call.ensures.done c.in-Some-next.behind (sym c.next.ensures ∙ c.in-Some-next.is))

pub returns-in-Some-next-clause-ticked : goal.returns-in-Some-next-clause-ticked
returns-in-Some-next-clause-ticked g c = rw (← c.self.view_is) (
    let s = c.self.inside in (
      record { frame = frame_at s.shape s.bytes.items; step = c.in-Some.step },
      ap (job_of s.shape s.bytes.items) c.in-Some.is,
      (c.in-Some-next.behind, (sym c.next.ensures ∙ c.in-Some-next.is), refl),
      record { shape_same = refl; fold_same = refl; tally_same = refl; gate_same = refl; room_same = refl; places_same = refl },
    ))

pub returns-in-Some-next-clause-file : goal.returns-in-Some-next-clause-file
returns-in-Some-next-clause-file g c =
    let tick = made g (goal.at.returns-in-Some-next-clause-file g c).After-call in
    rw (← c.self.view_is) (λ model.
    let same = next_file tick c.in_default-call.ensures.done c.in-Some-next.behind (sym c.next.ensures ∙ c.in-Some-next.is) model in
    record { frames_same = same.frames_same; vector_same = same.vector_same })

-- ---- the last one

pub cut-requires : goal.cut-requires
cut-requires g c =
    let s = c.self.inside in
    homes_in_turn c.self.invariant.lists c.in-Some.step c.in-Some.is s.next c.self.invariant.job.job

-- and of the last one
ended : (g : Over) (c : After-len-self-inside g)
    → LastCall (made g (goal.at.After-len-self-inside g c).After-call) (record c.self.inside {
      disk = c.call.new.disk;
      gate = c.self.inside.gate + (c.len.result - 1);
      bytes = c.end.new.bytes;
      homes = record { homes = c.cut.new.self.homes; live = c.end.new.live };
      live = c.len-self-inside.result;
      fold = c.end.new.self;
    })
ended g c =
    let s = c.self.inside in
    record {
      call = c.in_default-call.ensures.done;
      moved = ap (λ n. s.gate + (n - 1)) (c.len.ensures ∙ sym c.deref.ensures.len);
      last = sym c.next.ensures ∙ c.in-None.is;
      turn = c.cut.ensures.in_turn;
      each = c.cut.ensures.each;
      all = c.len-self-inside.ensures ∙ c.end.new.live.ok.0;
      ended = c.end.ensures.stage;
      left = c.end.ensures.live ∙ ap (λ live. live_after s.fold.stage s.fold.runs live.items) c.cut.ensures.live;
      same = λ unfiled. (c.end.ensures.same unfiled).0;
    }

pub invariant_of-self-in-None : goal.invariant_of-self-in-None
invariant_of-self-in-None g c = log_last (ended g (goal.at.invariant_of-self-in-None g c).After-len-self-inside)

pub returns-in-None-clause-images : goal.returns-in-None-clause-images
returns-in-None-clause-images g c =
    let tick = made g (goal.at.returns-in-None-clause-images g c).After-call in
    rw (← c.self.view_is) (log_leaves tick c.call.result c.call.ensures.done c.call.ensures.failed)

pub returns-in-None-clause-kept : goal.returns-in-None-clause-kept
returns-in-None-clause-kept g c = sound_kept (invariant_of-self-in-None g c)

pub returns-in-None-clause-ticked : goal.returns-in-None-clause-ticked
returns-in-None-clause-ticked g c = rw (← c.self.view_is) (
    let s = c.self.inside in
    let tick = made g (goal.at.returns-in-None-clause-ticked g c).After-call in
    let end = ended g (goal.at.returns-in-None-clause-ticked g c).After-len-self-inside in (
      record { frame = frame_at s.shape s.bytes.items; step = c.in-Some.step },
      ap (job_of s.shape s.bytes.items) c.in-Some.is,
      last_step c.in-Some.step end.last,
      record {
        shape_same = refl;
        fold_is = fold_seen end;
        tally_is = counts_after tick;
        gate_is = gate_moved tick end.call (s.gate + (c.len.result - 1)) end.moved end.last;
        room_same = λ other. ap (λ bytes. vec_capacity bytes) (c.end.ensures.same (other_unfiled end other)).2;
        places_same = λ other.
            ap (λ live. vec_capacity live - vec_len live)
            ((c.end.ensures.same (other_unfiled end other)).1 ∙ c.cut.ensures.live);
        job_done = refl;
      },
    ))

pub returns-in-None-clause-file : goal.returns-in-None-clause-file
returns-in-None-clause-file g c =
    let s = c.self.inside in
    let tick = made g (goal.at.returns-in-None-clause-file g c).After-call in
    let gate = s.gate + (c.len.result - 1) in
    let moved : gate ≡ s.gate + (length c.deref.result.now - 1) = ap (λ n. s.gate + (n - 1)) (c.len.ensures ∙ sym c.deref.ensures.len) in
    let last = sym c.next.ensures ∙ c.in-None.is in
    rw (← c.self.view_is) (rw c.in-Some.is (λ model. record {
      frames_more = more_frames tick c.in_default-call.ensures.done gate moved last model;
      vector_is = vector_then tick c.in_default-call.ensures.done gate moved last model;
    }))

pub returns-in-None-clause-goes_on : goal.returns-in-None-clause-goes_on
returns-in-None-clause-goes_on g c = λ model.
    c.in_default-call.ensures.goes_on (subst g.D.Disk.keeps (sym (ap (λ pen. pen.disk) c.self.view_is)) model)

pub returns-in-None-clause-model : goal.returns-in-None-clause-model
returns-in-None-clause-model g c = λ model.
    subst g.D.Disk.keeps (ap (λ pen. pen.disk) c.self.view_is) (c.call.ensures.model model)

pub returns-in-Some-next-clause-goes_on : goal.returns-in-Some-next-clause-goes_on
returns-in-Some-next-clause-goes_on g c = λ model.
    c.in_default-call.ensures.goes_on (subst g.D.Disk.keeps (sym (ap (λ pen. pen.disk) c.self.view_is)) model)

pub returns-in-Some-next-clause-model : goal.returns-in-Some-next-clause-model
returns-in-Some-next-clause-model g c = λ model.
    subst g.D.Disk.keeps (ap (λ pen. pen.disk) c.self.view_is) (c.call.ensures.model model)

pub returns-in-None-clause-time : goal.returns-in-None-clause-time
returns-in-None-clause-time g c = grind (arith, common_steps)

pub returns-in-None-clause-faults : goal.returns-in-None-clause-faults
returns-in-None-clause-faults g c = grind (arith, common_steps)

pub overflow_add-self : goal.overflow_add-self
overflow_add-self g c = grind (arith, common_steps)

pub overflow_sub-self : goal.overflow_sub-self
overflow_sub-self g c = grind (arith, common_steps)

-- ---- what the call makes of the disk

pub returns-in-Err-clause-calls : goal.returns-in-Err-clause-calls
returns-in-Err-clause-calls g c = λ model.
    let tick = made g (goal.at.returns-in-Err-clause-calls g c).After-call in
    let new = g.D.Disk.states c.call.new.disk in
    let s = seen_as g.D.Disk.states c.self.inside in
    subst (λ pen. LogTickFails pen.broken pen (g.D.Disk.states pen.disk) new) c.self.view_is
    (subst (λ broken. LogTickFails broken s (g.D.Disk.states s.disk) new) (sym c.if-self.false) (log_fails tick (c.in-Err.ensures.failed model)))

pub returns-in-Some-next-clause-calls : goal.returns-in-Some-next-clause-calls
returns-in-Some-next-clause-calls g c = λ model.
    let tick = made g (goal.at.returns-in-Some-next-clause-calls g c).After-call in
    let new = g.D.Disk.states c.call.new.disk in
    subst (λ pen. LogTickCalls pen ticks.Step (g.D.Disk.states pen.disk) new) c.self.view_is
    (log_calls tick (c.in_default-call.ensures.done (c.call.ensures.model model)))

pub returns-in-None-clause-calls : goal.returns-in-None-clause-calls
returns-in-None-clause-calls g c = λ model.
    let tick = made g (goal.at.returns-in-None-clause-calls g c).After-call in
    let new = g.D.Disk.states c.call.new.disk in
    subst (λ pen. LogTickCalls pen ticks.Done (g.D.Disk.states pen.disk) new) c.self.view_is
    (log_calls tick (c.in_default-call.ensures.done (c.call.ensures.model model)))
