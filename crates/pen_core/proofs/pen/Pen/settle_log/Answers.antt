use Rattle.std.proofs.Common.{◌≡◌, inl, inr, refl, subst, arith, rules}
use Rattle.std.proofs.lemmas.Result.{err_from_is_err_and}
use Rattle.pen_core.specs.declared.stage.Ticked.TheVariants.{Step}
use Rattle.pen_core.specs.Pen.{IsTicked, FileTicked}
use Rattle.pen_core.proofs.Settled.{LogGoes-tick, LogGoes-first, ended_images, ended_model, ended_goes_on, ended_faults, ended_whole, ended_settled, ended_file, ended_frames, ended_time, fault_is}
use Rattle.pen_core.proofs.Settled.{fault_file, fault_time, log_left-step}
use Rattle.pen_core.proofs.pen.Pen.settle_log.Goals as goal

pub loop-init : goal.loop-init
loop-init g c = record { so_far = inl refl }

pub returns-in_err-tick_log-clause-images : goal.returns-in_err-tick_log-clause-images
returns-in_err-tick_log-clause-images g c =
    let e = c.tick_log.ensures in
    ended_images g.D.Disk.keeps g.D.Disk.states g.D.Disk.faults c.args.self.now c.loop.self c.tick_log.new.self c.loop.invariant.so_far e.model e.images

pub returns-in_err-tick_log-clause-refused : goal.returns-in_err-tick_log-clause-refused
returns-in_err-tick_log-clause-refused g c =
    let p = err_from_is_err_and c.from_residual.result c.from_residual.ensures.1 in
    rw (p.1, p.2)
    (fault_is g.D.Disk.keeps g.D.Disk.states g.D.Disk.faults c.args.self.now c.loop.self c.tick_log.new.self
    c.loop.invariant.so_far c.in_err-tick_log.field-0.0 c.in_err-tick_log.ensures.refused)

pub returns-in_err-tick_log-clause-file_stays : goal.returns-in_err-tick_log-clause-file_stays
returns-in_err-tick_log-clause-file_stays g c =
    let p = err_from_is_err_and c.from_residual.result c.from_residual.ensures.1 in
    rw p.1
    (fault_file g.D.Disk.keeps g.D.Disk.states g.D.Disk.faults c.args.self.now c.loop.self c.tick_log.new.self
    c.loop.invariant.so_far c.tick_log.ensures.model c.in_err-tick_log.ensures.file_stays)

pub returns-in_err-tick_log-clause-time : goal.returns-in_err-tick_log-clause-time
returns-in_err-tick_log-clause-time g c =
    let p = err_from_is_err_and c.from_residual.result c.from_residual.ensures.1 in
    rw (p.1, p.2)
    (fault_time g.D.Disk.keeps g.D.Disk.states g.D.Disk.faults c.args.self.now c.loop.self c.tick_log.new.self
    c.loop.invariant.so_far c.in_err-tick_log.field-0.0 c.in_err-tick_log.ensures.refused c.tick_log.ensures.time)

pub returns-in_err-tick_log-clause-faults : goal.returns-in_err-tick_log-clause-faults
returns-in_err-tick_log-clause-faults g c =
    let p = err_from_is_err_and c.from_residual.result c.from_residual.ensures.1 in
    rw (p.1, p.2)
    (ended_faults g.D.Disk.keeps g.D.Disk.states g.D.Disk.faults c.args.self.now c.loop.self c.tick_log.new.self
    c.loop.invariant.so_far _ c.in_err-tick_log.ensures.faults)

pub returns-in_err-tick_log-clause-model : goal.returns-in_err-tick_log-clause-model
returns-in_err-tick_log-clause-model g c =
    ended_model g.D.Disk.keeps g.D.Disk.states g.D.Disk.faults c.args.self.now c.loop.self c.tick_log.new.self
    c.loop.invariant.so_far c.tick_log.ensures.model

pub loop-smaller : goal.loop-smaller
loop-smaller g c =
    let step : c.in_ok-tick_log.field-0 ≡ Step = search rules in
    log_left-step c.loop.self c.tick_log.new.self (subst (IsTicked c.loop.self c.tick_log.new.self) step c.in_ok-tick_log.ensures.ticked)

pub loop-preserved : goal.loop-preserved
loop-preserved g c =
    let e = c.in_ok-tick_log.ensures in
    let step : c.in_ok-tick_log.field-0 ≡ Step = search rules in
    record {
      so_far = inr (LogGoes-first g.D.Disk.keeps g.D.Disk.states g.D.Disk.faults c.args.self.now c.loop.self c.tick_log.new.self c.loop.invariant.so_far
          (LogGoes-tick g.D.Disk.keeps g.D.Disk.states g.D.Disk.faults c.loop.self c.tick_log.new.self
          (subst (IsTicked c.loop.self c.tick_log.new.self) step e.ticked) (λ now. subst (FileTicked c.loop.self c.tick_log.new.self) step (e.file now))
          c.tick_log.ensures.images e.whole c.tick_log.ensures.time e.faults c.tick_log.ensures.model e.goes_on));
    }

pub returns-clause-images : goal.returns-clause-images
returns-clause-images g c =
    let e = c.tick_log.ensures in
    ended_images g.D.Disk.keeps g.D.Disk.states g.D.Disk.faults c.args.self.now c.loop.self c.tick_log.new.self c.loop.invariant.so_far e.model e.images

pub returns-clause-settled : goal.returns-clause-settled
returns-clause-settled g c =
    let other : c.in_ok-tick_log.field-0 ≡ Step → ⊥ = λ same. search rules in
    ended_settled g.D.Disk.keeps g.D.Disk.states g.D.Disk.faults c.args.self.now c.loop.self c.tick_log.new.self
    c.loop.invariant.so_far c.in_ok-tick_log.field-0 other c.in_ok-tick_log.ensures.ticked

pub returns-clause-file : goal.returns-clause-file
returns-clause-file g c = λ now.
    let other : c.in_ok-tick_log.field-0 ≡ Step → ⊥ = λ same. search rules in
    let e = c.in_ok-tick_log.ensures in
    ended_file g.D.Disk.keeps g.D.Disk.states g.D.Disk.faults c.args.self.now c.loop.self c.tick_log.new.self
    c.loop.invariant.so_far c.in_ok-tick_log.field-0 other (c.tick_log.ensures.model now) e.ticked (e.file now)

pub returns-clause-frames : goal.returns-clause-frames
returns-clause-frames g c = λ now.
    let other : c.in_ok-tick_log.field-0 ≡ Step → ⊥ = λ same. search rules in
    let e = c.in_ok-tick_log.ensures in
    ended_frames g.D.Disk.keeps g.D.Disk.states g.D.Disk.faults c.args.self.now c.loop.self c.tick_log.new.self
    c.loop.invariant.so_far c.in_ok-tick_log.field-0 other (c.tick_log.ensures.model now) e.ticked (e.file now)

pub returns-clause-whole : goal.returns-clause-whole
returns-clause-whole g c =
    let e = c.in_ok-tick_log.ensures in
    (ended_whole g.D.Disk.keeps g.D.Disk.states g.D.Disk.faults c.args.self.now c.loop.self c.tick_log.new.self c.loop.invariant.so_far e.whole.0, e.whole.1)

pub returns-clause-time : goal.returns-clause-time
returns-clause-time g c =
    let other : c.in_ok-tick_log.field-0 ≡ Step → ⊥ = λ same. search rules in
    let e = c.in_ok-tick_log.ensures in
    ended_time g.D.Disk.keeps g.D.Disk.states g.D.Disk.faults c.args.self.now c.loop.self c.tick_log.new.self
    c.loop.invariant.so_far c.in_ok-tick_log.field-0 other e.ticked e.whole.0 c.tick_log.ensures.time

pub returns-clause-faults : goal.returns-clause-faults
returns-clause-faults g c =
    let none = ended_faults g.D.Disk.keeps g.D.Disk.states g.D.Disk.faults c.args.self.now c.loop.self c.tick_log.new.self c.loop.invariant.so_far 0 in
    let e = c.in_ok-tick_log.ensures in
    omega (arith, none (omega (arith, e.faults)))

pub returns-clause-model : goal.returns-clause-model
returns-clause-model g c =
    ended_model g.D.Disk.keeps g.D.Disk.states g.D.Disk.faults c.args.self.now c.loop.self c.tick_log.new.self
    c.loop.invariant.so_far c.tick_log.ensures.model

pub returns-clause-goes_on : goal.returns-clause-goes_on
returns-clause-goes_on g c =
    ended_goes_on g.D.Disk.keeps g.D.Disk.states g.D.Disk.faults c.args.self.now c.loop.self c.tick_log.new.self
    c.loop.invariant.so_far c.in_ok-tick_log.ensures.goes_on
