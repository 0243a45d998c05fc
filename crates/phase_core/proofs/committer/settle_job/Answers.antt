use Rattle.std.proofs.Common.{◌≡◌, ◌∙◌, refl, rules}
use Rattle.flush_core.specs.declared.lane.Tick.TheVariants.{Step}
use Rattle.phase_core.proofs.LogLeft.{log_left-step}
use Rattle.phase_core.proofs.GoesOnLemmas.{opens_of, GoesOn-refl, GoesOn-join, GoesOn-tick}
use Rattle.phase_core.proofs.committer.settle_job.Goals as goal

pub loop-init : goal.loop-init
loop-init g c =
    let f = c.args.flusher.now in
    record { so_far = GoesOn-refl g.R.Record.form (λ (disk : _). g.D.Disk.keeps disk.inner) (λ (disk : _). g.D.Disk.states disk.inner) f (opens_of g.R.Record.form (λ (disk : _). g.D.Disk.keeps disk.inner) (λ (disk : _). g.D.Disk.states disk.inner) f c.disk-disk.result.now c.disk-disk.ensures.disk c.disk-disk.ensures.images); taken = refl; pass = refl }

pub loop-smaller : goal.loop-smaller
loop-smaller g c =
    let step : c.in_ok-tick.field-0 ≡ Step = search rules in
    log_left-step c.loop.flusher.pen c.tick.new.self.pen c.in_ok-tick.field-0 step c.in_ok-tick.ensures.ticked

pub loop-preserved : goal.loop-preserved
loop-preserved g c =
    let e = c.tick.ensures in
    record {
      so_far = GoesOn-join g.R.Record.form (λ (disk : _). g.D.Disk.keeps disk.inner) (λ (disk : _). g.D.Disk.states disk.inner) c.args.flusher.now c.loop.flusher c.tick.new.self c.loop.invariant.so_far
          (GoesOn-tick g.R.Record.form (λ (disk : _). g.D.Disk.keeps disk.inner) (λ (disk : _). g.D.Disk.states disk.inner) c.loop.flusher c.tick.new.self _ e.same e.no_less e.opening e.model e.time e.images);
      taken = e.same.taken_same ∙ c.loop.invariant.taken;
      pass = e.same.pass_same ∙ c.loop.invariant.pass;
    }

pub returns-in_err-tick-clause-goes_on : goal.returns-in_err-tick-clause-goes_on
returns-in_err-tick-clause-goes_on g c =
    let e = c.tick.ensures in
    GoesOn-join g.R.Record.form (λ (disk : _). g.D.Disk.keeps disk.inner) (λ (disk : _). g.D.Disk.states disk.inner) c.args.flusher.now c.loop.flusher c.tick.new.self c.loop.invariant.so_far
    (GoesOn-tick g.R.Record.form (λ (disk : _). g.D.Disk.keeps disk.inner) (λ (disk : _). g.D.Disk.states disk.inner) c.loop.flusher c.tick.new.self _ e.same e.no_less e.opening e.model e.time e.images)

pub returns-clause-goes_on : goal.returns-clause-goes_on
returns-clause-goes_on g c =
    let e = c.tick.ensures in
    GoesOn-join g.R.Record.form (λ (disk : _). g.D.Disk.keeps disk.inner) (λ (disk : _). g.D.Disk.states disk.inner) c.args.flusher.now c.loop.flusher c.tick.new.self c.loop.invariant.so_far
    (GoesOn-tick g.R.Record.form (λ (disk : _). g.D.Disk.keeps disk.inner) (λ (disk : _). g.D.Disk.states disk.inner) c.loop.flusher c.tick.new.self _ e.same e.no_less e.opening e.model e.time e.images)
