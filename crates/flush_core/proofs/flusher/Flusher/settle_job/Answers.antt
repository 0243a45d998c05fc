use Rattle.std.proofs.Common.{◌≡◌, ◌+◌, inl, inr, refl, sym, ap, ◌∙◌, rules}
use Rattle.std.proofs.lemmas.Result.{err_from_is_err_and}
use Rattle.flush_core.specs.declared.lane.Tick.TheVariants.{Step}
use Rattle.flush_core.specs.Refusals.{failed}
use Rattle.flush_core.proofs.FoldsBehind.{fold_ticked, fold_unticked}
use Rattle.flush_core.proofs.Goes.{Serves-tick, Serves-first}
use Rattle.flush_core.proofs.LogLeft.{log_left-step}
use Rattle.flush_core.proofs.ServeFaults.{IsServeFault-since, IsServeFault-tick}
use Rattle.flush_core.proofs.flusher.Flusher.settle_job.Goals as goal

pub loop-init : goal.loop-init
loop-init g c = record { so_far = inl refl; whole = refl; faults = refl }

pub returns-in_err-tick-clause-serves : goal.returns-in_err-tick-clause-serves
returns-in_err-tick-clause-serves g c =
    let e = c.tick.ensures in
    Serves-first c.loop.invariant.so_far (Serves-tick e.same e.no_less e.opening e.images e.model
    (fold_unticked c.loop.self.pen c.tick.new.self.pen c.in_err-tick.field-0.0 c.in_err-tick.ensures.refused))

pub returns-in_err-tick-clause-refused : goal.returns-in_err-tick-clause-refused
returns-in_err-tick-clause-refused g c =
    let p = err_from_is_err_and c.from_residual.result c.from_residual.ensures.1 in
    rw (p.1, p.2) (IsServeFault-since g.R.Record.form.width c.args.self.now c.loop.self c.tick.new.self c.in_err-tick.field-0.0 c.loop.invariant.whole
    (IsServeFault-tick g.R.Record.form.width c.loop.self c.tick.new.self c.in_err-tick.field-0.0 c.in_err-tick.ensures.refused))

pub returns-in_err-tick-clause-faults : goal.returns-in_err-tick-clause-faults
returns-in_err-tick-clause-faults g c =
    let p = err_from_is_err_and c.from_residual.result c.from_residual.ensures.1 in
    rw (p.1, p.2) (c.in_err-tick.ensures.faults ∙ ap (λ (n : _). n + failed c.in_err-tick.field-0.0) c.loop.invariant.faults)

pub loop-smaller : goal.loop-smaller
loop-smaller g c =
    let step : c.in_ok-tick.field-0 ≡ Step = search rules in
    log_left-step c.loop.self.pen c.tick.new.self.pen c.in_ok-tick.field-0 step c.in_ok-tick.ensures.ticked

pub loop-preserved : goal.loop-preserved
loop-preserved g c =
    let e = c.tick.ensures in
    let whole = c.in_ok-tick.ensures.whole in
    record {
      so_far = inr (Serves-first c.loop.invariant.so_far (Serves-tick e.same e.no_less e.opening e.images e.model
          (fold_ticked c.loop.self.pen c.tick.new.self.pen c.in_ok-tick.field-0 c.in_ok-tick.ensures.ticked)));
      whole = whole.1 ∙ sym whole.0 ∙ c.loop.invariant.whole;
      faults = c.in_ok-tick.ensures.faults ∙ c.loop.invariant.faults;
    }

pub returns-clause-serves : goal.returns-clause-serves
returns-clause-serves g c =
    let e = c.tick.ensures in
    Serves-first c.loop.invariant.so_far (Serves-tick e.same e.no_less e.opening e.images e.model
    (fold_ticked c.loop.self.pen c.tick.new.self.pen c.in_ok-tick.field-0 c.in_ok-tick.ensures.ticked))

pub returns-clause-whole : goal.returns-clause-whole
returns-clause-whole g c =
    let whole = c.in_ok-tick.ensures.whole in
    whole.1 ∙ sym whole.0 ∙ c.loop.invariant.whole

pub returns-clause-faults : goal.returns-clause-faults
returns-clause-faults g c = c.in_ok-tick.ensures.faults ∙ c.loop.invariant.faults
