use Rattle.std.proofs.Common.{◌≡◌, ℕ, ◌+◌, false, Err, refl, ap, ◌∙◌, arith}
use Rattle.std.proofs.lemmas.Result.{err_from_is_err_and}
use Rattle.pen_core.specs.PenOf.{PenOf}
use Rattle.flush_core.specs.Refusals.{failed}
use Rattle.flush_core.proofs.Answered.{both, OnOk-refused, IfErr-refused, CountsFailures-refused}
use Rattle.flush_core.proofs.Goes.{Serves-join, Serves-then, Serves-raised, Serves-learns, IsFlusherOf-served, pen-told, raised_mark}
use Rattle.flush_core.proofs.ServeFaults.{IsServeFault-since}
use Rattle.flush_core.proofs.flusher.Flusher.serve_all.Goals.{in-None, in-Some+in_ok-begin_next+in_ok-settle_job-2+then-ends}
use Rattle.flush_core.proofs.flusher.Flusher.serve_all.Goals as goal

-- no call has failed
uncounted : (before after failures : ℕ) → after ≡ before → failures ≡ 0 → after ≡ before + failures
uncounted before after failures same none = omega arith

pub returns-in_err-settle_job : goal.returns-in_err-settle_job
returns-in_err-settle_job g c =
    let answer = c.from_residual.result in
    let fault = c.in_err-settle_job.field-0.0 in
    let p = err_from_is_err_and answer c.from_residual.ensures.1 in
    let is = p.1 ∙ ap Err p.2 in
    let e = c.in_err-settle_job.ensures in
    record {
      serves = e.serves;
      all = OnOk-refused answer fault is _;
      idle = OnOk-refused answer fault is _;
      refused = IfErr-refused answer fault is _ e.refused;
      faults = CountsFailures-refused answer fault is _ _ _ e.faults;
    }

pub loop-init : goal.loop-init
loop-init g c =
    let e = c.in_ok-settle_job.ensures in
    record { serves = e.serves; idle = e.idle; whole = e.whole; faults = e.faults }

pub raise-requires-clause-of : goal.raise-requires-clause-of
raise-requires-clause-of g c κs within = IsFlusherOf-served c.loop.invariant.serves c.requires.of

pub begin_next-requires-clause-of : goal.begin_next-requires-clause-of
begin_next-requires-clause-of g c κs within =
    IsFlusherOf-served (Serves-raised c.loop.invariant.serves c.raise.ensures.raised) c.requires.of

pub begin_next-requires-clause-idle : goal.begin_next-requires-clause-idle
begin_next-requires-clause-idle g c κs within =
    let pen = pen-told c.loop.self c.raise.new.self (raised_mark g.D.Disk.states c.loop.self) c.raise.ensures.raised in
    ap (λ (p : PenOf g.row.D.Denot). p.job) pen ∙ c.loop.invariant.idle

pub returns-in_err-begin_next : goal.returns-in_err-begin_next
returns-in_err-begin_next g c =
    let b = c.begin_next.ensures in
    let answer = c.from_residual-in_err-begin_next.result in
    let fault = c.in_err-begin_next.field-0.0 in
    let p = err_from_is_err_and answer c.from_residual-in_err-begin_next.ensures.1 in
    let is = p.1 ∙ ap Err p.2 in
    let pen = pen-told c.loop.self c.raise.new.self (raised_mark g.D.Disk.states c.loop.self) c.raise.ensures.raised in
    let same = ap g.D.Disk.faults (b.disk ∙ ap (λ (p : PenOf g.row.D.Denot). p.disk) pen) ∙ c.loop.invariant.faults in
    let none = c.in_err-begin_next.ensures.refused.1 in
    record {
      serves = Serves-then (Serves-raised c.loop.invariant.serves c.raise.ensures.raised) b.goes_on b.disk b.fold;
      all = OnOk-refused answer fault is _;
      idle = OnOk-refused answer fault is _;
      refused = IfErr-refused answer fault is _ (IsServeFault-since g.R.Record.form.width c.args.self.now c.raise.new.self c.begin_next.new.self c.in_err-begin_next.field-0.0
          (ap (λ (p : PenOf g.row.D.Denot). p.broken) pen ∙ c.loop.invariant.whole) c.in_err-begin_next.ensures.refused.0);
      faults = CountsFailures-refused answer fault is _ _ _ (uncounted _ _ _ same none);
    }

pub returns-in_err-settle_job-2 : goal.returns-in_err-settle_job-2
returns-in_err-settle_job-2 g c =
    let b = c.begin_next.ensures in
    let e = c.in_err-settle_job-2.ensures in
    let answer = c.from_residual-in_err-settle_job-2.result in
    let fault = c.in_err-settle_job-2.field-0.0 in
    let p = err_from_is_err_and answer c.from_residual-in_err-settle_job-2.ensures.1 in
    let is = p.1 ∙ ap Err p.2 in
    let pen = pen-told c.loop.self c.raise.new.self (raised_mark g.D.Disk.states c.loop.self) c.raise.ensures.raised in
    let same = ap g.D.Disk.faults (b.disk ∙ ap (λ (p : PenOf g.row.D.Denot). p.disk) pen) ∙ c.loop.invariant.faults in
    record {
      serves = Serves-join (Serves-then (Serves-raised c.loop.invariant.serves c.raise.ensures.raised) b.goes_on b.disk b.fold) e.serves;
      all = OnOk-refused answer fault is _;
      idle = OnOk-refused answer fault is _;
      refused = IfErr-refused answer fault is _ (IsServeFault-since g.R.Record.form.width c.args.self.now c.begin_next.new.self c.settle_job-in-loop.new.self c.in_err-settle_job-2.field-0.0
          (b.whole ∙ ap (λ (p : PenOf g.row.D.Denot). p.broken) pen ∙ c.loop.invariant.whole) e.refused);
      faults = CountsFailures-refused answer fault is _ _ _ (e.faults ∙ ap (λ (n : _). n + failed fault) same);
    }

pub ends-requires-clause-of : goal.ends-requires-clause-of
ends-requires-clause-of g c κs within =
    let b = c.begin_next.ensures in
    let begun = Serves-then (Serves-raised c.loop.invariant.serves c.raise.ensures.raised) b.goes_on b.disk b.fold in
    IsFlusherOf-served (Serves-join begun c.in_ok-settle_job-2.ensures.serves) c.requires.of

pub loop-preserved : goal.loop-preserved
loop-preserved g c =
    let b = c.begin_next.ensures in
    let e = c.in_ok-settle_job-2.ensures in
    let l = c.ends.ensures.learns in
    let pen = pen-told c.loop.self c.raise.new.self (raised_mark g.D.Disk.states c.loop.self) c.raise.ensures.raised in
    let begun = Serves-then (Serves-raised c.loop.invariant.serves c.raise.ensures.raised) b.goes_on b.disk b.fold in
    record {
      serves = Serves-learns (Serves-join begun e.serves) l;
      idle = ap (λ (p : PenOf g.row.D.Denot). p.job) l.pen_same ∙ e.idle;
      whole = ap (λ (p : PenOf g.row.D.Denot). p.broken) l.pen_same ∙ e.whole ∙ b.whole ∙ ap (λ (p : PenOf g.row.D.Denot). p.broken) pen ∙ c.loop.invariant.whole;
      faults = ap (λ (p : PenOf g.row.D.Denot). g.D.Disk.faults p.disk) l.pen_same ∙ e.faults ∙ ap g.D.Disk.faults (b.disk ∙ ap (λ (p : PenOf g.row.D.Denot). p.disk) pen) ∙ c.loop.invariant.faults;
    }

pub returns : goal.returns
returns g c = elim c.match-next.branch [
  | in-None w ↦ both false w.in-None.ensures.steps refl
  | in-Some+in_ok-begin_next+in_ok-settle_job-2+then-ends w ↦
      let b = w.begin_next.ensures in
      let e = w.in_ok-settle_job-2.ensures in
      let l = w.ends.ensures.learns in
      let pen = pen-told c.loop.self w.raise.new.self (raised_mark g.D.Disk.states c.loop.self) w.raise.ensures.raised in
      let begun = Serves-then (Serves-raised c.loop.invariant.serves w.raise.ensures.raised) b.goes_on b.disk b.fold in
      rw w.self-is (record {
        serves = Serves-learns (Serves-join begun e.serves) l;
        all = w.ends.ensures.all w.if-ends.true;
        idle = ap (λ (p : PenOf g.row.D.Denot). p.job) l.pen_same ∙ e.idle;
        refused = tt;
        faults = ap (λ (p : PenOf g.row.D.Denot). g.D.Disk.faults p.disk) l.pen_same ∙ e.faults ∙ ap g.D.Disk.faults (b.disk ∙ ap (λ (p : PenOf g.row.D.Denot). p.disk) pen) ∙ c.loop.invariant.faults;
      })
]
