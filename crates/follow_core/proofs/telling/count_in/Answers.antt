use Rattle.std.proofs.Common.{◌-◌, ◌<◌, ◌^◌, Option, subst, arith}
use Rattle.std.specs.Prelude.{IfSome}
use Rattle.stat_core.specs.Summary.{AreFew}
use Rattle.stat_core.specs.declared.summary.Summary.{Summary}
use Rattle.follow_core.specs.Counted.{CountsFirst}
use Rattle.follow_core.proofs.Fronts.{counts_later}
use Rattle.follow_core.proofs.telling.count_in.Goals as goal

pub loop-summary-init : goal.loop-summary-init
loop-summary-init c = record {
  few = c.requires.few;
  behind = omega arith;
  placed = c.requires.placed;
  counted = λ held frames from to file read first. counts_later c.args.shape held frames file from (read.moments (c.args.summary.gate - c.args.summary.gate)) c.args.summary
      (read.since (c.args.summary.gate - c.args.summary.gate)) first;
}

pub loop-summary-preserved : goal.loop-summary-preserved
loop-summary-preserved c =
    let i = c.loop-summary.invariant in
    let e = c.in-Ok-Some.ensures in
    let more = c.in-Ok-Some.more in
    let at = c.loop-summary.summary.gate - c.args.summary.gate in
    let later = subst (λ (o : Option Summary). IfSome o (λ next. (c.loop-summary.summary.gate < next.gate) × (next.gate < 2 ^ 49))) c.in-Ok-Some.field-0-is e.later in
    record {
      few = subst (λ (o : Option Summary). IfSome o AreFew) c.in-Ok-Some.field-0-is e.few;
      behind = omega (arith, i.behind, later.0);
      placed = later.1;
      counted = λ held frames from to file read first.
          let next = subst (λ (o : Option Summary). IfSome o (CountsFirst c.args.shape (frames (read.moments at)))) c.in-Ok-Some.field-0-is
          (e.counted held frames from to file read (i.counted held frames from to file read first)) in
          counts_later c.args.shape held frames file (read.moments at) (read.moments (more.gate - c.args.summary.gate)) more (read.ascend at (more.gate - c.args.summary.gate) (omega (arith, later.0))) next;
    }

pub returns-in-Ok-None-clause-counted : goal.returns-in-Ok-None-clause-counted
returns-in-Ok-None-clause-counted c = λ held frames from to file read first.
    let at = c.loop-summary.summary.gate - c.args.summary.gate in
    counts_later c.args.shape held frames file (read.moments at) to c.loop-summary.summary (read.until at) (c.loop-summary.invariant.counted held frames from to file read first)

pub returns-in-Err-clause-counted : goal.returns-in-Err-clause-counted
returns-in-Err-clause-counted c = λ held frames from to file read first.
    c.in-Err.ensures.counted held frames from to file read (c.loop-summary.invariant.counted held frames from to file read first)

pub returns-clause-counted : goal.returns-clause-counted
returns-clause-counted c = λ held frames from to file read first.
    let at = c.loop-summary.summary.gate - c.args.summary.gate in
    counts_later c.args.shape held frames file (read.moments at) to c.loop-summary.summary (read.until at) (c.loop-summary.invariant.counted held frames from to file read first)
