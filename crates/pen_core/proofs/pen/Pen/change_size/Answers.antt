use Rattle.std.proofs.lemmas.Grind.{common_steps}
use Rattle.std.proofs.lemmas.Nat.{mul-le}
use Rattle.std.proofs.Common.{◌≡◌, ◌+◌, ◌*◌, false, length, sym, ap, ◌∙◌, arith, ◌^◌}
use Rattle.std.proofs.lemmas.Bool.{true≢false, false≢true}
use Rattle.std.proofs.lemmas.List.{length-map}
use Rattle.segment_core.specs.Frame.{Run, runs_len}
use Rattle.segment_core.specs.Shape.{limit_of}
use Rattle.segment_core.specs.Tally.{are_inside}
use Rattle.segment_core.specs.Runs.{runs_given, change_len}
use Rattle.pen_core.specs.Refusals.{is_full, is_old}
use Rattle.pen_core.proofs.ChangeRefused.{old_runs, not_old_runs, not_old_format, change_len-least, refused_old, refused_disordered, refused_outside, refused_long, refused_full, refused_none}
use Rattle.pen_core.proofs.pen.Pen.change_size.Given.{Over}
use Rattle.pen_core.proofs.pen.Pen.change_size.Goals.{After-runs_ascend, After-runs_len}
use Rattle.pen_core.proofs.pen.Pen.change_size.Goals as goal

-- not several runs in a file of version 1
not_old : (g : Over) (c : After-runs_ascend g) → is_old c.args.self.now c.args.self.now.shape.format (runs_given c.args.runs.now) ≡ false
not_old g c =
    let pen = c.args.self.now in
    let runs = runs_given c.args.runs.now in
    let count = length-map {B = Run} c.args.runs.now (λ run. record { start = run.0; count = run.1 }) in
    elim c.else-matches.branch [
      | goal.else-matches-via-then-matches+else-runs-gt1 w ↦ not_old_runs pen runs pen.shape.format (omega (arith, count, w.if-runs-gt1.false))
      | goal.else-matches-via-else-matches w ↦ elim c.match-matches.branch [
        | goal.in-One m ↦ absurd (true≢false (sym m.matches-is ∙ w.if-matches.false))
        | goal.in_default m ↦ not_old_format pen runs pen.shape.format (λ is. m.in_default.not-One (ap (λ v. v.shape.format) c.self.view_is ∙ is))
      ]
    ]

-- the payload
size : (g : Over) (c : After-runs_len g)
    → c.runs_len.result + c.count_positions-records.result * c.self.inside.shape.width ≡ change_len c.args.self.now.shape
    (runs_given c.args.runs.now)
size g c =
    let s = c.self.inside in
    let count = length-map {B = Run} c.args.runs.now (λ run. record { start = run.0; count = run.1 }) in
    ap (λ n. n + c.count_positions-records.result * s.shape.width) (c.runs_len.ensures ∙ ap (runs_len s.shape.format) (sym count))
    ∙ ap (λ n. runs_len s.shape.format (length (runs_given c.args.runs.now)) + n * s.shape.width) c.count_positions-records.ensures.is
    ∙ ap (λ v. change_len v.shape (runs_given c.args.runs.now)) c.self.view_is

pub returns-then-not-runs_ascend-clause-refused : goal.returns-then-not-runs_ascend-clause-refused
returns-then-not-runs_ascend-clause-refused g c =
    refused_disordered c.args.self.now (runs_given c.args.runs.now) c.in_ok-ready.ensures.whole c.in_ok-ready.ensures.idle
    (not_old g (goal.at.returns-then-not-runs_ascend-clause-refused g c).After-runs_ascend)
    (sym c.runs_ascend.ensures ∙ c.if-not-runs_ascend.true)

pub returns-then-not-runs_inside-clause-refused : goal.returns-then-not-runs_inside-clause-refused
returns-then-not-runs_inside-clause-refused g c =
    refused_outside c.args.self.now (runs_given c.args.runs.now) c.in_ok-ready.ensures.whole c.in_ok-ready.ensures.idle
    (not_old g (goal.at.returns-then-not-runs_inside-clause-refused g c).After-runs_ascend)
    (sym c.runs_ascend.ensures ∙ c.if-not-runs_ascend.false)
    (ap (λ v. are_inside v.tally.size (runs_given c.args.runs.now)) (sym c.self.view_is) ∙ sym c.runs_inside.ensures ∙ c.if-not-runs_inside.true)

pub returns-then-payload-limit-clause-refused : goal.returns-then-payload-limit-clause-refused
returns-then-payload-limit-clause-refused g c =
    let step = goal.at.returns-then-payload-limit-clause-refused g c in
    let limit : c.payload_limit-limit.result ≡ limit_of c.args.self.now.shape.format =
    c.payload_limit-limit.ensures.is ∙ ap (λ v. limit_of v.shape.format) c.self.view_is in
    refused_long c.args.self.now (runs_given c.args.runs.now) c.in_ok-ready.ensures.whole c.in_ok-ready.ensures.idle (not_old g step.After-runs_ascend)
    (sym c.runs_ascend.ensures ∙ c.if-not-runs_ascend.false)
    (ap (λ v. are_inside v.tally.size (runs_given c.args.runs.now)) (sym c.self.view_is) ∙ sym c.runs_inside.ensures
    ∙ c.if-not-runs_inside.false)
    (omega (arith, limit, size g step.After-runs_len, c.if-payload-limit.true))

pub returns-then-is_full-clause-refused : goal.returns-then-is_full-clause-refused
returns-then-is_full-clause-refused g c =
    let step = goal.at.returns-then-is_full-clause-refused g c in
    let limit : c.payload_limit-limit.result ≡ limit_of c.args.self.now.shape.format =
    c.payload_limit-limit.ensures.is ∙ ap (λ v. limit_of v.shape.format) c.self.view_is in
    refused_full c.args.self.now (runs_given c.args.runs.now) c.in_ok-ready.ensures.whole c.in_ok-ready.ensures.idle (not_old g step.After-runs_ascend)
    (sym c.runs_ascend.ensures ∙ c.if-not-runs_ascend.false)
    (ap (λ v. are_inside v.tally.size (runs_given c.args.runs.now)) (sym c.self.view_is) ∙ sym c.runs_inside.ensures
    ∙ c.if-not-runs_inside.false)
    (omega (arith, limit, size g step.After-runs_len, c.if-payload-limit.false))
    (sym (ap (is_full c.args.self.now) (size g step.After-runs_len)) ∙ sym c.is_full.ensures ∙ c.if-is_full.true)

pub returns-clause-allowed : goal.returns-clause-allowed
returns-clause-allowed g c =
    let step = goal.at.returns-clause-allowed g c in
    let limit : c.payload_limit-limit.result ≡ limit_of c.args.self.now.shape.format =
    c.payload_limit-limit.ensures.is ∙ ap (λ v. limit_of v.shape.format) c.self.view_is in
    refused_none c.args.self.now (runs_given c.args.runs.now) c.in_ok-ready.ensures.whole c.in_ok-ready.ensures.idle (not_old g step.After-runs_ascend)
    (sym c.runs_ascend.ensures ∙ c.if-not-runs_ascend.false)
    (ap (λ v. are_inside v.tally.size (runs_given c.args.runs.now)) (sym c.self.view_is) ∙ sym c.runs_inside.ensures
    ∙ c.if-not-runs_inside.false)
    (omega (arith, limit, size g step.After-runs_len, c.if-payload-limit.false))
    (sym (ap (is_full c.args.self.now) (size g step.After-runs_len)) ∙ sym c.is_full.ensures ∙ c.if-is_full.false)

pub returns-clause-size : goal.returns-clause-size
returns-clause-size g c = size g (goal.at.returns-clause-size g c).After-runs_len

pub returns-then-runs-gt1-clause-refused : goal.returns-then-runs-gt1-clause-refused
returns-then-runs-gt1-clause-refused g c =
    let pen = c.args.self.now in
    let runs = runs_given c.args.runs.now in
    let count = length-map {B = Run} c.args.runs.now (λ run. record { start = run.0; count = run.1 }) in
    refused_old pen runs c.in_ok-ready.ensures.whole c.in_ok-ready.ensures.idle (elim c.match-matches.branch [
      | goal.in-One m ↦ old_runs pen runs pen.shape.format (sym (ap (λ v. v.shape.format) c.self.view_is) ∙ m.in-One.is)
          (omega (arith, count, c.if-runs-gt1.true))
      | goal.in_default m ↦ absurd (false≢true (sym m.matches-is ∙ c.if-matches.true))
    ])

pub returns-then-runs-limit-clause-refused : goal.returns-then-runs-limit-clause-refused
returns-then-runs-limit-clause-refused g c =
    let step = goal.at.returns-then-runs-limit-clause-refused g c in
    let limit : c.payload_limit-limit.result ≡ limit_of c.args.self.now.shape.format =
    c.payload_limit-limit.ensures.is ∙ ap (λ v. limit_of v.shape.format) c.self.view_is in
    let count = length-map {B = Run} c.args.runs.now (λ run. record { start = run.0; count = run.1 }) in
    refused_long c.args.self.now (runs_given c.args.runs.now) c.in_ok-ready.ensures.whole c.in_ok-ready.ensures.idle (not_old g step.After-runs_ascend)
    (sym c.runs_ascend.ensures ∙ c.if-not-runs_ascend.false)
    (ap (λ v. are_inside v.tally.size (runs_given c.args.runs.now)) (sym c.self.view_is) ∙ sym c.runs_inside.ensures
    ∙ c.if-not-runs_inside.false)
    (omega (arith, limit, count, change_len-least c.args.self.now.shape (runs_given c.args.runs.now), c.if-runs-limit.true))

pub overflow_mul-payload : goal.overflow_mul-payload
overflow_mul-payload g c =
    let s = c.self.inside in
    let few = c.count_positions-records.ensures.few in
    let size = c.self.invariant.job.size_fits in
    omega (arith, mul-le c.count_positions-records.result s.shape.width (2 ^ 32) (2 ^ 16) (omega arith) (omega (arith, c.self.invariant.job.wide.1)))

pub overflow_add-payload : goal.overflow_add-payload
overflow_add-payload g c = grind (arith, common_steps)
