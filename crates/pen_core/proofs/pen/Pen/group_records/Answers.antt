use Rattle.std.proofs.Common.{◌≡◌, ℕ, ◌+◌, ◌*◌, ◌^◌, ◌<◌, ◌≤◌, length, ap, subst, ◌∙◌, arith}
use Rattle.std.proofs.lemmas.Nat.{mul-le}
use Rattle.segment_core.specs.Shape.{limit_of}
use Rattle.segment_core.specs.Written.{joined, payload_len}
use Rattle.pen_core.specs.Refusals.{fold_len}
use Rattle.pen_core.proofs.Begins.{all_fits}
use Rattle.pen_core.proofs.Growths.{few_growths}
use Rattle.pen_core.proofs.pen.Pen.group_records.Given.{Over}
use Rattle.pen_core.proofs.pen.Pen.group_records.Goals.{After-width_of}
use Rattle.pen_core.proofs.pen.Pen.group_records.Goals as goal

-- ---- the payload's length fits

pub overflow_mul-payload : goal.overflow_mul-payload
overflow_mul-payload g c =
    let growths = g.G.GrowthList.growths c.args.growths.now in
    let few = few_growths growths c.requires in
    let small = c.in-Some.ensures in
    let count = c.count.ensures in
    omega (arith, small.0, small.1)

pub overflow_add-payload : goal.overflow_add-payload
overflow_add-payload g c =
    let growths = g.G.GrowthList.growths c.args.growths.now in
    let few = few_growths growths c.requires in
    let small = c.in-Some.ensures in
    let count = c.count.ensures in
    omega (arith, small.0, small.1)

pub overflow_add-payload-2 : goal.overflow_add-payload-2
overflow_add-payload-2 g c =
    let growths = g.G.GrowthList.growths c.args.growths.now in
    let few = few_growths growths c.requires in
    let small = c.in-Some.ensures in
    let count = c.count.ensures in
    let most = mul-le c.in-Some.records c.width_of.result (2 ^ 32) (2 ^ 16) small.1 (omega (arith, c.width_of.ensures.range.1)) in
    omega (arith, small.0, small.1)

-- the payload
payload : (g : Over) (c : After-width_of g)
    → 4 + c.count.result * 4 + c.in-Some.records * c.width_of.result ≡ payload_len g.R.Record.form.width (g.G.GrowthList.growths c.args.growths.now)
payload g c =
    let growths = g.G.GrowthList.growths c.args.growths.now in
    ap (λ n. 4 + n * 4 + c.in-Some.records * c.width_of.result) c.count.ensures
    ∙ ap (λ n. 4 + length growths * 4 + n * c.width_of.result) c.in-Some.ensures.0
    ∙ ap (λ w. 4 + length growths * 4 + length (joined growths) * w) c.width_of.ensures.is

-- ---- what is told of them

pub returns-clause-short : goal.returns-clause-short
returns-clause-short g c =
    let s = c.self.inside in
    let growths = g.G.GrowthList.growths c.args.growths.now in
    subst (λ v. v.tally.size + length (joined growths) ≤ 2 ^ 32) c.self.view_is
    (subst (λ n. s.tally.size + n ≤ 2 ^ 32) c.in-Some.ensures.0 c.if-self-records-gt-RECORD_LIMIT.false)

pub returns-clause-fits : goal.returns-clause-fits
returns-clause-fits g c =
    let s = c.self.inside in
    let len = 4 + c.count.result * 4 + c.in-Some.records * c.width_of.result in
    let growths = g.G.GrowthList.growths c.args.growths.now in
    subst (λ v. payload_len g.R.Record.form.width growths ≤ limit_of v.shape.format) c.self.view_is
    (subst (λ n. n ≤ limit_of s.shape.format) (payload g (goal.at.returns-clause-fits g c).After-width_of)
    (subst (λ n. len ≤ n) c.payload_limit-limit.ensures.is c.if-payload-limit.false))

pub returns-clause-space : goal.returns-clause-space
returns-clause-space g c =
    let pen = c.args.self.now in
    let len = 4 + c.count.result * 4 + c.in-Some.records * c.width_of.result in
    subst (λ n. pen.gate + (6 + n) + fold_len pen.fold < 2 ^ 48) (payload g (goal.at.returns-clause-space g c).After-width_of)
    (all_fits c.is_full.result pen.gate len (fold_len pen.fold) c.is_full.ensures c.if-is_full.false)
