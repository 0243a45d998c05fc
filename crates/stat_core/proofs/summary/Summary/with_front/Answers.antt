use Rattle.std.proofs.Common.{ℕ, ◌+◌, Option, Ok, Some, MatchOption, sym, ap, subst, ◌∙◌, arith}
use Rattle.segment_core.specs.Tally.{MayFollow}
use Rattle.segment_core.proofs.Payload.{limit_small}
use Rattle.stat_core.specs.declared.outline.Outline.{Outline}
use Rattle.stat_core.specs.Next.{IsSized}
use Rattle.stat_core.specs.Outline.{MayStand}
use Rattle.stat_core.specs.Summary.{grown, AreFew}
use Rattle.stat_core.proofs.Counted.{few_grown, grown_gate}
use Rattle.stat_core.proofs.Fronted.{limit_enough, fronted_outline, fronted_open, fronted_sound}
use Rattle.stat_core.proofs.summary.Summary.with_front.Goals as goal

pub returns-in-Ok-Some-clause-counted : goal.returns-in-Ok-Some-clause-counted
returns-in-Ok-Some-clause-counted c frame whole may same =
    let outline = fronted_outline c.args.shape frame c.args.front.now c.args.self.gate (6 + c.payload_limit.result) c.tally.result c.read_outline.result whole
    (subst (λ t. MayFollow t frame) (sym c.tally.ensures) may) (ap (λ n. 6 + n) c.payload_limit.ensures.is) (omega (arith, limit_enough c.args.shape.format, c.payload_limit.ensures.is))
    c.requires.long same c.read_outline.ensures.next c.in-Ok-Some.outline c.in-Ok-Some.payload_len (c.in-Ok-Some.is ∙ ap Ok c.in-Ok-Some.field-0-is) in
    ap (λ s. Ok (Some s)) (c.grown.ensures ∙ ap (grown c.args.shape c.args.self) outline)

pub returns-in-Ok-Some-clause-few : goal.returns-in-Ok-Some-clause-few
returns-in-Ok-Some-clause-few c =
    let s = c.args.self in
    let sized : IsSized c.args.shape c.tally.result (6 + c.payload_limit.result) (c.in-Ok-Some.outline, c.in-Ok-Some.payload_len)
    = subst (λ (o : Option (Outline × ℕ)). MatchOption o (Unit {0}) (IsSized c.args.shape c.tally.result (6 + c.payload_limit.result))) c.in-Ok-Some.field-0-is c.in-Ok-Some.ensures.sized in
    subst AreFew (sym c.grown.ensures) (few_grown c.args.shape s c.in-Ok-Some.outline c.requires.wide c.requires.few (subst (λ t. MayStand t c.in-Ok-Some.outline) c.tally.ensures sized.stands))

pub returns-in-Ok-Some-clause-later : goal.returns-in-Ok-Some-clause-later
returns-in-Ok-Some-clause-later c =
    let sized : IsSized c.args.shape c.tally.result (6 + c.payload_limit.result) (c.in-Ok-Some.outline, c.in-Ok-Some.payload_len)
    = subst (λ (o : Option (Outline × ℕ)). MatchOption o (Unit {0}) (IsSized c.args.shape c.tally.result (6 + c.payload_limit.result))) c.in-Ok-Some.field-0-is c.in-Ok-Some.ensures.sized in
    let gate = ap (λ t. t.gate) c.grown.ensures ∙ grown_gate c.args.shape c.args.self c.in-Ok-Some.outline in
    let inside = sized.inside in
    let len = sized.len in
    let limit = limit_small c.args.shape.format in
    (omega (arith, gate), omega (arith, gate, len, inside, limit, c.payload_limit.ensures.is, c.requires.placed))

pub returns-in-Ok-None-clause-counted : goal.returns-in-Ok-None-clause-counted
returns-in-Ok-None-clause-counted c frame whole may same =
    absurd (fronted_open c.args.shape frame c.args.front.now c.args.self.gate (6 + c.payload_limit.result) c.tally.result c.read_outline.result whole
    (subst (λ t. MayFollow t frame) (sym c.tally.ensures) may) (ap (λ n. 6 + n) c.payload_limit.ensures.is) (omega (arith, limit_enough c.args.shape.format, c.payload_limit.ensures.is))
    c.requires.long same c.read_outline.ensures.next (c.in-Ok-None.is ∙ ap Ok c.in-Ok-None.field-0-is))

pub returns-in-Err-clause-counted : goal.returns-in-Err-clause-counted
returns-in-Err-clause-counted c frame whole may same =
    absurd (fronted_sound c.args.shape frame c.args.front.now c.args.self.gate (6 + c.payload_limit.result) c.tally.result c.read_outline.result whole
    (subst (λ t. MayFollow t frame) (sym c.tally.ensures) may) (ap (λ n. 6 + n) c.payload_limit.ensures.is) (omega (arith, limit_enough c.args.shape.format, c.payload_limit.ensures.is))
    c.requires.long same c.read_outline.ensures.next c.in-Err.fault c.in-Err.is)
