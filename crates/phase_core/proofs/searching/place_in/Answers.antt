use Rattle.std.proofs.Common.{Some, ap, refl, sym, ◌∙◌, arith}
use Rattle.std.proofs.lemmas.Option.{slice_get_read}
use Rattle.phase_core.proofs.PieceLemmas.{none_more}
use Rattle.phase_core.proofs.searching.place_in.Goals as goal

pub returns-then-eq : goal.returns-then-eq
returns-then-eq g c =
    let records = c.args.records.now in
    let lt = c.loop-k-test.true in
    let none = c.loop-k.invariant in
    let laws = g.met.R.Record g.world.𝓛 g.world.𝓜 g.world.𝓡 ((λ s x. x), (λ x. x), (λ x. x), λ x. x) in
    let r = c.index-records-k.result in
    let it = laws.exact r c.args.sought (sym c.eq.ensures ∙ c.if-eq.true) in
    record {
      within = omega arith;
      here = λ inside. (omega arith, slice_get_read records _ c.loop-k.k r refl lt c.index-records-k.is ∙ ap Some it);
      first = λ i _ below. none i below;
    }

pub loop-k-preserved : goal.loop-k-preserved
loop-k-preserved g c =
    let records = c.args.records.now in
    let same = g.met.R.Eq g.world.𝓛 g.world.𝓜 g.world.𝓡 ((λ s x. x), (λ x. x), (λ x. x), λ x. x) in
    let r = c.index-records-k.result in
    none_more g.R.PartialEq.eq c.args.sought r records c.loop-k.k (same.laws.refl c.args.sought) (slice_get_read records _ c.loop-k.k r refl c.loop-k-test.true c.index-records-k.is) (sym c.eq.ensures ∙ c.if-eq.false) c.loop-k.invariant

pub returns : goal.returns
returns g c =
    let none = c.loop-k.invariant in
    let past = c.loop-k-test.false in
    record {
      within = omega arith;
      here = λ inside. absurd (omega arith);
      first = λ i _ below. none i (omega arith);
    }
