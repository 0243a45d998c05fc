use Rattle.std.proofs.Common.{◌≡◌, ◌++◌, [], ap, refl, sym, ◌∙◌, length, rules, arith}
use Rattle.std.specs.List.{count_by}
use Rattle.std.proofs.lemmas.List.{append_assoc, length-append}
use Rattle.search_core.proofs.Counts.{count_by-append}
use Rattle.search_core.proofs.slices.skip_blocks.Goals as goal

pub loop-rest-init : goal.loop-rest-init
loop-rest-init g c = record { gone = []; whole = refl; none = refl }

pub count_in-requires-clause-few : goal.count_in-requires-clause-few
count_in-requires-clause-few g c κs within =
    let i = c.loop-rest.invariant in
    omega (arith, c.split_at.ensures.front_len, c.requires.few, ap length i.whole, length-append i.gone c.loop-rest.rest.now, c.loop-rest-test.true)

pub loop-rest-preserved : goal.loop-rest-preserved
loop-rest-preserved g c =
    let p = g.P.Pick.picks_of c.args.pick.now in
    let i = c.loop-rest.invariant in
    let block = c.split_at.result.0.now in
    let behind = c.split_at.result.1.now in
    let cut : c.loop-rest.rest.now ≡ block ++ behind = search rules in
    let none : count_by p block ≡ 0 = omega (arith, c.count_in.ensures, c.if-count_in-gt0.false) in
    record {
      gone = i.gone ++ block;
      whole = i.whole ∙ ap (λ rs. i.gone ++ rs) cut ∙ sym (append_assoc i.gone block behind);
      none = omega (arith, count_by-append p i.gone block, i.none, none);
    }
