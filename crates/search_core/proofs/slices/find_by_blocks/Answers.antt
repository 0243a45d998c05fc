use Rattle.std.proofs.Common.{◌≡◌, ◌+◌, ◌-◌, Some, ap, sym, subst, length, arith}
use Rattle.std.specs.List.{count_by}
use Rattle.std.proofs.lemmas.List.{length-append}
use Rattle.search_core.specs.Search.{IsFirst}
use Rattle.search_core.proofs.Counts.{count_by-append}
use Rattle.search_core.proofs.Firsts.{first_behind}
use Rattle.search_core.proofs.slices.find_by_blocks.Goals as goal

pub find_in-requires-clause-few : goal.find_in-requires-clause-few
find_in-requires-clause-few g c κs within =
    let e = c.skip_blocks-rest.ensures in
    omega (arith, c.requires.few, ap length e.1, length-append e.0 c.skip_blocks-rest.result.now)

pub overflow_sub-before : goal.overflow_sub-before
overflow_sub-before g c =
    let e = c.skip_blocks-rest.ensures in
    omega (arith, ap length e.1, length-append e.0 c.skip_blocks-rest.result.now)

pub returns-in-Some : goal.returns-in-Some
returns-in-Some g c =
    let p = g.P.Pick.picks_of c.args.pick.now in
    let e = c.skip_blocks-rest.ensures in
    let rest = c.skip_blocks-rest.result.now in
    let place = c.in-Some.place in
    let at : length e.0 + place ≡ length c.args.records.now - length rest + place = omega (arith, ap length e.1, length-append e.0 rest) in
    subst (λ n. IsFirst p c.args.records.now (Some n)) at
    (subst (λ rs. IsFirst p rs (Some (length e.0 + place))) (sym e.1) (first_behind p e.0 rest place e.2 c.in-Some.ensures))

pub returns-in-None : goal.returns-in-None
returns-in-None g c =
    let p = g.P.Pick.picks_of c.args.pick.now in
    let e = c.skip_blocks-rest.ensures in
    omega (arith, ap (count_by p) e.1, count_by-append p e.0 c.skip_blocks-rest.result.now, e.2, c.in-None.ensures)
