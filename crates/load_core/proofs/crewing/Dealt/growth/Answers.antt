use Rattle.std.proofs.Common.{refl, arith}
use Rattle.load_core.proofs.Slices.{growth_is, growth_there}
use Rattle.load_core.proofs.crewing.Dealt.growth.Goals as goal

pub overflow_add-self : goal.overflow_add-self
overflow_add-self g c =
    let it = c.args.self.now in
    let there = growth_there it.growths.0 it.from it.growers c.args.grower c.args.k c.requires.grower c.requires.k in
    let count = it.count_is in
    omega (arith, there, count.0, count.1)

pub growth-requires : goal.growth-requires
growth-requires g c = let it = c.args.self.now in growth_there it.growths.0 it.from it.growers c.args.grower c.args.k c.requires.grower c.requires.k

pub returns : goal.returns
returns g c =
    let it = c.args.self.now in
    growth_is it.growths.0 it.from it.growers c.args.grower c.args.k c.requires.grower c.requires.k _ c.growth.result.now refl c.growth.ensures
