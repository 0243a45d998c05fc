use Rattle.std.proofs.Common.{◌<◌, arith}
use Rattle.vault_core.proofs.Cuts.{sum_next}
use Rattle.vault_core.proofs.blocks.Blocks.place_of.Goals as goal

pub returns-clause-inside : goal.returns-clause-inside
returns-clause-inside g c =
    let found = c.block_of-number.ensures in
    let from = found.1 in
    let until = found.2 in
    omega (arith, sum_next c.args.self.now c.block_of-number.result found.0, c.start_of.ensures.is)

pub returns-clause-is : goal.returns-clause-is
returns-clause-is g c =
    let from = c.block_of-number.ensures.1 in
    omega (arith, c.start_of.ensures.is)
