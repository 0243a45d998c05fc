use Rattle.std.proofs.Common.{arith}
use Rattle.book_core.proofs.BlockEnds.{block_found}
use Rattle.book_core.proofs.opening.Opening.find.Goals as goal

pub returns : goal.returns
returns g c =
    let s = c.args.self.now in
    let found = c.block_of-number.ensures in
    let ok = s.blocks.ok in
    block_found s.blocks.items c.args.i c.block_of-number.result c.start_of-start.result (let lt = found.0 in omega arith) c.start_of-start.ensures found.1 found.2
