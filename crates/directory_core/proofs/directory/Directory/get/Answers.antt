use Rattle.std.proofs.Common.{arith}
use Rattle.directory_core.specs.Chain.{grown_records}
use Rattle.directory_core.proofs.Readings.{piece_first}
use Rattle.directory_core.proofs.directory.Directory.get.Goals as goal

pub bounds-piece-0 : goal.bounds-piece-0
bounds-piece-0 g c = let some = c.in-Some.ensures.in_order.some in omega arith

pub returns-in-Some-clause-value : goal.returns-in-Some-clause-value
returns-in-Some-clause-value g c =
    let lent = c.in-Some.ensures.in_order in
    piece_first (grown_records c.args.pass.now.entries) c.in-Some.piece.now c.args.i c.index-piece-0.result lent.some lent.is c.index-piece-0.is
