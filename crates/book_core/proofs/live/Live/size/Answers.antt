use Rattle.std.proofs.Common.{ap, length, arith}
use Rattle.directory_core.specs.Chain.{total}
use Rattle.book_core.specs.Lists.{opening_of}
use Rattle.book_core.proofs.Owns.{length-list}
use Rattle.book_core.proofs.live.Live.size.Goals as goal

pub returns-clause-is : goal.returns-clause-is
returns-clause-is g c =
    let sum = length-list (opening_of c.args.self.now) c.args.seat.now.pass.entries in
    let len = c.len.ensures.is in
    let size = c.size.ensures.sum in
    let opening = ap (λ l. length (opening_of l)) c.self.view_is in
    let known = ap (λ s. total s.pass.entries) c.seat.view_is in
    omega arith
