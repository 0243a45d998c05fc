use Rattle.std.proofs.Crossing.{crosses}
use denote.Param.Send.{sendable}
use Rattle.std.proofs.Common.{refl}
use Rattle.vault_core.proofs.Lent.{lends_few, lends_first}
use Rattle.vault_core.proofs.found.find_in.Goals as goal

pub find_first-requires : goal.find_first-requires
find_first-requires g c κs =
    (search (sendable, crosses) depth 20, (search (sendable, crosses) depth 20, (search (sendable, crosses) depth 20, ((refl, tt), (tt, (tt, lends_few c.args.pieces c.requires))))))

pub returns : goal.returns
returns g c =
    let found = c.find_first.ensures in
    let p = g.P.Pick.picks_of c.args.pick.now in
    lends_first p c.args.pieces found.0 c.find_first.result found.1 found.2
