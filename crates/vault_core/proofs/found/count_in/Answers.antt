use Rattle.std.proofs.Crossing.{crosses}
use denote.Param.Send.{sendable}
use Rattle.std.proofs.Common.{refl, ap, ◌∙◌}
use Rattle.std.specs.List.{count_by}
use Rattle.vault_core.proofs.Lent.{lends_few, lends_all}
use Rattle.vault_core.proofs.found.count_in.Goals as goal

pub count_where-requires : goal.count_where-requires
count_where-requires g c κs =
    (search (sendable, crosses) depth 20, (search (sendable, crosses) depth 20, (search (sendable, crosses) depth 20, ((refl, tt), (tt, (tt, lends_few c.args.pieces c.requires))))))

pub returns : goal.returns
returns g c =
    let counted = c.count_where.ensures in
    counted.2 ∙ ap (count_by (g.P.Pick.picks_of c.args.pick.now)) (lends_all c.args.pieces counted.0 counted.1)
