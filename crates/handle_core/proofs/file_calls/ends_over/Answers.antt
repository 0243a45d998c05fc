use Rattle.std.proofs.Common.{ap, sym, subst}
use Rattle.segment_core.specs.Shape.{version_of}
use Rattle.handle_core.specs.Begins.{Begins}
use Rattle.handle_core.specs.declared.end.Role.TheVariants as roles
use Rattle.handle_core.proofs.file_calls.ends_over.Goals as goal

pub returns-in-Ok-clause-begins : goal.returns-in-Ok-clause-begins
returns-in-Ok-clause-begins g c =
    let e = c.in-Ok.ensures in
    subst (λ made. Begins {record_of = g.R.Record} {eq_of = g.R.PartialEq} made c.args.growths c.args.seats (roles.Phase c.in-Ok.phase) (roles.File c.args.read) (roles.Committer c.in-Ok.committer))
    (sym c.in-Some.is)
    (ap (λ shape. version_of shape.format) e.shape, e.seats, e.room, e.empty, e.none_existed, e.one, e.begins.0, e.begins.1, e.made, e.born)
