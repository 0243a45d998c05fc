use Rattle.follow_core.proofs.Fronts.{counts_later}
use Rattle.follow_core.proofs.telling.count_piece.Goals as goal

pub returns-in_default-clause-counted : goal.returns-in_default-clause-counted
returns-in_default-clause-counted g c = λ kept frames file first.
    counts_later c.args.shape (g.S.Shared.held c.args.file.now) frames file (g.S.Shared.now c.args.file.now) (g.S.Shared.now c.read_some.new.self) c.args.summary c.read_some.ensures.time first

pub returns-in-Err-clause-counted : goal.returns-in-Err-clause-counted
returns-in-Err-clause-counted g c = λ kept frames file first.
    absurd (c.in-Err.ensures.counted (g.S.Shared.held c.args.file.now) frames (g.S.Shared.now c.args.file.now) (g.S.Shared.now c.read_some.new.self) file (c.in-Ok.ensures.each kept) first)
