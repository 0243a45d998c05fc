use Rattle.std.proofs.Common.{ap, ◌∙◌}
use Rattle.book_core.proofs.Puts.{seated}
use Rattle.book_core.proofs.live.Live.piece_at.Goals as goal

pub returns-in_err-entry-clause-same : goal.returns-in_err-entry-clause-same
returns-in_err-entry-clause-same g c =
    let s = c.seat.inside in
    ap (λ p. seated s.id s.checked p s.mark) c.entry.ensures.same ∙ c.seat.view_is

pub returns-clause-same : goal.returns-clause-same
returns-clause-same g c =
    let s = c.seat.inside in
    ap (λ p. seated s.id s.checked p s.mark) c.entry.ensures.same ∙ c.seat.view_is
