use Rattle.std.proofs.Common.{◌≡◌}
use Rattle.book_core.proofs.Begins.{narrow_may, narrow_refused}
use Rattle.book_core.proofs.live.Live.begin.Goals as goal

pub returns-clause-may : goal.returns-clause-may
returns-clause-may g c = narrow_may c.args.room c.args.seats c.if-room-gt-GROWTH_LIMIT.false c.begin_wide.result c.begin_wide.ensures.may

pub returns-clause-refused : goal.returns-clause-refused
returns-clause-refused g c =
    narrow_refused c.args.room c.args.seats c.if-room-gt-GROWTH_LIMIT.false (λ blocks. blocks.items ≡ c.args.blocks.items) c.begin_wide.result
    c.begin_wide.ensures.refused
