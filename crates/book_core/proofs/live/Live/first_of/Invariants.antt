use Rattle.std.proofs.Common.{◌≡◌, take}
use Rattle.book_core.specs.Lists.{own_of}
use Rattle.book_core.proofs.live.Live.first_of.Given as goal

abbrev pub invariant-loop-number : goal.invariant-loop-number
invariant-loop-number g l = (l.pass ≡ l.fn.pass) × (own_of l.fn.id (take l.number l.fn.pass.entries) ≡ own_of l.fn.id (take l.fn.from l.fn.pass.entries))
