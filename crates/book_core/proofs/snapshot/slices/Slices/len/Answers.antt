use Rattle.book_core.proofs.Slices.{length_is}
use Rattle.book_core.proofs.snapshot.slices.Slices.len.Goals as goal

pub returns-clause-sum : goal.returns-clause-sum
returns-clause-sum g c = rw (← c.self.view_is) (length_is c.self.invariant.0)
