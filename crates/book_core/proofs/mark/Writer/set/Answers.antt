use Rattle.book_core.proofs.mark.Writer.set.Goals as goal

pub store-requires-clause-raised : goal.store-requires-clause-raised
store-requires-clause-raised c = rw (← c.self.view_is) c.self.invariant.1
