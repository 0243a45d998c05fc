use Rattle.book_core.proofs.mark.Writer.set.Given as goal

abbrev pub ghosts-store : goal.ghosts-store
ghosts-store a = record { raises = a.self.now.raises }
