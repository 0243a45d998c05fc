use Rattle.std.specs.Prelude.{◌∷◌}
use Rattle.book_core.proofs.mark.Writer.raise.Given as goal

abbrev pub ghosts-store : goal.ghosts-store
ghosts-store g a = record { raises = record { count = a.told.count; at = g.M.Moment.at } ∷ a.self.now.raises }
