use Rattle.std.proofs.Common.{◌≡◌, ◌+◌, ◌++◌, length}
use Rattle.search_core.specs.Search.{PassesOver}
use Rattle.search_core.proofs.search.Finder.take_in.Given as goal

-- of what the batch had and the piece has, some was let go; the batch has some of what is left, and the rest the others
abbrev pub invariant-loop-rest : goal.invariant-loop-rest
invariant-loop-rest g l = record {
  passed : PassesOver (g.P.Pick.picks_of l.pick) l.fn.self.before (l.fn.self.batch.1 ++ l.fn.piece) l.self.before (l.self.batch.1 ++ l.rest);
  seen : l.self.seen + length l.rest ≡ l.fn.self.seen + length l.fn.piece;
}

abbrev pub decreases-loop-rest : goal.decreases-loop-rest
decreases-loop-rest g l = length l.rest
