use Rattle.std.proofs.Common.{◌≡◌, ◌+◌, ◌≤◌, length}
use Rattle.std.specs.List.{count_by}
use Rattle.search_core.proofs.batch.Batch.take_in.Given as goal

abbrev pub invariant-loop-rest : goal.invariant-loop-rest
invariant-loop-rest g l = record {
  counted : l.count + count_by (g.P.Pick.picks_of l.pick) l.self.1 + count_by (g.P.Pick.picks_of l.pick) l.rest
      ≡ count_by (g.P.Pick.picks_of l.pick) l.fn.self.1 + count_by (g.P.Pick.picks_of l.pick) l.fn.piece;
  few : length l.self.1 + length l.rest ≤ length l.fn.self.1 + length l.fn.piece;
}

abbrev pub decreases-loop-rest : goal.decreases-loop-rest
decreases-loop-rest g l = length l.rest
