use Rattle.std.proofs.Common.{◌++◌, List, Bor}
use Rattle.std.specs.Iterator.{IsFinite, Yields, size}
use Rattle.search_core.specs.Search.{records_in, PassesOver}
use Rattle.search_core.proofs.search.find_in_batches.Given as goal

-- none of the records that were let go is picked, and the batch has the others
abbrev pub invariant-loop-piece : goal.invariant-loop-piece
invariant-loop-piece g l = record {
  items : List (Bor (List g.row.R.Denot));
  so_far : Yields g.I.Iterator.next_gives l.fn.behind items l.pieces;
  passed : PassesOver (g.P.Pick.picks_of l.pick) 0 (l.head ++ records_in items) l.finder.before l.finder.batch.1;
  can : g.I.Iterator.can_next l.pieces;
  finite : IsFinite (g.I.Iterator.remaining l.pieces);
}

abbrev pub decreases-loop-piece : goal.decreases-loop-piece
decreases-loop-piece g l = size (g.I.Iterator.remaining l.pieces)
