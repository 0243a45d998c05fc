use Rattle.std.proofs.Common.{◌≡◌, ◌+◌, ◌≤◌, length, List, Bor}
use Rattle.std.specs.Iterator.{IsFinite, Yields, size}
use Rattle.std.specs.List.{count_by}
use Rattle.search_core.specs.Search.{records_in}
use Rattle.search_core.proofs.search.count_where.Given as goal

-- the records of the pieces so far are counted, but those that the batch has
abbrev pub invariant-loop-piece : goal.invariant-loop-piece
invariant-loop-piece g l = record {
  items : List (Bor (List g.row.R.Denot));
  so_far : Yields g.I.Iterator.next_gives l.fn.pieces items l.pieces;
  counted : l.total + count_by (g.P.Pick.picks_of l.pick) l.batch.1 ≡ count_by (g.P.Pick.picks_of l.pick) (records_in items);
  few : length l.batch.1 ≤ length (records_in items);
  can : g.I.Iterator.can_next l.pieces;
  finite : IsFinite (g.I.Iterator.remaining l.pieces);
}

abbrev pub decreases-loop-piece : goal.decreases-loop-piece
decreases-loop-piece g l = size (g.I.Iterator.remaining l.pieces)
