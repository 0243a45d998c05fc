use Rattle.std.proofs.Common.{◌≡◌, ◌-◌, List, ◌++◌, length, take, drop}
use Rattle.std.specs.Io.KnownBytes.{Appends}
use Rattle.segment_core.specs.Written.{joined}
use Rattle.text_core.specs.Text.{record_lines}
use Rattle.files_core.proofs.listing.write_window.Given as goal

abbrev pub invariant-loop-piece : goal.invariant-loop-piece
invariant-loop-piece g l = record {
  gone : List (List g.row.R.Denot);
  all : l.fn.pieces ≡ gone ++ l.pieces;
  skipped : l.skip ≡ l.window.from - length (joined gone);
  wanted : l.left ≡ l.window.count - length (drop l.window.from (joined gone));
  written : Appends (g.W.Write.contents l.fn.writer) (g.W.Write.contents l.writer) (record_lines g.R.TextRecord.spelling.text_of (take l.window.count (drop l.window.from (joined gone))));
}

abbrev pub decreases-loop-piece : goal.decreases-loop-piece
decreases-loop-piece g l = length l.pieces
