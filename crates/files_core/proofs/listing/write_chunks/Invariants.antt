use Rattle.std.proofs.Common.{◌≡◌, List, ◌++◌, length}
use Rattle.std.specs.Io.KnownBytes.{Appends}
use Rattle.text_core.specs.Text.{record_lines}
use Rattle.files_core.proofs.listing.write_chunks.Given as goal

abbrev pub invariant-loop-rest : goal.invariant-loop-rest
invariant-loop-rest g l =
    (written : List g.row.R.Denot) × (l.fn.records ≡ written ++ l.rest) × Appends (g.W.Write.contents l.fn.writer) (g.W.Write.contents l.writer)
    (record_lines g.R.TextRecord.spelling.text_of written)

abbrev pub decreases-loop-rest : goal.decreases-loop-rest
decreases-loop-rest g l = length l.rest
