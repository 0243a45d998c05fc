use Rattle.std.proofs.Common.{◌≡◌, List, length}
use Rattle.image_core.specs.Drafts.{IsDraft}
use Rattle.text_core.proofs.LineGroups.{HasGroups}
use Rattle.image_core.proofs.file_of_lines.append_lines.Given as goal

abbrev pub invariant-lines : goal.invariant-lines
invariant-lines g l =
    (groups : List (List (List g.row.R.Denot)))
    × HasGroups g.R.TextRecord.spelling l.input groups l.rest
    × (l.lines ≡ length groups)
    × IsDraft g.R.Record.form groups l.file.items l.too_large

abbrev pub decreases-lines : goal.decreases-lines
decreases-lines g l = length l.rest
