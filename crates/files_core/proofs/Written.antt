-- What was written, piece by piece.
use Rattle.std.proofs.Common.{ℕ, List, ◌++◌, Option, sym, subst}
use Rattle.std.specs.Io.KnownBytes.{Appends}
use Rattle.std.proofs.lemmas.List.Concat.{flat_map-append}
use Rattle.text_core.specs.Text.{ended_line, record_lines}
use Rattle.text_core.proofs.Written.{appends_join}

-- records behind others, one a line
pub lines_join : {R : Type 0} (text_of : R → List ℕ) (old mid new : Option (List ℕ)) (front behind : List R)
    → Appends old mid (record_lines text_of front) → Appends mid new (record_lines text_of behind)
    → Appends old new (record_lines text_of (front ++ behind))
lines_join text_of old mid new front behind first then =
    subst (Appends old new) (sym (flat_map-append (λ r. ended_line (text_of r)) front behind)) (appends_join old mid new (record_lines text_of front) (record_lines text_of behind) first then)
