use Rattle.std.proofs.Common.{List, ℕ, [], ◌∷◌, ◌++◌, ap, ◌∙◌}
use Rattle.image_core.proofs.file_of_lines.write_file.Goals as goal

pub returns-in-Some-clause-refused : goal.returns-in-Some-clause-refused
returns-in-Some-clause-refused g c =
    let read = c.in_ok-append_lines.ensures.read in
    let draft = rw c.in-Some.is at read.2 in
    (read.0, draft.0, read.1, draft.1, draft.2)

pub returns-clause-made : goal.returns-clause-made
returns-clause-made g c =
    let read = c.in_ok-append_lines.ensures.read in
    let draft = rw c.in_default.is at read.2 in
    (read.0, read.1, draft.0, c.in_ok-append_last_gate.ensures ∙ ap (λ (bs : List ℕ). bs ++ 0 ∷ []) draft.1)
