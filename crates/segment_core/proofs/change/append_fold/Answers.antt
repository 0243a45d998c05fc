use Rattle.std.proofs.Common.{◌∷◌, ◌++◌, ℕ, List, length, ap, ◌∙◌, arith}
use Rattle.std.specs.Int.{w32, to_le_bytes}
use Rattle.std.proofs.lemmas.List.{length-append}
use Rattle.std.proofs.lemmas.Result.{on_ok_weaker}
use Rattle.segment_core.proofs.Changes.{number_appended}
use Rattle.segment_core.proofs.change.append_fold.Goals as goal

pub returns-clause-text : goal.returns-clause-text
returns-clause-text c =
    let head : List ℕ = 1 ∷ 4 ∷ to_le_bytes w32 8 in
    on_ok_weaker c.extend_from_slice.result
    (λ is format. is ∙ ap (λ (bs : List ℕ). c.args.file.now.items ++ (head ++ bs)) c.to_le_bytes.ensures)
    (number_appended c.extend_from_slice.result c.args.file.now.items c.append_head.new.file.items
    c.extend_from_slice.new.self.items head c.to_le_bytes.result c.in_ok-append_head.ensures.text
    c.extend_from_slice.ensures.items)

pub returns-clause-room : goal.returns-clause-room
returns-clause-room c room =
    let headed = ap length c.in_ok-append_head.ensures.text ∙ length-append c.args.file.now.items (1 ∷ 4 ∷ to_le_bytes w32 8) in
    let eight = ap length c.to_le_bytes.ensures in
    let grown = c.append_head.ensures.capacity in
    c.extend_from_slice.ensures.succeeds (omega arith)
