use Rattle.std.proofs.Common.{◌++◌, List, ℕ, length, ap, ◌∙◌}
use Rattle.std.proofs.lemmas.List.{append_assoc}
use Rattle.text_core.proofs.Small.{IfOk_weaker}
use Rattle.play_core.specs.Answers.{crashed_line}
use Rattle.play_core.specs.Played.{ram_disk}
use Rattle.play_core.proofs.Played.{part_played}
use Rattle.play_core.proofs.playing.play_part.Goals as goal

pub returns-clause-played : goal.returns-clause-played
returns-clause-played g c =
    let played = c.in_ok-disk.ensures.played in
    IfOk_weaker c.play_crash.result _ _ (λ left so.
    let line = crashed_line (length so.0) in
    let written = so.2 ∙ ap (λ (t : List ℕ). t ++ line) played.1 ∙ append_assoc c.args.text.now.items played.0 line in
    let text_of = g.R.TextRecord.spelling.text_of in
    let old = ram_disk c.args.disk in
    let given = c.as_slice.result.now in
    let part = part_played g.R.Record.form text_of old c.args.part.now c.in_ok-disk.disk given so.0 played.0 c.as_slice.ensures.value played.2 so.1 in
    (so.0, played.0 ++ line, written, part, so.3)) c.play_crash.ensures.crashed
