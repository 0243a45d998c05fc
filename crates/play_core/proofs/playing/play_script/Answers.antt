use Rattle.std.proofs.Common.{◌<◌, ◌≤◌, length, map, get_or, ap, ◌∙◌, rules}
use Rattle.std.proofs.lemmas.List.{drop_all}
use Rattle.play_core.specs.Script.{part_of, script_of}
use Rattle.play_core.proofs.Played.{HasPlayed_more, HasPlayed_all, drop_next, steps_played}
use Rattle.play_core.proofs.playing.play_script.Goals as goal

pub loop-part-preserved : goal.loop-part-preserved
loop-part-preserved g c =
    let parts = c.args.script.now.parts.items in
    let inside : c.loop-part.part-index < length c.args.script.now.parts.items = search rules in
    let cut =
    ap (map part_of)
    (drop_next parts c.loop-part.part-index c.part-item.result inside (c.part-item.is ∙ ap (λ xs. get_or xs c.loop-part.part-index c.part-item.result) c.deref-part-items.ensures.value))
    in
    let played = c.in_ok-disk.ensures.played in
    HasPlayed_more g.R.Record.form g.R.TextRecord.spelling.text_of (script_of c.args.script.now) _ _ (part_of c.part-item.result) _ _
    c.loop-part.text.items _ played.0 played.1 cut played.2 played.3 played.4 c.loop-part.invariant

pub returns-clause-played : goal.returns-clause-played
returns-clause-played g c =
    let parts = c.args.script.now.parts.items in
    let past : length c.args.script.now.parts.items ≤ c.loop-part.part-index = search rules in
    let none = ap (map part_of) (drop_all c.loop-part.part-index parts past) in
    let played = c.in_ok-play_steps.ensures.played in
    HasPlayed_all g.R.Record.form g.R.TextRecord.spelling.text_of (script_of c.args.script.now) _ _ _ c.loop-part.text.items _ played.0 none played.1
    (steps_played g.R.Record.form g.R.TextRecord.spelling.text_of _ _ _ _ played.0 c.as_slice.ensures.value played.2) c.loop-part.invariant
