use Rattle.std.proofs.Common.{◌≡◌, ◌++◌, ℕ, length, rules, ap, ◌∙◌}
use Rattle.play_core.specs.Answers.{crashed_line}
use Rattle.play_core.proofs.Played.{is_fresh}
use Rattle.play_core.proofs.playing.play_crash.Goals as goal

pub returns-in-Ok-write_crashed-clause-crashed : goal.returns-in-Ok-write_crashed-clause-crashed
returns-in-Ok-write_crashed-clause-crashed c =
    let long : c.len.result ≡ length c.in-Ok.image.items = search rules in
    let fresh = is_fresh c.from_bytes.result c.in-Ok.image.items c.from_bytes.ensures.states c.from_bytes.ensures.faults in
    (c.in-Ok.image.items, c.in-Ok.ensures.chosen, c.in-Ok-write_crashed.ensures ∙ ap (λ (n : ℕ). c.args.text.now.items ++ crashed_line n) long, fresh)
