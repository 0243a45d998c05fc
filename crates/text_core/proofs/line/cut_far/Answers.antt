use Rattle.std.proofs.Common.{◌≢◌}
use Rattle.std.proofs.lemmas.List.{take_rest}
use Rattle.text_core.proofs.FarCuts.{far_first, far_whole}
use Rattle.text_core.proofs.line.cut_far.Goals as goal

pub returns-clause-whole : goal.returns-clause-whole
returns-clause-whole c = far_whole c.cut.result.1 c.args.text.now c.cut.result.0.now c.plain_len-plain.result c.args.separator
    (rw (take_rest c.args.text.now c.plain_len-plain.result) at c.cut.ensures.whole)

pub returns-clause-first : goal.returns-clause-first
returns-clause-first c =
    far_first (λ b. b ≢ c.args.separator) c.cut.result.1 c.args.text.now c.cut.result.0.now c.plain_len-plain.result c.args.separator
    (rw (take_rest c.args.text.now c.plain_len-plain.result) at c.cut.ensures.whole) c.plain_len-plain.ensures.plain c.cut.ensures.first
