use Rattle.std.proofs.Common.{◌≢◌, ◌+◌, arith}
use Rattle.text_core.proofs.FarCuts.{plain_more}
use Rattle.text_core.proofs.line.plain_len.Goals as goal

pub loop-len-preserved : goal.loop-len-preserved
loop-len-preserved c =
    let room = c.loop-len-test.true in (
      omega (arith, room),
      plain_more (λ b. b ≢ c.args.separator) c.args.text.now c.loop-len.len _ (c.loop-len.len + 32) c.loop-len.invariant.1 (c.lacks.ensures c.if-lacks.true) (omega arith),
    )
