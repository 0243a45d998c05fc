use Rattle.std.proofs.Common.{◌≡◌, subst, arith}
use Rattle.std.specs.NonZero.{non_zero_u32_get}
use Rattle.std.proofs.lemmas.Grind.{common_steps}
use Rattle.lines_core.specs.Batches.{IsWholeLen}
use Rattle.lines_core.proofs.Excerpts.{batch_shown}
use Rattle.lines_core.proofs.WholeBlocks.{batch_read}
use Rattle.lines_core.proofs.batches.read_batch.Goals as goal

pub returns-clause-batch : goal.returns-clause-batch
returns-clause-batch g c =
    let block = non_zero_u32_get c.args.block in
    let seen : c.deref.result.now ≡ c.fill-rest.new.buffer.items = grind (arith, common_steps) in
    batch_read g.R.TextRecord.spelling block (g.I.Read.remaining c.args.reader.now) (g.I.Read.remaining c.fill-rest.new.reader)
    c.args.buffer.now.items c.fill-rest.new.buffer.items c.drop_front.new.buffer.items _ c.whole_len-len.result
    c.read_front-blocks.result.blocks.growths.0 c.read_front-blocks.result.blocks.lines
    c.fill-rest.result c.or_refused.result c.read_front-blocks.result.refusal c.fill-rest.ensures
    (subst (λ bs. IsWholeLen block bs c.whole_len-len.result c.fill-rest.result) seen c.whole_len-len.ensures.whole)
    c.read_front-blocks.ensures.front c.or_refused.ensures (grind (arith, common_steps)) c.drop_front.ensures

pub returns-clause-shown : goal.returns-clause-shown
returns-clause-shown g c =
    batch_shown g.R.TextRecord.spelling (non_zero_u32_get c.args.block) (g.I.Read.remaining c.args.reader.now) (g.I.Read.remaining c.fill-rest.new.reader)
    c.args.buffer.now.items c.fill-rest.new.buffer.items _ c.whole_len-len.result c.fill-rest.result c.or_refused.result c.read_front-blocks.result.refusal
    c.read_front-blocks.result.shown c.fill-rest.ensures c.read_front-blocks.ensures.shown c.or_refused.ensures (grind (arith, common_steps))
