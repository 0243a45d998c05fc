use Rattle.std.proofs.lemmas.Result.{on_ok_weaker}
use Rattle.float_core.proofs.Decodes.{no_bits}
use Rattle.float_core.proofs.decoding.write_given.Goals as goal

pub returns-else-has : goal.returns-else-has
returns-else-has g c =
    on_ok_weaker c.write_all-else-has.result (λ appends. (
      c.args.digits.now,
      appends,
      no_bits c.args.float c.args.digits.now c.in-Some.bits c.in-Some.ensures.read.0 c.in-Some.ensures.read.1 (λ within. let same = c.if-has.ensures.1 within in absurd cc),
    ))
    c.write_all-else-has.ensures.bytes
