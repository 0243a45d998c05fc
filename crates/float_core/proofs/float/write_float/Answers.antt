use Rattle.std.proofs.Common.{subst}
use Rattle.std.specs.Io.KnownBytes.{Appends}
use Rattle.std.proofs.lemmas.Result.{on_ok_weaker}
use Rattle.float_core.proofs.Bits.{no_digit}
use Rattle.float_core.proofs.float.write_float.Goals as goal

pub returns : goal.returns
returns g c = on_ok_weaker c.write_all.result (λ appends. (c.format.result.now, subst (Appends (g.W.Write.contents c.args.writer.now) (g.W.Write.contents c.write_all.new.self)) c.as_bytes.ensures.value appends, c.format.ensures.parses, no_digit _ _ c.format.ensures.word)) c.write_all.ensures.bytes
