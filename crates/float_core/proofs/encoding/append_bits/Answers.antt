use Rattle.std.proofs.Common.{rules, inr}
use Rattle.std.proofs.lemmas.Result.{on_ok_weaker}
use Rattle.float_core.proofs.encoding.append_bits.Goals as goal

pub returns-in-None : goal.returns-in-None
returns-in-None c = on_ok_weaker c.extend_from_slice-in-None.result (λ is. inr ((λ bits word. c.in-None.ensures.refused bits word.1), is)) (search rules)
