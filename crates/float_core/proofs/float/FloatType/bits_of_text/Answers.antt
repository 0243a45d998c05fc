use Rattle.float_core.proofs.Bits.{IfNone_weaker, neither}
use Rattle.float_core.proofs.float.FloatType.bits_of_text.Goals as goal

pub returns-in-None-clause-refused : goal.returns-in-None-clause-refused
returns-in-None-clause-refused c =
    IfNone_weaker c.bits_of_nan.result _ _ (λ unnamed bits. neither c.args.self c.args.text.now bits (c.in-None.ensures.refused bits) (unnamed bits)) c.bits_of_nan.ensures.refused
