use Rattle.std.proofs.Common.{rules, ℕ, List, ◌++◌, subst}
use Rattle.text_core.proofs.Known.{Appends_then}
use Rattle.float_core.specs.Decoded.{IsDecoded}
use Rattle.float_core.proofs.Decodes.{decoded_then, take_more}
use Rattle.float_core.proofs.decoding.Decoder.write_decoded.Goals as goal

pub loop-k-preserved : goal.loop-k-preserved
loop-k-preserved g c =
    let before = c.loop-k.invariant in
    let byte = c.in_ok-write_byte.ensures in (
      before.0 ++ byte.0,
      Appends_then _ _ _ _ _ before.1 byte.1,
      subst (λ (bs : List ℕ). IsDecoded c.args.self.now bs (before.0 ++ byte.0) c.write_byte.new.self) (take_more c.args.bytes.now c.loop-k.k (search rules)) (decoded_then _ _ _ _ _ _ _ before.2 byte.2),
    )
