use Rattle.std.proofs.Common.{List, ℕ, take}
use Rattle.std.specs.Io.KnownBytes.{Appends}
use Rattle.float_core.specs.Decoded.{IsDecoded}
use Rattle.float_core.proofs.decoding.Decoder.write_decoded.Given as goal

-- the bytes before k were taken
abbrev pub invariant-loop-k : goal.invariant-loop-k
invariant-loop-k g l = (own : List ℕ) × Appends (g.W.Write.contents l.fn.writer) (g.W.Write.contents l.writer) own × IsDecoded l.fn.self (take l.k l.fn.bytes) own l.self
