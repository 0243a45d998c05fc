use Rattle.std.proofs.Common.{take}
use Rattle.segment_core.specs.Written.{joined}
use Rattle.vault_core.specs.Parts.{AreParts, spans_of}
use Rattle.vault_core.specs.Touched.{IsTouched}
use Rattle.vault_core.proofs.blocks.Blocks.touch_alone.Given as goal

-- so many parts are touched
abbrev pub invariant-loop-k : goal.invariant-loop-k
invariant-loop-k g l = record {
  parts : AreParts l.self l.parts;
  touched : IsTouched (g.T.Touch.one l.touch) (spans_of (take l.k l.parts)) (joined l.fn.self) (joined l.self);
}
