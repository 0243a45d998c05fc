-- The byte of a frame's kind.
use Rattle.std.specs.Prelude.{ℕ}
use Rattle.segment_core.specs.declared.format.FrameKind.{FrameKind}
use Rattle.segment_core.specs.declared.format.FrameKind.TheVariants as kinds

abbrev pub kind_byte : FrameKind → ℕ
kind_byte kinds.Group = 1
kind_byte kinds.Change = 2
kind_byte kinds.Shrink = 3
kind_byte kinds.Fold = 4
