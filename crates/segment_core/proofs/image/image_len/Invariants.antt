use Rattle.std.proofs.Common.{take}
use Rattle.segment_core.specs.Written.{groups_of, AllFit}
use Rattle.segment_core.proofs.image.image_len.Given as goal

abbrev pub invariant-loop-k : goal.invariant-loop-k
invariant-loop-k g l = AllFit g.R.Record.form.width (groups_of (take l.k l.groups))
