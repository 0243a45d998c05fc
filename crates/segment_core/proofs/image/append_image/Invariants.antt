use Rattle.std.proofs.Common.{◌≡◌, ◌++◌, take, map}
use Rattle.record_core.specs.Cells.{AreReadAgain}
use Rattle.segment_core.specs.declared.format.Format.TheVariants.{One}
use Rattle.segment_core.specs.Shape.{shape_of}
use Rattle.segment_core.specs.Frame.{text}
use Rattle.segment_core.specs.Written.{groups_of, all_records, group_frame}
use Rattle.segment_core.proofs.image.append_image.Given as goal

abbrev pub invariant-loop-group : goal.invariant-loop-group
invariant-loop-group g l = record {
  so_far : l.file.items ≡ l.fn.file.items ++ text (shape_of One g.R.Record.form) (map (group_frame g.R.Record.form) (groups_of (take l.group-index l.groups)));
  read_again : AreReadAgain g.R.Record.form (all_records (groups_of (take l.group-index l.groups)));
}
