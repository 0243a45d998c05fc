use Rattle.segment_core.proofs.Reader.{counted_of_group}
use Rattle.segment_core.proofs.frame.payload.counts.Goals as goal

pub returns-in-Group : goal.returns-in-Group
returns-in-Group c = counted_of_group c.args.shape c.args.payload.now c.group_counts.result c.args.kind c.in-Group.is c.group_counts.ensures
