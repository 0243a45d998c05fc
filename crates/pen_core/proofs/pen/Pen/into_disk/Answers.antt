use Rattle.pen_core.proofs.Whole.{sound_kept}
use Rattle.pen_core.proofs.pen.Pen.into_disk.Goals as goal

pub returns-clause-kept : goal.returns-clause-kept
returns-clause-kept g c = rw (← c.self.view_is) (sound_kept c.self.invariant)
