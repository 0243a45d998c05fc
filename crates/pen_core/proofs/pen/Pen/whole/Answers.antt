use Rattle.pen_core.proofs.Whole.{sound_kept}
use Rattle.pen_core.proofs.pen.Pen.whole.Goals as goal

pub returns-then-self-clause-kept : goal.returns-then-self-clause-kept
returns-then-self-clause-kept g c = rw (← c.self.view_is) (sound_kept c.self.invariant)

pub returns-clause-kept : goal.returns-clause-kept
returns-clause-kept g c = rw (← c.self.view_is) (sound_kept c.self.invariant)
