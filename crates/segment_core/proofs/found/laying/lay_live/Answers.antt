use Rattle.segment_core.proofs.found.laying.lay_live.Goals as goal

pub returns-in-None : goal.returns-in-None
returns-in-None g c = (c.in-Ok.ensures, c.in-None.ensures)
