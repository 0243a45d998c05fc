use Rattle.filing_core.proofs.filing.Filing.make_new.Goals as goal

pub returns-in-Ok : goal.returns-in-Ok
returns-in-Ok g c = c.in-Ok.ensures c.in_ok-disk.ensures.opened
