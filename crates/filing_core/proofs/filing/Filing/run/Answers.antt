use Rattle.filing_core.proofs.filing.Filing.run.Goals as goal

pub returns-in-Copy-clause-run : goal.returns-in-Copy-clause-run
returns-in-Copy-clause-run g c = rw c.in-Copy.is c.copy.ensures
