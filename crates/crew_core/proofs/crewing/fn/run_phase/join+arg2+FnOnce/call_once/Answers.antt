use Rattle.crew_core.proofs.crewing.fn.run_phase.join+arg2+FnOnce.call_once.Goals as goal

-- what the closure asks of its types, and what its clause asks
pub join+arg2-requires : goal.join+arg2-requires
join+arg2-requires g c = let asked = c.requires.1.1.1 in let types = asked.1 in (types.0, (types.1, (types.2, (types.3, asked.0))))
