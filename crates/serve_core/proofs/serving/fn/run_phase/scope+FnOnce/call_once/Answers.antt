use Rattle.serve_core.proofs.serving.fn.run_phase.scope+FnOnce.call_once.Goals as goal

-- what the closure asks of its types, and what its clause asks
pub scope-requires : goal.scope-requires
scope-requires g c = let asked = c.requires.1.1.1.1.1 in let types = asked.1 in (types.0, (types.1, (types.2, (types.3, (types.4, asked.0)))))
