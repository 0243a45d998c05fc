use Rattle.std.proofs.Common.{◌≡◌, Vec, vec_len, sym, subst}
use Rattle.serve_core.specs.Clients.{AreBegun}
use Rattle.serve_core.proofs.serving.run_all.Goals as goal

pub serve_clients-requires-clause-begun : goal.serve_clients-requires-clause-begun
serve_clients-requires-clause-begun g c κs within =
    subst (λ (v : Vec _ _). AreBegun c.args.live.now v.items c.start_all-started.new.away.items × (vec_len c.start_all-started.new.away ≡ vec_len v)) (sym c.of-given.ensures)
    (c.start_all-started.ensures.begun c.if-started.true)
