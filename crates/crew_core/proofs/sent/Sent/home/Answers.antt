use Rattle.std.proofs.Common.{refl}
use Rattle.crew_core.proofs.Comes.{HasCome_same}
use Rattle.crew_core.proofs.sent.Sent.home.Goals as goal

pub invariant_of-result : goal.invariant_of-result
invariant_of-result g c = (
  tt,
  HasCome_same g.S.Source.count_of g.S.Source.block_of g.G.Gate.may_stop g.G.Gate.has_let g.G.Gate.was_told c.of.ensures c.of-2.ensures c.of-3.ensures refl c.requires,
  λ _. refl,
)
