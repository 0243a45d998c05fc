use Rattle.std.proofs.Common.{inl, ap, sym, ◌∙◌}
use Rattle.directory_core.specs.Known.{Known}
use Rattle.directory_core.proofs.pass.Pass.knows_all.Goals as goal

pub returns-then-self : goal.returns-then-self
returns-then-self g c = (λ _. inl (ap (λ (p : Known _). p.ended) (sym c.self.view_is) ∙ c.if-self.true), λ _. c.if-self.true)
