use Rattle.std.proofs.Common.{◌∙◌, ap, sym}
use Rattle.flush_core.specs.Flusher.{FlusherOf}
use Rattle.flush_core.proofs.Stands.{Stands-learns}
use Rattle.flush_core.proofs.flusher.Flusher.look.Goals as goal

pub invariant_of-self : goal.invariant_of-self
invariant_of-self g c =
    let of = c.look_by.ensures.of ∙ sym (ap (λ (f : FlusherOf g.row.R.Denot g.row.D.Denot). f.pass.of) c.self.view_is ∙ c.requires.of.directory) in
    Stands-learns g.D.Disk.keeps g.D.Disk.states c.self.invariant c.look_by.new.pass c.look_by.ensures.longer of
