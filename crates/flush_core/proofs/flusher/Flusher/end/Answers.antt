use Rattle.std.proofs.Common.{◌∙◌, length, take, ap, sym}
use Rattle.std.proofs.Math.Seq.{take-length}
use Rattle.flush_core.specs.Flusher.{FlusherOf}
use Rattle.flush_core.proofs.Stands.{Stands-learns}
use Rattle.flush_core.proofs.flusher.Flusher.end.Goals as goal

pub invariant_of-self : goal.invariant_of-self
invariant_of-self g c =
    let of = c.end_by.ensures.of ∙ sym (ap (λ (f : FlusherOf g.row.R.Denot g.row.D.Denot). f.pass.of) c.self.view_is ∙ c.requires.of.directory) in
    let same = c.end_by.ensures.same in
    Stands-learns g.D.Disk.keeps g.D.Disk.states c.self.invariant c.end_by.new.pass (ap (take (length c.self.inside.pass.entries)) same ∙ take-length c.self.inside.pass.entries) of
