use Rattle.std.proofs.Common.{subst, sym}
use Rattle.flush_core.specs.Flusher.{FlusherOf, ToldIsLeft, flusher_of}
use Rattle.flush_core.proofs.Kept.{keeps_job}
use Rattle.flush_core.proofs.flusher.Flusher.into_parts.Goals as goal

pub returns-clause-images : goal.returns-clause-images
returns-clause-images g c = rw (← c.self.view_is) (λ model image is.
    let kept = c.into_disk.ensures.kept model in
    keeps_job c.self.invariant.0 (subst g.D.Disk.keeps c.into_disk.ensures.disk model) image (kept.images_open image is))

pub returns-clause-told : goal.returns-clause-told
returns-clause-told g c = rw (← c.self.view_is) (
    let s = c.self.inside in
    let form = g.R.Record.form in
    let f : FlusherOf g.row.R.Denot g.row.D.Denot = flusher_of form s.pen s.pass s.mark s.before s.taken s.settled in
    subst (λ (d : g.row.D.Denot). g.D.Disk.keeps d → ToldIsLeft form (g.D.Disk.states d) f s.mark.raises) (sym c.into_disk.ensures.disk) c.self.invariant.1.left)
