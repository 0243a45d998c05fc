use Rattle.std.proofs.Common.{◌≡◌, ◌∷◌, subst, rules}
use Rattle.disk_core.specs.Moments.{clock}
use Rattle.pen_core.specs.Pen.{IsKept}
use Rattle.flush_core.proofs.Told.{HasTold-raised}
use Rattle.flush_core.proofs.flusher.Flusher.raise.Goals as goal

pub invariant_of-self : goal.invariant_of-self
invariant_of-self g c =
    let s = c.self.inside in
    let kept : g.D.Disk.keeps s.pen.disk → IsKept (g.D.Disk.states s.pen.disk) s.pen =
    subst (λ (d : g.row.D.Denot). g.D.Disk.keeps d → IsKept (g.D.Disk.states d) s.pen) c.disk.ensures.disk c.disk.ensures.kept in (
      search rules,
      HasTold-raised c.self.invariant.1 c.self.invariant.0 c.raise_at.new.writer (subst (λ (d : g.row.D.Denot). c.raise_at.new.writer.raises ≡ record { count = s.settled; at = clock (g.D.Disk.states d) } ∷ s.mark.raises) c.disk.ensures.disk c.raise_at.ensures.raises)
          (λ model. (kept model).images_open),
    )
