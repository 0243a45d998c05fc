use Rattle.std.proofs.Common.{ap}
use Rattle.flush_core.specs.Flusher.{flusher_of}
use Rattle.flush_core.proofs.Stands.{Stands-pass}
use Rattle.flush_core.proofs.flusher.Flusher.tell.Goals as goal

pub invariant_of-self : goal.invariant_of-self
invariant_of-self g c = Stands-pass g.D.Disk.keeps g.D.Disk.states c.self.invariant c.tell_by.new.pass c.tell_by.ensures.same

pub returns : goal.returns
returns g c =
    let s = c.self.inside in
    let e = c.tell_by.ensures in
    rw (← c.self.view_is) (record {
      same = ap (λ p. flusher_of g.R.Record.form s.pen p s.mark s.before s.taken s.settled) e.same;
      of = e.of;
      learns = e.learns;
      agree = e.agree;
      meets = e.meets;
    })
