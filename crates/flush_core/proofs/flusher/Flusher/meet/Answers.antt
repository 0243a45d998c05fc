use Rattle.std.proofs.Common.{◌∙◌, refl, ap, sym}
use Rattle.flush_core.specs.Flusher.{FlusherOf, flusher_of}
use Rattle.flush_core.proofs.Goes.{FlusherLearns-pass}
use Rattle.flush_core.proofs.Stands.{Stands-learns}
use Rattle.flush_core.proofs.flusher.Flusher.meet.Goals as goal

pub invariant_of-self : goal.invariant_of-self
invariant_of-self g c =
    let of = c.meet_by.ensures.of ∙ sym (ap (λ (f : FlusherOf g.row.R.Denot g.row.D.Denot). f.pass.of) c.self.view_is ∙ c.requires.of.0.directory) in
    Stands-learns g.D.Disk.keeps g.D.Disk.states c.self.invariant c.meet_by.new.pass c.meet_by.ensures.meets.begins_mine of

pub returns : goal.returns
returns g c =
    let s = c.self.inside in
    let of = c.meet_by.ensures.of ∙ sym (ap (λ (f : FlusherOf g.row.R.Denot g.row.D.Denot). f.pass.of) c.self.view_is ∙ c.requires.of.0.directory) in
    rw (← c.self.view_is) (record {
      learns = FlusherLearns-pass (flusher_of g.R.Record.form s.pen s.pass s.mark s.before s.taken s.settled) c.meet_by.new.pass c.meet_by.ensures.meets.begins_mine of;
      same = c.meet_by.ensures.same;
      agree = c.meet_by.ensures.agree;
      meets = c.meet_by.ensures.meets;
    })
