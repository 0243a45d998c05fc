use Rattle.std.proofs.Common.{◌∙◌, refl, ap, sym, subst}
use Rattle.book_core.specs.Marks.{MarkEnd, HasAllRaises}
use Rattle.flush_core.specs.Flusher.{FlusherOf, flusher_of}
use Rattle.flush_core.proofs.Stands.{Stands-learns, Stands-mark}
use Rattle.flush_core.proofs.Told.{ToldIsLeft-of}
use Rattle.flush_core.proofs.Learned.{knows_all_still}
use Rattle.flush_core.proofs.flusher.Flusher.take_in.Goals as goal

pub returns-clause-all : goal.returns-clause-all
returns-clause-all g c =
    let of = c.take_in.ensures.of ∙ sym (ap (λ (f : FlusherOf g.row.R.Denot g.row.D.Denot). f.pass.of) c.self.view_is ∙ c.requires.of.0.directory) in
    rw (← c.self.view_is)
    (λ all. knows_all_still c.self.inside.pass c.take_in.new.pass c.args.seat.pass.entries c.take_in.ensures.meets of c.take_in.ensures.ended
    (c.take_in.ensures.all all) all)

pub invariant_of-self : goal.invariant_of-self
invariant_of-self g c =
    let of = c.take_in.ensures.of ∙ sym (ap (λ (f : FlusherOf g.row.R.Denot g.row.D.Denot). f.pass.of) c.self.view_is ∙ c.requires.of.0.directory) in
    let learns = Stands-learns g.D.Disk.keeps g.D.Disk.states c.self.invariant c.take_in.new.pass c.take_in.ensures.meets.begins_mine of in
    Stands-mark g.D.Disk.keeps g.D.Disk.states learns c.take_in.new.mark c.take_in.ensures.same

pub returns-clause-left : goal.returns-clause-left
returns-clause-left g c model =
    let s = c.self.inside in
    let new = flusher_of g.R.Record.form s.pen c.take_in.new.pass c.take_in.new.mark s.before s.taken s.settled in
    let of = c.take_in.ensures.of ∙ sym (ap (λ (f : FlusherOf g.row.R.Denot g.row.D.Denot). f.pass.of) c.self.view_is ∙ c.requires.of.0.directory) in
    let learns = Stands-learns g.D.Disk.keeps g.D.Disk.states c.self.invariant c.take_in.new.pass c.take_in.ensures.meets.begins_mine of in
    let stands = Stands-mark g.D.Disk.keeps g.D.Disk.states learns c.take_in.new.mark c.take_in.ensures.same in
    let seen = subst (λ (m : MarkEnd). HasAllRaises m.raises c.args.seat.mark.raises) (sym c.take_in.ensures.same) c.take_in.ensures.seen in
    ToldIsLeft-of (g.D.Disk.states s.pen.disk) c.take_in.new.mark.raises new c.args.seat.mark.raises seen (stands.1.left model)

pub returns-clause-learns : goal.returns-clause-learns
returns-clause-learns g c =
    let of = c.take_in.ensures.of ∙ sym (ap (λ (f : FlusherOf g.row.R.Denot g.row.D.Denot). f.pass.of) c.self.view_is ∙ c.requires.of.0.directory) in
    rw (← c.self.view_is) (record {
      begins = c.take_in.ensures.meets.begins_mine;
      of_same = of;
      pen_same = refl;
      mark_same = c.take_in.ensures.same;
      opening_same = refl;
      before_same = refl;
      taken_same = refl;
      settled_same = refl;
    })

pub returns-clause-meets : goal.returns-clause-meets
returns-clause-meets g c = rw (← c.self.view_is) c.take_in.ensures.meets
