use Rattle.std.proofs.Common.{take, ap, subst, ◌∙◌, arith}
use Rattle.pen_core.specs.PenOf.{PenOf}
use Rattle.book_core.specs.Marks.{MarkEnd}
use Rattle.flush_core.specs.Flusher.{untaken}
use Rattle.flush_core.specs.Serving.{fold_with}
use Rattle.flush_core.proofs.Goes.{FlusherGoesOn-join, FlusherGoesOn-learns, FlusherGoesOn-same, IsFlusherOf-later}
use Rattle.flush_core.proofs.Taken.{taken_pen}
use Rattle.flush_core.proofs.flusher.Flusher.begin_next.Goals as goal

pub take_group-requires-clause-of : goal.take_group-requires-clause-of
take_group-requires-clause-of g c κs within =
    let learns = c.look.ensures.learns in
    let keeps' = g.D.Disk.keeps c.look.new.self.pen.disk in
    let back = subst g.D.Disk.keeps (ap (λ (p : PenOf _). p.disk) learns.pen_same) in
    IsFlusherOf-later (g.D.Disk.keeps c.args.self.now.pen.disk) keeps' c.args.live.now c.args.self.now c.look.new.self back
    (FlusherGoesOn-learns keeps' c.args.self.now c.look.new.self learns) c.requires.of

pub returns : goal.returns
returns g c =
    let learns = c.look.ensures.learns in
    let mid = c.look.new.self in
    let new = c.take_group.new.self in
    let n = c.in_ok-take_group.field-0 in
    let e = c.in_ok-take_group.ensures in
    let keeps' = g.D.Disk.keeps new.pen.disk in
    let taken = e.taken in
    let settled = e.same.2 in
    let pen = taken_pen g.R.Record.form mid new n (take n (untaken mid)) (ap (λ (p : PenOf _). p.job) learns.pen_same ∙ c.requires.idle) e.begun e.none in
    record {
      goes_on = FlusherGoesOn-join keeps' keeps' c.args.self.now mid new (λ model. model) (FlusherGoesOn-learns keeps' c.args.self.now mid learns)
          (FlusherGoesOn-same keeps' mid new e.same.0 (ap (λ (m : MarkEnd). m.of) e.same.1) e.same.3 (omega arith) (omega arith) (λ _. e.opening));
      disk = pen.0 ∙ ap (λ (p : PenOf _). p.disk) learns.pen_same;
      whole = pen.1 ∙ ap (λ (p : PenOf _). p.broken) learns.pen_same;
      fold = pen.2 ∙ ap (λ (p : PenOf _). fold_with p.job p.fold) learns.pen_same;
      refused = tt;
    }
