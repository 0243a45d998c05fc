use Rattle.std.proofs.Common.{ap, subst, ◌∙◌}
use Rattle.book_core.specs.Marks.{MarkEnd}
use Rattle.pen_core.specs.PenOf.{PenOf}
use Rattle.call_tests.proofs.tests.broken_crew.take_seat_in.Goals as goal

pub returns : goal.returns
returns g c =
    let is = c.requires.0 in
    let learns = c.take_in.ensures.learns in
    record {
      directory = learns.of_same ∙ is.directory;
      mark = ap (λ (m : MarkEnd). m.of) learns.mark_same ∙ is.mark;
      before = learns.before_same ∙ is.before;
      opening = λ model. learns.opening_same ∙ is.opening (subst (λ (p : PenOf _). g.D.Disk.keeps p.disk) learns.pen_same model);
    }
