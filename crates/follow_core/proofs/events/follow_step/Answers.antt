use Rattle.std.proofs.Common.{refl}
use Rattle.text_core.proofs.Written.{keeps_same}
use Rattle.follow_core.proofs.events.follow_step.Goals as goal

pub returns-in-Ok-write_step-clause-stepped : goal.returns-in-Ok-write_step-clause-stepped
returns-in-Ok-write_step-clause-stepped g c = λ kept shape frames known file lies more.
    record {
      news = c.in-Ok.news;
      is = c.in-Ok.ensures.news kept shape frames known file lies more;
      next_is = refl;
      written = c.in-Ok-write_step.ensures;
    }

pub returns-clause-stepped : goal.returns-clause-stepped
returns-clause-stepped g c = λ kept shape frames known file lies more. (keeps_same (g.W.Write.contents c.args.writer.now), c.in-Err.ensures.news kept shape frames known file lies more)
