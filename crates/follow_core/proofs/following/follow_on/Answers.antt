use Rattle.std.proofs.Common.{subst, arith}
use Rattle.std.specs.Prelude.{drop}
use Rattle.std.specs.Io.KnownBytes.{Appends}
use Rattle.text_core.specs.Text.{record_lines}
use Rattle.text_core.proofs.Written.{keeps_same}
use Rattle.follow_core.proofs.following.follow_on.Goals as goal

pub returns-in-Ok-clause-followed : goal.returns-in-Ok-clause-followed
returns-in-Ok-clause-followed g c = λ kept shape frames known file lies more.
    record {
      records = c.in-Ok-Grown.records;
      written = subst (λ rs. Appends (g.W.Write.contents c.args.writer.now) (g.W.Write.contents c.write_behind.new.writer)
          (record_lines g.R.TextRecord.spelling.text_of (drop c.args.reached.skip rs)))
          c.deref.ensures.value c.in-Ok.ensures;
      since = rw c.in-Ok-Grown.field-0-is at (c.in-Ok-Grown.ensures.since kept shape frames known file lies more);
      skip_is = omega (arith, c.saturating_sub.ensures, c.len.ensures, c.in-Ok-Grown.records.ok.0);
    }

pub returns-clause-followed : goal.returns-clause-followed
returns-clause-followed g c = λ kept shape frames known file lies more. (keeps_same (g.W.Write.contents c.args.writer.now), c.in-Err.ensures.since kept shape frames known file lies more)
