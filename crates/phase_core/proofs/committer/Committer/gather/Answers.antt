use Rattle.std.proofs.Common.{◌++◌, ◌∙◌, refl, rules, ap}
use Rattle.directory_core.specs.Chain.{grown_records}
use Rattle.book_core.specs.Lists.{opening_of}
use Rattle.phase_core.proofs.committer.Committer.gather.Goals as goal

pub returns-in-Ok-try_unwrap-clause-gathers : goal.returns-in-Ok-try_unwrap-clause-gathers
returns-in-Ok-try_unwrap-clause-gathers g c =
    let e = c.gather_known-vault.ensures in
    let flusher = c.end_phase.new.flusher in
    let learns = c.end_phase.ensures.learns in
    record {
      flusher = flusher;
      of = search rules;
      learns = learns;
      ended = c.in-Ok.ensures.ended;
      list = e.list ∙ ap (λ live. opening_of live ++ grown_records flusher.pass.entries) c.in-Ok-try_unwrap.ensures.ok;
      pen = e.pen ∙ learns.pen_same;
      made = refl;
      told = e.told;
    }
