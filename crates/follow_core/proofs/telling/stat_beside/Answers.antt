use Rattle.std.proofs.Common.{ap}
use Rattle.stat_core.specs.Text.{summary_text}
use Rattle.beside_core.specs.Fault.{IsNoDamage}
use Rattle.follow_core.specs.Beside.{IsSummaryTold}
use Rattle.follow_core.proofs.Whole.{answered_once}
use Rattle.follow_core.proofs.telling.stat_beside.Goals as goal

pub returns-in-Ok-clause-read : goal.returns-in-Ok-clause-read
returns-in-Ok-clause-read g c =
    let form = c.args.form in
    answered_once (IsSummaryTold form) (λ shape frames from to. IsNoDamage) (g.S.Shared.keeps c.summarize_beside.new.file) (g.S.Shared.held c.args.file.now) (g.S.Shared.now c.args.file.now)
    (g.S.Shared.now c.summarize_beside.new.file) (g.S.Shared.synced c.summarize_beside.new.file) (g.W.Write.contents c.args.writer.now) (g.W.Write.contents c.write_summary.new.writer)
    (summary_text form c.in-Ok.summary) c.write_summary.result c.told.result c.told.ensures c.write_summary.ensures
    (λ kept shape frames file.
    let were = c.in-Ok.ensures.read kept shape frames file in
    record { moment = were.moment; begun = were.begun; until = were.until; settled = were.settled; so = ap (summary_text form) were.so })
