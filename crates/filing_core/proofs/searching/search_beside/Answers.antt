use Rattle.std.proofs.Common.{sym, subst}
use Rattle.follow_core.specs.Beside.{IsReadBeside}
use Rattle.filing_core.specs.Beside.{SoughtBeside}
use Rattle.filing_core.specs.declared.searching.Sought.{Sought}
use Rattle.filing_core.proofs.searching.search_beside.Goals as goal

pub returns-in-Count-clause-read : goal.returns-in-Count-clause-read
returns-in-Count-clause-read g c = subst (λ (s : Sought). IsReadBeside g.R.Record.form (SoughtBeside g.R.Record.form s c.args.wanted) (g.S.Shared.keeps c.count_beside.new.file) (g.S.Shared.held c.args.file.now)
    (g.S.Shared.now c.args.file.now) (g.S.Shared.now c.count_beside.new.file) (g.S.Shared.synced c.count_beside.new.file) (g.W.Write.contents c.args.writer.now) (g.W.Write.contents c.count_beside.new.writer) c.count_beside.result)
    (sym c.in-Count.is) c.count_beside.ensures.read

pub returns-in-First-clause-read : goal.returns-in-First-clause-read
returns-in-First-clause-read g c = subst (λ (s : Sought). IsReadBeside g.R.Record.form (SoughtBeside g.R.Record.form s c.args.wanted) (g.S.Shared.keeps c.find_beside.new.file) (g.S.Shared.held c.args.file.now)
    (g.S.Shared.now c.args.file.now) (g.S.Shared.now c.find_beside.new.file) (g.S.Shared.synced c.find_beside.new.file) (g.W.Write.contents c.args.writer.now) (g.W.Write.contents c.find_beside.new.writer) c.find_beside.result)
    (sym c.in-First.is) c.find_beside.ensures.read
