use Rattle.std.proofs.Common.{arith}
use Rattle.load_core.proofs.Crewed.{dealt_all, dealt_stopped, dealt_given_up}
use Rattle.std.proofs.lemmas.Grind.{common_steps}
use Rattle.load_core.proofs.loading.grow_dealt.Goals as goal

pub returns-in-Ok-clause-grown : goal.returns-in-Ok-clause-grown
returns-in-Ok-clause-grown g c growths growers so =
    dealt_all g.R.Record.form g.D.Disk.keeps g.D.Disk.states _ _ _ growths growers so c.args.vault
    (g.G.Gate.may_stop c.args.gate.now) c.in-Ok.crewed.vault c.in-Ok.crewed.receipts.items c.in-Ok.crewed.faults.items c.in-Ok.ensures.crewed c.all_made.result c.all_made.ensures.made

pub returns-in-Ok-clause-stopped : goal.returns-in-Ok-clause-stopped
returns-in-Ok-clause-stopped g c growths growers slice so =
    dealt_stopped g.R.Record.form g.D.Disk.keeps g.D.Disk.states _ _ _ growths growers so c.args.vault c.args.before (λ r. r.0) (λ r. r.1)
    (g.G.Gate.may_stop c.args.gate.now) c.in-Ok.crewed.vault c.in-Ok.crewed.receipts.items c.in-Ok.crewed.faults.items c.in-Ok.ensures.crewed c.all_made.result c.all_made.ensures.stopped

pub returns-in-Err-clause-stopped : goal.returns-in-Err-clause-stopped
returns-in-Err-clause-stopped g c growths growers slice so =
    dealt_given_up g.R.Record.form g.D.Disk.keeps g.D.Disk.states _ _ _ growths growers so c.args.vault c.args.before slice c.in-Err.fault c.give_up.result.0 c.give_up.result.1 c.in-Err.ensures.refused c.give_up.ensures

pub all_made-requires-after_bounds : goal.all_made-requires-after_bounds
all_made-requires-after_bounds g c κs within = grind (arith, common_steps)
