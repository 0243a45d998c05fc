use Rattle.std.proofs.lemmas.Grind.{common_steps}
use Rattle.pen_core.specs.Pen.{IsKept}
use Rattle.std.proofs.Common.{ℕ, List, subst, sym, ap, ◌∙◌, arith}
use Rattle.pen_core.specs.Opening.{IsOpened, OnlySyncs}
use Rattle.pen_core.proofs.Pieces.{bytes_stay}
use Rattle.pen_core.proofs.pen.Pen.open.Goals as goal

pub returns-in-Ok-clause-opened : goal.returns-in-Ok-clause-opened
returns-in-Ok-clause-opened g c = λ model.
    let kept = subst g.D.Disk.keeps c.go_on-pen.ensures.disk model in
    subst (λ (bs : List ℕ). IsOpened g.R.Record.form bs c.go_on-pen.result c.in-Ok.scanned.records.items)
    (bytes_stay (g.D.Disk.states c.args.disk) (g.D.Disk.states c.scan_disk.new.disk) (c.scan_disk.ensures.only_syncs kept))
    (c.go_on-pen.ensures.opened kept)

pub returns-in-Ok-clause-kept : goal.returns-in-Ok-clause-kept
returns-in-Ok-clause-kept g c = λ model.
    let e = c.go_on-pen.ensures in
    subst (λ disk. IsKept (g.D.Disk.states disk) c.go_on-pen.result) (sym e.disk) (e.kept (subst g.D.Disk.keeps e.disk model))

pub returns-in-Ok-clause-only_syncs : goal.returns-in-Ok-clause-only_syncs
returns-in-Ok-clause-only_syncs g c = λ model.
    let same = c.go_on-pen.ensures.disk in
    subst (λ disk. OnlySyncs (g.D.Disk.states c.args.disk) (g.D.Disk.states disk)) (sym same)
    (c.scan_disk.ensures.only_syncs (subst g.D.Disk.keeps same model))

pub returns-in-Ok-clause-faults : goal.returns-in-Ok-clause-faults
returns-in-Ok-clause-faults g c = ap g.D.Disk.faults c.go_on-pen.ensures.disk ∙ c.in-Ok.ensures.faults

pub returns-in-Ok-clause-model : goal.returns-in-Ok-clause-model
returns-in-Ok-clause-model g c = λ model. c.scan_disk.ensures.model (subst g.D.Disk.keeps c.go_on-pen.ensures.disk model)

pub returns-in-Ok-clause-time : goal.returns-in-Ok-clause-time
returns-in-Ok-clause-time g c = grind (arith, common_steps)

pub returns-in-Ok-clause-reads : goal.returns-in-Ok-clause-reads
returns-in-Ok-clause-reads g c = grind (arith, common_steps)
