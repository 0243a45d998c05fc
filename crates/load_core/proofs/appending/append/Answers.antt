use Rattle.std.proofs.Common.{sym, subst}
use Rattle.std.specs.Prelude.{IfSome}
use Rattle.std.specs.NonZero.{non_zero_u32_get}
use Rattle.lines_core.proofs.WholeBlocks.{nothing_held}
use Rattle.load_core.specs.Appending.{IsAppendEnd, IsLineBehind}
use Rattle.load_core.proofs.Standing.{told_end}
use Rattle.load_core.proofs.appending.append.Goals as goal

pub returns-clause-stands : goal.returns-clause-stands
returns-clause-stands g c =
    let known = g.I.Read.remaining c.args.reader.now in
    let block = non_zero_u32_get c.args.block in
    let it = c.append_all-done in
    told_end g.R.Record.form g.D.Disk.keeps g.D.Disk.states g.D.Disk.faults g.R.TextRecord.spelling block known c.args.disk c.into_disk.result it.result.0 it.result.1
    c.tell_appended-ended.result c.tell_appended-ended.ensures.ends
    (subst (λ d. IsAppendEnd g.R.Record.form g.D.Disk.keeps g.D.Disk.states g.D.Disk.faults g.R.TextRecord.spelling block known c.args.disk d it.result.0 it.result.1)
    (sym c.into_disk.ensures.disk)
    (subst (λ i. IsAppendEnd g.R.Record.form g.D.Disk.keeps g.D.Disk.states g.D.Disk.faults g.R.TextRecord.spelling block i c.args.disk it.new.pen.disk it.result.0 it.result.1)
    (nothing_held known _ c.new-buffer.ensures.items) (it.ensures.ends c.args.disk c.in-Ok.ensures.over)))

pub returns-clause-shown : goal.returns-clause-shown
returns-clause-shown g c =
    let known = g.I.Read.remaining c.args.reader.now in
    subst (λ i. IfSome c.append_all-done.new.shown (IsLineBehind g.R.TextRecord.spelling (non_zero_u32_get c.args.block) i))
    (nothing_held known _ c.new-buffer.ensures.items) c.append_all-done.ensures.shown
