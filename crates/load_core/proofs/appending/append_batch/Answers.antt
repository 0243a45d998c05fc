use Rattle.std.proofs.Common.{◌≡◌, length, sym, ap, ◌∙◌}
use Rattle.std.specs.Prelude.{OnOk, IfErr}
use Rattle.std.specs.NonZero.{non_zero_u32_get}
use Rattle.load_core.specs.Groups.{IsRowSettled, IsRowStop}
use Rattle.load_core.proofs.Standing.{CommitsBatch, batch_over, batch_stopped, kept_on}
use Rattle.load_core.proofs.appending.append_batch.Goals as goal

pub returns-in-Ok-clause-appended : goal.returns-in-Ok-clause-appended
returns-in-Ok-clause-appended g c start input coming left read so_far =
    let e = c.settle_row-settled.ensures in
    let pen = c.settle_row-settled.new.pen in
    let growths = c.args.batch.growths.0 in
    let row : OnOk c.settle_row-settled.result.1 (IsRowSettled g.R.Record.form g.D.Disk.keeps g.D.Disk.states growths c.args.pen.now pen) = e.settled in
    let all : OnOk c.settle_row-settled.result.1 (c.settle_row-settled.result.0 ≡ length growths) = e.all in
    let it : CommitsBatch g.R.Record.form g.D.Disk.keeps g.D.Disk.states g.R.TextRecord.spelling (non_zero_u32_get c.args.block) input start c.args.pen.now pen
    c.args.appended.now c.more_appended.result c.settle_row-settled.result.0 = record {
      coming = coming;
      left = left;
      growths = growths;
      lines = c.args.batch.lines;
      rest = c.args.batch.rest;
      read = read;
      so_far = so_far;
      kept = kept_on g.D.Disk.keeps g.D.Disk.states pen c.disk-disk.result.now c.disk-disk.ensures.disk c.disk-disk.ensures.kept;
      width_is = c.requires.ready.width_is ∙ sym (ap (λ s. s.width) e.shape);
      size_is = c.more_appended.ensures.size ∙ c.len.ensures.is;
      growths_are = c.more_appended.ensures.growths;
      lines_are = c.more_appended.ensures.lines;
    } in
    batch_over g.D.Disk.faults it c.go_on-over.new.appended c.go_on-over.result (rw c.in-Ok.is at all) (rw c.in-Ok.is at row) c.go_on-over.ensures

pub returns-clause-appended : goal.returns-clause-appended
returns-clause-appended g c start input coming left read so_far disk begin =
    let e = c.settle_row-settled.ensures in
    let pen = c.settle_row-settled.new.pen in
    let growths = c.args.batch.growths.0 in
    let stop : IfErr c.settle_row-settled.result.1 (IsRowStop g.R.Record.form g.D.Disk.keeps g.D.Disk.states growths c.settle_row-settled.result.0 c.args.pen.now pen) = e.stopped in
    let it : CommitsBatch g.R.Record.form g.D.Disk.keeps g.D.Disk.states g.R.TextRecord.spelling (non_zero_u32_get c.args.block) input start c.args.pen.now pen
    c.args.appended.now c.more_appended.result c.settle_row-settled.result.0 = record {
      coming = coming;
      left = left;
      growths = growths;
      lines = c.args.batch.lines;
      rest = c.args.batch.rest;
      read = read;
      so_far = so_far;
      kept = kept_on g.D.Disk.keeps g.D.Disk.states pen c.disk-disk.result.now c.disk-disk.ensures.disk c.disk-disk.ensures.kept;
      width_is = c.requires.ready.width_is ∙ sym (ap (λ s. s.width) e.shape);
      size_is = c.more_appended.ensures.size ∙ c.len.ensures.is;
      growths_are = c.more_appended.ensures.growths;
      lines_are = c.more_appended.ensures.lines;
    } in
    batch_stopped g.D.Disk.faults it disk begin c.in-Err.fault c.fault_behind.result (rw c.in-Err.is at stop) c.fault_behind.ensures
