use Rattle.std.specs.Io.KnownBytes.{prepend_known}
use Rattle.std.specs.NonZero.{non_zero_u32_get}
use Rattle.lines_core.specs.InputBlocks.{AreFirstBlocks}
use Rattle.load_core.specs.Appending.{HasAppendedSoFar}
use Rattle.load_core.specs.Groups.{IsReadyPen}
use Rattle.load_core.proofs.appending.append_all.Given as goal

abbrev pub invariant-loop : goal.invariant-loop
invariant-loop g l =
    let block = non_zero_u32_get l.block in
    let input = prepend_known l.fn.buffer.items (g.I.Read.remaining l.fn.reader) in
    let coming = prepend_known l.buffer.items (g.I.Read.remaining l.reader) in record {
      ready : IsReadyPen g.R.Record.form.width l.pen;
      so_far : HasAppendedSoFar g.R.Record.form g.D.Disk.keeps g.D.Disk.states (AreFirstBlocks g.R.TextRecord.spelling block input coming) block l.fn.pen l.pen l.told;
      model : g.D.Disk.keeps l.pen.disk → g.D.Disk.keeps l.fn.pen.disk;
    }
