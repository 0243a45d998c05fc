use Rattle.std.proofs.Common.{[], ap, ◌∙◌}
use Rattle.std.specs.Io.KnownBytes.{prepend_known}
use Rattle.std.specs.NonZero.{non_zero_u32_get}
use Rattle.files_core.specs.declared.appended.Appended.{Appended}
use Rattle.lines_core.specs.InputBlocks.{AreFirstBlocks}
use Rattle.lines_core.proofs.FirstBlocks.{none_first}
use Rattle.load_core.proofs.FilledGrowths.{batch_some}
use Rattle.load_core.proofs.LineBehind.{behind_shown}
use Rattle.load_core.proofs.Standing.{growths_stand, kept_on, none_so_far}
use Rattle.load_core.proofs.appending.append_all.Goals as goal

pub loop-init : goal.loop-init
loop-init g c =
    let block = non_zero_u32_get c.args.block in
    let input = prepend_known c.args.buffer.now.items (g.I.Read.remaining c.args.reader.now) in
    record {
      ready = c.requires;
      so_far = none_so_far g.R.Record.form g.D.Disk.keeps g.D.Disk.states (AreFirstBlocks g.R.TextRecord.spelling block input input) block c.args.pen.now c.none_appended-told.result
          (none_first g.R.TextRecord.spelling block input)
          (c.none_appended-told.ensures ∙ ap (λ n. let a : Appended = record { growths = 0; lines = 0; size = n } in a) c.len.ensures.is);
      model = λ model. model;
    }

pub append_batch-requires-clause-each : goal.append_batch-requires-clause-each
append_batch-requires-clause-each g c κs within =
    let batch = c.read_batch-batch.result in
    let block = c.args.block in
    batch_some g.R.TextRecord.spelling (non_zero_u32_get block) block.ok (prepend_known c.loop.buffer.items (g.I.Read.remaining c.loop.reader))
    (prepend_known c.read_batch-batch.new.buffer.items (g.I.Read.remaining c.read_batch-batch.new.reader)) batch.growths.0 batch.lines batch.rest c.read_batch-batch.ensures.batch

pub returns-in-Some-clause-ends : goal.returns-in-Some-clause-ends
returns-in-Some-clause-ends g c disk begin =
    c.in-Some.ensures.appended c.args.pen.now (prepend_known c.args.buffer.now.items (g.I.Read.remaining c.args.reader.now))
    (prepend_known c.loop.buffer.items (g.I.Read.remaining c.loop.reader))
    (prepend_known c.read_batch-batch.new.buffer.items (g.I.Read.remaining c.read_batch-batch.new.reader))
    c.read_batch-batch.ensures.batch c.loop.invariant.so_far disk begin

pub returns-in-Some-clause-shown : goal.returns-in-Some-clause-shown
returns-in-Some-clause-shown g c =
    behind_shown g.R.TextRecord.spelling (non_zero_u32_get c.args.block) _ _ _ c.read_batch-batch.result.rest c.read_batch-batch.result.shown
    c.loop.invariant.so_far.records_are c.read_batch-batch.ensures.shown

pub loop-preserved : goal.loop-preserved
loop-preserved g c =
    let e = c.in_default.ensures {u = tt} in
    let input = prepend_known c.args.buffer.now.items (g.I.Read.remaining c.args.reader.now) in
    record {
      ready = e.ready;
      so_far = e.appended c.args.pen.now input (prepend_known c.loop.buffer.items (g.I.Read.remaining c.loop.reader))
          (prepend_known c.read_batch-batch.new.buffer.items (g.I.Read.remaining c.read_batch-batch.new.reader)) c.read_batch-batch.ensures.batch c.loop.invariant.so_far;
      model = λ model. c.loop.invariant.model (c.append_batch.ensures.model model);
    }

pub returns-clause-ends : goal.returns-clause-ends
returns-clause-ends g c disk begin =
    let it = c.loop.invariant.so_far in
    let ready = c.loop.invariant.ready in
    let block = non_zero_u32_get c.args.block in (
      it.made,
      growths_stand g.R.Record.form g.D.Disk.keeps g.D.Disk.states disk c.loop.pen c.loop.told
          (kept_on g.D.Disk.keeps g.D.Disk.states c.loop.pen c.disk-disk.result.now c.disk-disk.ensures.disk c.disk-disk.ensures.kept) ready.width_is it.size_is it.made [] it.growths_are
          (it.over disk [] begin),
      it.lines_are,
      (_, it.records_are),
    )
