use Rattle.std.proofs.Common.{◌≡◌, ◌-◌, length, sym, subst, arith}
use Rattle.beside_core.specs.PensFile.{IsPensFile}
use Rattle.follow_core.specs.Answers.{measures_line, AreMeasuresTold}
use Rattle.follow_core.proofs.Whole.{told_once}
use Rattle.text_core.proofs.Written.{keeps_same}
use Rattle.follow_core.proofs.Checked.{measured, uncounted}
use Rattle.follow_core.proofs.checking.check_beside.Goals as goal

pub returns-in-Err-count_frames-clause-read : goal.returns-in-Err-count_frames-clause-read
returns-in-Err-count_frames-clause-read g c =
    let read = c.in-Ok.ensures in
    let e = c.in-Err-count_frames.ensures in
    let held = g.S.Shared.held c.args.file.now in (
      keeps_same (g.W.Write.contents c.args.writer.now),
      uncounted g.R.Record.form (g.S.Shared.keeps c.read_vector.new.file) (g.S.Shared.keeps c.count_frames.new.file) held (g.S.Shared.now c.args.file.now)
          (g.S.Shared.now c.read_vector.new.file) (g.S.Shared.now c.count_frames.new.file) (g.S.Shared.synced c.read_vector.new.file) (g.S.Shared.synced c.count_frames.new.file)
          c.in-Ok.found.0.items c.in-Ok.found.1 e.model e.time e.settles_none read.read c.in-Err-count_frames.fault
          (λ model shape frames known file lies more. e.counted model shape frames known (subst (λ h. IsPensFile shape h frames) (sym read.same) file) lies more),
    )

pub returns-clause-read : goal.returns-clause-read
returns-clause-read g c =
    let read = c.in-Ok.ensures in
    let e = c.in-Ok-count_frames.ensures in
    let held = g.S.Shared.held c.args.file.now in
    let records = c.in-Ok.found.0 in
    let mark = c.in-Ok.found.1 in
    let size : c.len.result ≡ length c.in-Ok.found.0.items = omega (arith, c.len.ensures, c.in-Ok.found.0.ok.0) in
    told_once g.R.Record.form (AreMeasuresTold g.R.Record.form) (g.S.Shared.keeps c.count_frames.new.file) held (g.S.Shared.now c.args.file.now) (g.S.Shared.now c.count_frames.new.file)
    (g.S.Shared.synced c.count_frames.new.file) (g.W.Write.contents c.args.writer.now) (g.W.Write.contents c.write_measures.new.writer)
    (measures_line mark.shape c.len.result c.in-Ok-count_frames.frames (mark.tally.changes - mark.tally.folded)) c.write_measures.result c.told.result c.told.ensures c.write_measures.ensures
    (measured g.R.Record.form (g.S.Shared.keeps c.read_vector.new.file) (g.S.Shared.keeps c.count_frames.new.file) held (g.S.Shared.now c.args.file.now)
    (g.S.Shared.now c.read_vector.new.file) (g.S.Shared.now c.count_frames.new.file) (g.S.Shared.synced c.read_vector.new.file) (g.S.Shared.synced c.count_frames.new.file)
    records.items mark e.model e.time e.settles_none read.read c.len.result c.in-Ok-count_frames.frames size
    (λ model shape frames known file lies more. e.counted model shape frames known (subst (λ h. IsPensFile shape h frames) (sym read.same) file) lies more))
