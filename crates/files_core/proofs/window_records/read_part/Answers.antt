use Rattle.std.proofs.Common.{ℕ, List, subst, ◌∙◌}
use Rattle.std.proofs.lemmas.List.{take_at}
use Rattle.disk_core.specs.State.{now, IsImage}
use Rattle.disk_core.specs.Calls.{bytes_of}
use Rattle.disk_core.proofs.JoinedMoments.{LeavesOnly-start}
use Rattle.record_core.specs.Cells.{AreRecords}
use Rattle.files_core.proofs.WindowRecords.{memory_refused, part_read}
use Rattle.files_core.proofs.window_records.read_part.Goals as goal

pub returns-in_default-clause-refused : goal.returns-in_default-clause-refused
returns-in_default-clause-refused g c = λ model.
    let laws = g.met.R.Record g.world.𝓛 g.world.𝓜 g.world.𝓡 ((λ s x. x), (λ x. x), (λ x. x), λ x. x) in
    memory_refused g.R.Record.form laws.width_in_range.1 (g.D.Disk.keeps c.args.disk.now) (bytes_of (g.D.Disk.states c.args.disk.now)) c.requires.framed.0 c.args.framed.now
    c.requires.framed.1 c.requires.width model

pub returns-in_default-clause-images : goal.returns-in_default-clause-images
returns-in_default-clause-images g c = λ model.
    LeavesOnly-start (g.D.Disk.states c.args.disk.now) (IsImage (now (g.D.Disk.states c.args.disk.now))) (λ image left. left)

pub returns-in-Err-Memory-clause-refused : goal.returns-in-Err-Memory-clause-refused
returns-in-Err-Memory-clause-refused g c = λ model.
    let laws = g.met.R.Record g.world.𝓛 g.world.𝓜 g.world.𝓡 ((λ s x. x), (λ x. x), (λ x. x), λ x. x) in
    memory_refused g.R.Record.form laws.width_in_range.1 (g.D.Disk.keeps c.args.disk.now) (bytes_of (g.D.Disk.states c.args.disk.now)) c.requires.framed.0 c.args.framed.now
    c.requires.framed.1 c.requires.width (c.read_window.ensures.model model)

pub returns-in-Ok-read_records-clause-read : goal.returns-in-Ok-read_records-clause-read
returns-in-Ok-read_records-clause-read g c =
    let got = c.in-Ok-read_records.ensures.ok in
    let bytes = bytes_of (g.D.Disk.states c.args.disk.now) in
    let laws = g.met.R.Record g.world.𝓛 g.world.𝓜 g.world.𝓡 ((λ s x. x), (λ x. x), (λ x. x), λ x. x) in (
      got.0,
      got.1,
      got.2,
      λ model. part_read g.R.Record.form laws.width_in_range.1 (g.D.Disk.keeps c.args.disk.now) bytes c.requires.framed.0 c.args.framed.now c.requires.framed.1 c.requires.width
          c.args.from c.args.count c.read_window.new.out got.0 c.requires.inside (c.in_default-read_window.ensures.cells model)
          (subst (λ (bs : List ℕ). AreRecords g.R.Record.form bs got.0)
          (c.deref.ensures.value ∙ take_at c.read_window.new.out _ c.resize.new.self.len (c.read_window.auto.out ∙ c.deref_mut.ensures.len)) got.3)
          got.2 (c.read_window.ensures.model model),
    )
