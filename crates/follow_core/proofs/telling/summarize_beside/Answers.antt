use Rattle.std.proofs.Common.{◌≡◌, sym, subst, ◌∙◌}
use Rattle.beside_core.specs.PensFile.{IsPensFile}
use Rattle.follow_core.specs.Counted.{CountsAll}
use Rattle.follow_core.proofs.Fronts.{summarized}
use Rattle.follow_core.proofs.telling.summarize_beside.Goals as goal

pub returns-in-Err-count_frames-clause-read : goal.returns-in-Err-count_frames-clause-read
returns-in-Err-count_frames-clause-read g c = λ kept shape frames file.
    let first = c.in-Ok.ensures in
    let e = c.in-Err-count_frames.ensures in
    let held = g.S.Shared.held c.first.new.file in
    let lies = first.behind (e.model kept) shape frames file in
    let same : c.shape.result ≡ shape = c.shape.ensures ∙ lies.shape_is in
    e.counted kept frames (subst (λ s. IsPensFile s held frames) (sym same) (subst (λ h. IsPensFile shape h frames) (sym first.same) file))

pub returns-in-Ok-sync-clause-read : goal.returns-in-Ok-sync-clause-read
returns-in-Ok-sync-clause-read g c = λ kept shape frames file.
    let first = c.in-Ok.ensures in
    let e = c.in-Ok-count_frames.ensures in
    let last = c.in-Ok-sync.ensures in
    let held = g.S.Shared.held c.first.new.file in
    let mid = g.S.Shared.now c.first.new.file in
    let to = g.S.Shared.now c.count_frames.new.file in
    let summary = c.in-Ok-count_frames.summary in
    let lies = first.behind (e.model (last.model kept)) shape frames file in
    let same : c.shape.result ≡ shape = c.shape.ensures ∙ lies.shape_is in
    let all : CountsAll shape frames mid to c.in-Ok-count_frames.summary = subst (λ s. CountsAll s frames mid to c.in-Ok-count_frames.summary) same
    (e.counted (last.model kept) frames (subst (λ s. IsPensFile s held frames) (sym same) (subst (λ h. IsPensFile shape h frames) (sym first.same) file))) in
    summarized shape (g.S.Shared.held c.args.file.now) frames (g.S.Shared.now c.args.file.now) mid to (g.S.Shared.now c.sync.new.self) (g.S.Shared.synced c.sync.new.self) summary file first.time
    last.time last.settled e.ends all
