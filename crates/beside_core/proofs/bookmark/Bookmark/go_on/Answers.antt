use Rattle.std.proofs.Common.{List, ℕ, Ok, Err, drop, sym, subst}
use Rattle.std.proofs.lemmas.Result.{err_from_is_err_and}
use Rattle.beside_core.specs.Tail.{ReplaysFrames}
use Rattle.beside_core.specs.Since.{DecodesTail, IsSinceAt, MayRefuse}
use Rattle.beside_core.specs.declared.fault.LookFault.TheVariants.{NoRecord}
use Rattle.beside_core.specs.declared.since.Since.TheVariants.{Grown, Lost}
use Rattle.beside_core.specs.declared.since.Loss.TheVariants.{Changed}
use Rattle.beside_core.proofs.Answering.{answered}
use Rattle.beside_core.proofs.Grown.{grown, none_grown, lost_first, lost_unread, replay_clear, first_none, first_some}
use Rattle.beside_core.proofs.bookmark.Bookmark.go_on.Goals as goal

pub returns-in_err-text-clause-since : goal.returns-in_err-text-clause-since
returns-in_err-text-clause-since g c =
    let p = err_from_is_err_and c.from_residual.result c.from_residual.ensures.1 in
    rw (p.1, p.2) (λ kept shape frames known file lies more. c.in_err-text.ensures.read kept shape frames known file lies more)

pub returns-in_err-records-in-None-clause-since : goal.returns-in_err-records-in-None-clause-since
returns-in_err-records-in-None-clause-since g c =
    let p = err_from_is_err_and c.from_residual-in_err-records-in-None.result c.from_residual-in_err-records-in-None.ensures.1 in
    rw (p.1, p.2) (λ kept.
    let form = g.R.Record.form in
    let mark = c.args.self in
    let held = g.S.Shared.held c.args.file.now in
    let from = g.S.Shared.now c.args.file.now in
    let to = g.S.Shared.now c.read_on.new.file in
    let synced = g.S.Shared.synced c.read_on.new.file in
    let bytes : List ℕ = c.in_ok-text.text.items in
    let replays : ReplaysFrames form mark bytes (Ok (c.in-Ok.laid, c.in-Ok.next, c.in-Ok.field-0-2)) = subst (λ (bs : List ℕ). ReplaysFrames form mark bs (Ok (c.in-Ok.laid, c.in-Ok.next, c.in-Ok.field-0-2))) c.deref.ensures.value c.in-Ok.ensures.frames in
    let decodes : DecodesTail form mark.tally.size c.in-Ok.laid.tail.items (Err c.in_err-records-in-None.field-0.0) = subst (λ (bs : List ℕ). DecodesTail form mark.tally.size bs
    (Err c.in_err-records-in-None.field-0.0)) c.deref-in-None.ensures.value c.in_err-records-in-None.ensures in
    answered form mark held from to synced bytes (λ s frames known. MayRefuse form s frames from to c.in_err-records-in-None.field-0.0)
    (λ shape frames known file lies more. c.in_ok-text.ensures.read kept shape frames known file lies more)
    (λ frames known own behind reads. none_grown form mark held frames known own behind from to synced bytes reads c.in-Ok.laid c.in-Ok.next c.in-Ok.field-0-2 replays
    (first_none c.deref-in-Ok.result.now c.in-Ok.laid.edits.items c.deref-in-Ok.ensures.value c.in-None.ensures.value) c.in_err-records-in-None.field-0.0 decodes))

pub returns-in-None-clause-since : goal.returns-in-None-clause-since
returns-in-None-clause-since g c = λ kept.
    let form = g.R.Record.form in
    let mark = c.args.self in
    let held = g.S.Shared.held c.args.file.now in
    let from = g.S.Shared.now c.args.file.now in
    let to = g.S.Shared.now c.read_on.new.file in
    let synced = g.S.Shared.synced c.read_on.new.file in
    let bytes : List ℕ = c.in_ok-text.text.items in
    let replays : ReplaysFrames form mark bytes (Ok (c.in-Ok.laid, c.in-Ok.next, c.in-Ok.field-0-2)) = subst (λ (bs : List ℕ). ReplaysFrames form mark bs (Ok (c.in-Ok.laid, c.in-Ok.next, c.in-Ok.field-0-2))) c.deref.ensures.value c.in-Ok.ensures.frames in
    let decodes : DecodesTail form mark.tally.size c.in-Ok.laid.tail.items (Ok c.in_ok-records-in-None.records) = subst (λ (bs : List ℕ). DecodesTail form mark.tally.size bs
    (Ok c.in_ok-records-in-None.records)) c.deref-in-None.ensures.value c.in_ok-records-in-None.ensures in
    answered form mark held from to synced bytes (λ s frames known. IsSinceAt form s frames known from to synced (Grown c.in_ok-records-in-None.records c.in-Ok.next))
    (λ shape frames known file lies more. c.in_ok-text.ensures.read kept shape frames known file lies more)
    (λ frames known own behind reads. grown form mark held frames known own behind from to synced bytes reads c.in-Ok.laid c.in-Ok.next c.in-Ok.field-0-2 replays
    (first_none c.deref-in-Ok.result.now c.in-Ok.laid.edits.items c.deref-in-Ok.ensures.value c.in-None.ensures.value) c.in_ok-records-in-None.records decodes)

pub returns-in-Ok-clause-since : goal.returns-in-Ok-clause-since
returns-in-Ok-clause-since g c = λ kept.
    let form = g.R.Record.form in
    let mark = c.args.self in
    let held = g.S.Shared.held c.args.file.now in
    let from = g.S.Shared.now c.args.file.now in
    let to = g.S.Shared.now c.read_on.new.file in
    let synced = g.S.Shared.synced c.read_on.new.file in
    let bytes : List ℕ = c.in_ok-text.text.items in
    let replays : ReplaysFrames form mark bytes (Ok (c.in-Ok.laid, c.in-Ok.next, c.in-Ok.field-0-2)) = subst (λ (bs : List ℕ). ReplaysFrames form mark bs (Ok (c.in-Ok.laid, c.in-Ok.next, c.in-Ok.field-0-2))) c.deref.ensures.value c.in-Ok.ensures.frames in
    answered form mark held from to synced bytes (λ s frames known. IsSinceAt {R = g.row.R.Denot} form s frames known from to synced (Lost c.loss.result))
    (λ shape frames known file lies more. c.in_ok-text.ensures.read kept shape frames known file lies more)
    (λ frames known own behind reads. subst (λ loss. IsSinceAt {R = g.row.R.Denot} form mark.shape frames known from to synced (Lost loss)) (sym c.loss.ensures)
    (lost_first form mark held frames known own behind from to synced bytes reads c.in-Ok.laid c.in-Ok.next c.in-Ok.field-0-2 replays c.in-Some.edit.now (drop 1 c.in-Ok.laid.edits.items)
    (first_some c.deref-in-Ok.result.now c.in-Ok.laid.edits.items c.in-Some.edit.now c.deref-in-Ok.ensures.value c.in-Some.ensures.value)))

pub returns-in-NoRecord-clause-since : goal.returns-in-NoRecord-clause-since
returns-in-NoRecord-clause-since g c = λ kept.
    let form = g.R.Record.form in
    let mark = c.args.self in
    let held = g.S.Shared.held c.args.file.now in
    let from = g.S.Shared.now c.args.file.now in
    let to = g.S.Shared.now c.read_on.new.file in
    let synced = g.S.Shared.synced c.read_on.new.file in
    let bytes : List ℕ = c.in_ok-text.text.items in
    let replays : ReplaysFrames {R = g.row.R.Denot} form mark bytes (Err (NoRecord c.in-NoRecord.position)) = subst (λ (bs : List ℕ). ReplaysFrames {R = g.row.R.Denot} form mark bs
    (Err (NoRecord c.in-NoRecord.position))) c.deref.ensures.value (rw c.in-NoRecord.is at c.in-Err.ensures.frames) in
    answered form mark held from to synced bytes (λ s frames known. IsSinceAt {R = g.row.R.Denot} form s frames known from to synced (Lost (Changed c.in-NoRecord.position)))
    (λ shape frames known file lies more. c.in_ok-text.ensures.read kept shape frames known file lies more)
    (λ frames known own behind reads. lost_unread form mark held frames known own behind from to synced bytes reads c.in-NoRecord.position replays)

pub returns : goal.returns
returns g c = record {
  since = λ kept.
      let form = g.R.Record.form in
      let mark = c.args.self in
      let held = g.S.Shared.held c.args.file.now in
      let from = g.S.Shared.now c.args.file.now in
      let to = g.S.Shared.now c.read_on.new.file in
      let synced = g.S.Shared.synced c.read_on.new.file in
      let bytes : List ℕ = c.in_ok-text.text.items in
      let replays : ReplaysFrames {R = g.row.R.Denot} form mark bytes (Err c.in-Err.fault) = subst (λ (bs : List ℕ). ReplaysFrames {R = g.row.R.Denot} form mark bs
      (Err c.in-Err.fault)) c.deref.ensures.value c.in-Err.ensures.frames in
      answered form mark held from to synced bytes (λ s frames known. MayRefuse form s frames from to c.in-Err.fault)
      (λ shape frames known file lies more. c.in_ok-text.ensures.read kept shape frames known file lies more)
      (λ frames known own behind reads. replay_clear form mark held frames known own behind from to synced bytes reads c.in-Err.fault c.in_default.not-NoRecord replays);
  same = c.in_ok-text.ensures.same;
  time = c.in_ok-text.ensures.time;
  keeps_settled = c.in_ok-text.ensures.keeps_settled;
  model = c.in_ok-text.ensures.model;
}
