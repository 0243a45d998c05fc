use Rattle.std.proofs.Common.{ℕ, List, Ok, Err, subst, inl}
use Rattle.std.proofs.lemmas.Result.{err_from_is_err_and}
use Rattle.beside_core.specs.News.{IsNewsAt, MayRefuseNews}
use Rattle.beside_core.specs.Tail.{ReplaysFrames}
use Rattle.beside_core.specs.Since.{DecodesTail}
use Rattle.beside_core.proofs.Answering.{answered}
use Rattle.beside_core.proofs.Grown.{news_are, no_record, replay_refused}
use Rattle.beside_core.proofs.bookmark.Bookmark.news.Goals as goal

pub returns-in_err-text-clause-news : goal.returns-in_err-text-clause-news
returns-in_err-text-clause-news g c =
    let p = err_from_is_err_and c.from_residual.result c.from_residual.ensures.1 in
    rw (p.1, p.2) (λ kept shape frames known file lies more. inl (c.in_err-text.ensures.read kept shape frames known file lies more))

pub returns-in_err-laid-clause-news : goal.returns-in_err-laid-clause-news
returns-in_err-laid-clause-news g c =
    let p = err_from_is_err_and c.from_residual-in_err-laid.result c.from_residual-in_err-laid.ensures.1 in
    rw (p.1, p.2) (λ kept.
    let form = g.R.Record.form in
    let mark = c.args.self in
    let held = g.S.Shared.held c.args.file.now in
    let from = g.S.Shared.now c.args.file.now in
    let to = g.S.Shared.now c.read_on.new.file in
    let synced = g.S.Shared.synced c.read_on.new.file in
    let bytes : List ℕ = c.in_ok-text.text.items in
    let replays : ReplaysFrames {R = g.row.R.Denot} form mark bytes (Err c.in_err-laid.field-0.0) = subst (λ (bs : List ℕ). ReplaysFrames {R = g.row.R.Denot} form mark bs
    (Err c.in_err-laid.field-0.0)) c.deref.ensures.value c.in_err-laid.ensures.frames in
    answered form mark held from to synced bytes (λ s frames known. MayRefuseNews form s frames from to c.in_err-laid.field-0.0)
    (λ shape frames known file lies more. c.in_ok-text.ensures.read kept shape frames known file lies more)
    (λ frames known own behind reads. replay_refused form mark held frames known own behind from to synced bytes reads c.in_err-laid.field-0.0 replays))

pub returns-in_err-records-clause-news : goal.returns-in_err-records-clause-news
returns-in_err-records-clause-news g c =
    let p = err_from_is_err_and c.from_residual-in_err-records.result c.from_residual-in_err-records.ensures.1 in
    rw (p.1, p.2) (λ kept.
    let form = g.R.Record.form in
    let mark = c.args.self in
    let held = g.S.Shared.held c.args.file.now in
    let from = g.S.Shared.now c.args.file.now in
    let to = g.S.Shared.now c.read_on.new.file in
    let synced = g.S.Shared.synced c.read_on.new.file in
    let bytes : List ℕ = c.in_ok-text.text.items in
    let laid = c.in_ok-laid.laid in
    let next = c.in_ok-laid.next in
    let replays : ReplaysFrames form mark bytes (Ok (c.in_ok-laid.laid, c.in_ok-laid.next, c.in_ok-laid.field-0-2)) = subst (λ (bs : List ℕ). ReplaysFrames form mark bs (Ok (c.in_ok-laid.laid, c.in_ok-laid.next, c.in_ok-laid.field-0-2)))
    c.deref.ensures.value c.in_ok-laid.ensures.frames in
    let decodes : DecodesTail form laid.base c.in_ok-laid.laid.tail.items (Err c.in_err-records.field-0.0) = subst (λ (bs : List ℕ). DecodesTail form laid.base bs
    (Err c.in_err-records.field-0.0)) c.deref-2.ensures.value c.in_err-records.ensures in
    answered form mark held from to synced bytes (λ s frames known. MayRefuseNews form s frames from to c.in_err-records.field-0.0)
    (λ shape frames known file lies more. c.in_ok-text.ensures.read kept shape frames known file lies more)
    (λ frames known own behind reads. inl (no_record form mark held frames known own behind from to synced bytes reads laid next c.in_ok-laid.field-0-2 replays c.in_err-records.field-0.0 decodes)))

pub returns-clause-news : goal.returns-clause-news
returns-clause-news g c = λ kept.
    let form = g.R.Record.form in
    let mark = c.args.self in
    let held = g.S.Shared.held c.args.file.now in
    let from = g.S.Shared.now c.args.file.now in
    let to = g.S.Shared.now c.read_on.new.file in
    let synced = g.S.Shared.synced c.read_on.new.file in
    let bytes : List ℕ = c.in_ok-text.text.items in
    let laid = c.in_ok-laid.laid in
    let next = c.in_ok-laid.next in
    let replays : ReplaysFrames form mark bytes (Ok (c.in_ok-laid.laid, c.in_ok-laid.next, c.in_ok-laid.field-0-2)) = subst (λ (bs : List ℕ). ReplaysFrames form mark bs (Ok (c.in_ok-laid.laid, c.in_ok-laid.next, c.in_ok-laid.field-0-2)))
    c.deref.ensures.value c.in_ok-laid.ensures.frames in
    let decodes : DecodesTail form laid.base c.in_ok-laid.laid.tail.items (Ok c.in_ok-records.records) = subst (λ (bs : List ℕ). DecodesTail form laid.base bs
    (Ok c.in_ok-records.records)) c.deref-2.ensures.value c.in_ok-records.ensures in
    answered form mark held from to synced bytes
    (λ s frames known. IsNewsAt form s frames known from to synced (record { edits = c.in_ok-laid.laid.edits; records = c.in_ok-records.records; next = c.in_ok-laid.next }))
    (λ shape frames known file lies more. c.in_ok-text.ensures.read kept shape frames known file lies more)
    (λ frames known own behind reads. news_are form mark held frames known own behind from to synced bytes reads laid next c.in_ok-laid.field-0-2 replays c.in_ok-records.records decodes)
