use Rattle.std.proofs.Common.{inr, sym, subst}
use Rattle.words_core.specs.declared.request.Following.{Following}
use Rattle.filing_core.specs.Beside.{FollowsEvents, FollowsFrom, IsFollowDone}
use Rattle.filing_core.specs.Commands.{IsFollowRun}
use Rattle.filing_core.specs.declared.polling.Looks.{Looks}
use Rattle.filing_core.proofs.Filings.{follow_as}
use Rattle.filing_core.proofs.filing.Filing.follow.Goals as goal

pub returns-in_ok-file-in-Records : goal.returns-in_ok-file-in-Records
returns-in_ok-file-in-Records g c =
    let old = g.W.Write.contents c.args.writer.now in
    let new = g.W.Write.contents c.follow_opened.new.writer in
    let done = subst (λ (l : Looks). IsFollowDone c.follow_opened.result l (FollowsFrom g.R.Record.form g.R.TextRecord.spelling.text_of c.in_ok-window-in-Records.window.from old new)) c.in_ok-file-in-Records.ensures.looks
    (c.follow_opened.ensures c.in_ok-file-in-Records.ensures.opened) in
    subst (λ (w : Following). IsFollowRun g.R.Record.form old new c.follow_opened.result g.R.TextRecord.spelling w c.args.looks) (sym c.in-Records.is)
    (inr (inr (follow_as c.follow_opened.result c.args.looks (λ file left end follows. (c.in_ok-window-in-Records.window.from, c.in_ok-window-in-Records.ensures.read.0, follows)) done)))

pub returns-in_ok-file-in-Events : goal.returns-in_ok-file-in-Events
returns-in_ok-file-in-Events g c =
    let old = g.W.Write.contents c.args.writer.now in
    let new = g.W.Write.contents c.follow_events_of.new.writer in
    let done = subst (λ (l : Looks). IsFollowDone c.follow_events_of.result l (FollowsEvents g.R.Record.form g.R.TextRecord.spelling.text_of c.in_ok-after-in-Events.after old new)) c.in_ok-file-in-Events.ensures.looks
    (c.follow_events_of.ensures c.in_ok-file-in-Events.ensures.opened) in
    subst (λ (w : Following). IsFollowRun g.R.Record.form old new c.follow_events_of.result g.R.TextRecord.spelling w c.args.looks) (sym c.in-Events.is)
    (inr (inr (follow_as c.follow_events_of.result c.args.looks (λ file left end follows. (c.in_ok-after-in-Events.after, c.in_ok-after-in-Events.ensures.place, follows)) done)))
