use Rattle.std.proofs.Common.{◌≡◌, ◌++◌, ℕ, List, Ok, Err, drop, sym, subst, ◌∙◌}
use Rattle.std.proofs.lemmas.Result.{err_from_is_err_and}
use Rattle.std.proofs.lemmas.List.{take_rest}
use Rattle.std.specs.List.{flat_map}
use Rattle.segment_core.specs.Frame.{frame_text}
use Rattle.beside_core.specs.Since.{DecodesTail}
use Rattle.beside_core.proofs.Shown.{seen, unread, text_whole, legal_whole, ended}
use Rattle.beside_core.proofs.seen.replay_bytes.Goals as goal

pub returns-in_err-laid : goal.returns-in_err-laid
returns-in_err-laid g c =
    let p = err_from_is_err_and c.from_residual.result c.from_residual.ensures.1 in
    rw (p.1, p.2) (
    let form = g.R.Record.form in
    let bytes : List ℕ = c.args.bytes.now in
    let mark = c.in-Ok.mark in
    let text = c.in_err-laid.ensures.text in
    let is : drop 11 bytes ≡ flat_map (frame_text mark.shape.format) text.frames ++ text.rest = sym (take_rest bytes 11) ∙ text.text_is in
    ended form bytes mark c.in-Ok.ensures text.frames text.rest c.in_err-laid.field-0.0 (legal_whole form bytes mark c.in-Ok.ensures text.frames text.legal)
    (text_whole form bytes mark c.in-Ok.ensures text.frames text.rest is) text.end)

pub returns-in_err-records : goal.returns-in_err-records
returns-in_err-records g c =
    let p = err_from_is_err_and c.from_residual-in_err-records.result c.from_residual-in_err-records.ensures.1 in
    rw (p.1, p.2) (
    let form = g.R.Record.form in
    let bytes : List ℕ = c.args.bytes.now in
    let mark = c.in-Ok.mark in
    let text = c.in_ok-laid.ensures.text in
    let is : drop 11 bytes ≡ flat_map (frame_text mark.shape.format) text.frames ++ text.rest = sym (take_rest bytes 11) ∙ text.text_is in
    let decodes : DecodesTail form 0 c.in_ok-laid.laid.tail.items (Err c.in_err-records.field-0.0)
    = subst (λ (bs : List ℕ). DecodesTail form 0 bs (Err c.in_err-records.field-0.0)) c.deref.ensures.value c.in_err-records.ensures in
    unread form bytes mark c.in-Ok.ensures text.frames c.in_ok-laid.laid c.in_ok-laid.next text.end.1 text.rest c.in_err-records.field-0.0
    (legal_whole form bytes mark c.in-Ok.ensures text.frames text.legal) (text_whole form bytes mark c.in-Ok.ensures text.frames text.rest is) text.end.0 decodes)

pub returns : goal.returns
returns g c =
    let form = g.R.Record.form in
    let bytes : List ℕ = c.args.bytes.now in
    let mark = c.in-Ok.mark in
    let text = c.in_ok-laid.ensures.text in
    let is : drop 11 bytes ≡ flat_map (frame_text mark.shape.format) text.frames ++ text.rest = sym (take_rest bytes 11) ∙ text.text_is in
    let decodes : DecodesTail form 0 c.in_ok-laid.laid.tail.items (Ok c.in_ok-records.records)
    = subst (λ (bs : List ℕ). DecodesTail form 0 bs (Ok c.in_ok-records.records)) c.deref.ensures.value c.in_ok-records.ensures in
    seen form bytes mark c.in-Ok.ensures text.frames c.in_ok-laid.laid c.in_ok-laid.next text.end.1 text.rest c.in_ok-records.records c.in_ok-laid.frames text.end.2
    (legal_whole form bytes mark c.in-Ok.ensures text.frames text.legal) (text_whole form bytes mark c.in-Ok.ensures text.frames text.rest is) text.end.0 decodes
