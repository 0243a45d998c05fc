use Rattle.std.proofs.Common.{◌≡◌, ◌-◌, List, [], ◌∷◌, ◌++◌, length, take, drop, refl, sym, ap, subst, ◌∙◌, arith}
use Rattle.std.specs.Io.KnownBytes.{Appends}
use Rattle.std.proofs.lemmas.List.{append_assoc, append-nil, length-drop}
use Rattle.std.proofs.lemmas.List.Concat.{flat_map-append}
use Rattle.segment_core.specs.Written.{joined}
use Rattle.text_core.specs.Text.{record_lines}
use Rattle.files_core.proofs.Windows.{window_none, window_more, skip_more, left_more}
use Rattle.text_core.proofs.Written.{appends_nothing}
use Rattle.files_core.proofs.Written.{lines_join}
use Rattle.files_core.proofs.listing.write_window.Goals as goal

pub loop-piece-init : goal.loop-piece-init
loop-piece-init g c = record {
  gone = [];
  all = refl;
  skipped = omega arith;
  wanted = let none : List g.row.R.Denot = [] in let len = length-drop c.args.window.now.from none in omega (arith, len);
  written =
      subst (λ (rs : List g.row.R.Denot). Appends (g.W.Write.contents c.args.writer.now) (g.W.Write.contents c.args.writer.now)
      (record_lines g.R.TextRecord.spelling.text_of rs)) (sym (window_none c.args.window.now.from c.args.window.now.count))
      (appends_nothing (g.W.Write.contents c.args.writer.now));
}

pub loop-piece-preserved : goal.loop-piece-preserved
loop-piece-preserved g c =
    let so = c.loop-piece.invariant in
    let from = c.args.window.now.from in
    let count = c.args.window.now.count in
    let piece = c.in-Some.piece.now in
    let records = c.part-records.result.now in
    let gone = joined so.gone in
    let front = take count (drop from gone) in
    let join : joined (so.gone ++ piece ∷ []) ≡ gone ++ piece =
    flat_map-append (λ (rs : List g.row.R.Denot). rs) so.gone (piece ∷ []) ∙ ap (λ (rs : List g.row.R.Denot). gone ++ rs) (append-nil piece) in
    let part : records ≡ take (count - length (drop from gone)) (drop (from - length gone) piece) =
    c.part-records.ensures ∙ ap (λ k. take k (drop c.loop-piece.skip piece)) so.wanted ∙ ap (λ k. take (count - length (drop from gone)) (drop k piece)) so.skipped in
    record {
      gone = so.gone ++ piece ∷ [];
      all = so.all ∙ ap (λ (ps : List (List g.row.R.Denot)). so.gone ++ ps) c.in-Some.ensures.steps ∙ sym (append_assoc so.gone (piece ∷ []) c.next.new.self);
      skipped = c.saturating_sub-skip.ensures ∙ ap (λ k. k - length piece) so.skipped ∙ skip_more from gone piece ∙ ap (λ (rs : List g.row.R.Denot). from - length rs) (sym join);
      wanted = c.saturating_sub-left.ensures ∙ ap (λ k. k - length records) so.wanted
          ∙ ap (λ (rs : List g.row.R.Denot). count - length (drop from gone) - length rs) part ∙ left_more from count gone piece
          ∙ ap (λ (rs : List g.row.R.Denot). count - length (drop from rs)) (sym join);
      written = subst (λ (rs : List g.row.R.Denot). Appends (g.W.Write.contents c.args.writer.now) (g.W.Write.contents c.write_chunks.new.writer) (record_lines g.R.TextRecord.spelling.text_of rs))
          (ap (λ (rs : List g.row.R.Denot). front ++ rs) part ∙ sym (window_more from count gone piece) ∙ ap (λ (rs : List g.row.R.Denot). take count (drop from rs)) (sym join))
          (lines_join g.R.TextRecord.spelling.text_of (g.W.Write.contents c.args.writer.now) (g.W.Write.contents c.loop-piece.writer)
          (g.W.Write.contents c.write_chunks.new.writer) front records so.written c.in_ok-write_chunks.ensures);
    }

pub returns : goal.returns
returns g c =
    let so = c.loop-piece.invariant in
    let none : c.loop-piece.pieces ≡ [] = c.in_default.ensures.steps.0 in
    subst (λ (ps : List (List g.row.R.Denot)). Appends (g.W.Write.contents c.args.writer.now) (g.W.Write.contents c.loop-piece.writer)
    (record_lines g.R.TextRecord.spelling.text_of (take c.args.window.now.count (drop c.args.window.now.from (joined ps)))))
    (sym (so.all ∙ ap (λ (ps : List (List g.row.R.Denot)). so.gone ++ ps) none ∙ append-nil so.gone)) so.written
