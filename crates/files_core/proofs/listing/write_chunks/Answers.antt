use Rattle.std.proofs.Common.{◌≡◌, ◌<◌, List, [], ◌++◌, length, take, refl, sym, ap, subst, ◌∙◌, arith}
use Rattle.std.specs.Io.KnownBytes.{Appends}
use Rattle.std.proofs.lemmas.Bool.{eqb-true, eqb-false}
use Rattle.std.proofs.lemmas.List.{append_assoc, append-nil, take-append-drop}
use Rattle.text_core.specs.Text.{record_lines}
use Rattle.text_core.proofs.Small.{nil_from_length}
use Rattle.text_core.proofs.Written.{appends_nothing}
use Rattle.files_core.proofs.Written.{lines_join}
use Rattle.files_core.proofs.listing.write_chunks.Goals as goal

pub loop-rest-init : goal.loop-rest-init
loop-rest-init g c = ([], refl, appends_nothing (g.W.Write.contents c.args.writer.now))

pub loop-rest-smaller : goal.loop-rest-smaller
loop-rest-smaller g c =
    let some : 0 < length c.loop-rest.rest.now = let no = eqb-false _ 0 (sym c.loop-rest-test.ensures) in omega (arith, no) in
    omega (arith, some, c.min.ensures, c.split_at.ensures.back_len)

pub loop-rest-preserved : goal.loop-rest-preserved
loop-rest-preserved g c =
    let so_far = c.loop-rest.invariant in
    let chunk = c.split_at.result.0.now in
    let behind = c.split_at.result.1.now in
    let whole : chunk ++ behind ≡ c.loop-rest.rest.now =
    ap (λ (xs : List g.row.R.Denot). xs ++ behind) c.split_at.ensures.front
    ∙ ap (λ (xs : List g.row.R.Denot). take c.min.result c.loop-rest.rest.now ++ xs) c.split_at.ensures.back
    ∙ take-append-drop c.min.result c.loop-rest.rest.now in (
      so_far.0 ++ chunk,
      so_far.1 ∙ ap (λ (xs : List g.row.R.Denot). so_far.0 ++ xs) (sym whole) ∙ sym (append_assoc so_far.0 chunk behind),
      lines_join g.R.TextRecord.spelling.text_of (g.W.Write.contents c.args.writer.now) (g.W.Write.contents c.loop-rest.writer)
          (g.W.Write.contents c.write_records.new.writer) so_far.0 chunk so_far.2 c.in_ok-write_records.ensures,
    )

pub returns : goal.returns
returns g c =
    let so_far = c.loop-rest.invariant in
    let none = nil_from_length _ (eqb-true _ 0 (sym c.loop-rest-test.ensures)) in
    let all : so_far.0 ≡ c.args.records.now = sym (so_far.1 ∙ ap (λ (xs : List g.row.R.Denot). so_far.0 ++ xs) none ∙ append-nil so_far.0) in
    subst (λ (rs : List g.row.R.Denot). Appends (g.W.Write.contents c.args.writer.now) (g.W.Write.contents c.loop-rest.writer) (record_lines g.R.TextRecord.spelling.text_of rs)) all so_far.2
