use Rattle.std.proofs.Common.{◌++◌, ◌∷◌, [], List, ℕ, take, map, sym, ap, subst, ◌∙◌, append_assoc}
use Rattle.std.specs.Global.{Vec}
use Rattle.std.proofs.lemmas.List.{take_all}
use Rattle.std.proofs.lemmas.Result.{on_ok_weaker}
use Rattle.record_core.specs.Cells.{AreReadAgain}
use Rattle.segment_core.specs.declared.format.Format.TheVariants.{One}
use Rattle.segment_core.specs.Shape.{shape_of}
use Rattle.segment_core.specs.Frame.{frame_text, text}
use Rattle.segment_core.specs.Written.{growths_of, groups_of, group_frame, all_records, joined}
use Rattle.segment_core.proofs.Written.{groups_more, all_records_push, text_more, AreReadAgain-append}
use Rattle.segment_core.proofs.image.append_image.Goals as goal

pub loop-group-preserved : goal.loop-group-preserved
loop-group-preserved g c =
    let so_far = c.loop-group.invariant in
    let before = groups_of (take c.loop-group.group-index c.args.groups.now) in
    let group = growths_of c.group-item.result.items in
    let more = groups_more c.args.groups.now c.loop-group.group-index c.group-item.result c.loop-group-test.true c.group-item.is in
    let wrote = rw c.as_slice.ensures.value at c.in-Ok.ensures.text in
    let again = rw c.as_slice.ensures.value at c.in-Ok.ensures.read_again in
    record {
      so_far = wrote One ∙ ap (λ (bs : List ℕ). bs ++ frame_text One (group_frame g.R.Record.form group)) so_far.so_far
          ∙ append_assoc c.args.file.now.items (text (shape_of One g.R.Record.form) (map (group_frame g.R.Record.form) before)) (frame_text One (group_frame g.R.Record.form group))
          ∙ ap (λ (bs : List ℕ). c.args.file.now.items ++ bs) (sym (text_more One g.R.Record.form before group))
          ∙ ap (λ (gs : List (List (List g.row.R.Denot))). c.args.file.now.items ++ text (shape_of One g.R.Record.form) (map (group_frame g.R.Record.form) gs)) (sym more);
      read_again = subst (λ (rs : List g.row.R.Denot). AreReadAgain g.R.Record.form rs) (sym (all_records_push before group) ∙ ap all_records (sym more))
          (AreReadAgain-append g.R.Record.form (all_records before) (joined group) so_far.read_again again);
    }

pub returns-clause-text : goal.returns-clause-text
returns-clause-text g c =
    let all = take_all c.loop-group.group-index c.args.groups.now c.loop-group-test.false in
    on_ok_weaker c.append_last_gate.result (λ gate. gate ∙ ap (λ (bs : List ℕ). bs ++ 0 ∷ []) c.loop-group.invariant.so_far
    ∙ append_assoc c.args.file.now.items (text (shape_of One g.R.Record.form) (map (group_frame g.R.Record.form) (groups_of (take c.loop-group.group-index c.args.groups.now)))) (0 ∷ [])
    ∙ ap
    (λ (gs : List (Vec (Vec g.row.R.Denot))). c.args.file.now.items ++ (text (shape_of One g.R.Record.form) (map (group_frame g.R.Record.form) (groups_of gs)) ++ 0 ∷ []))
    all) c.append_last_gate.ensures

pub returns-clause-read_again : goal.returns-clause-read_again
returns-clause-read_again g c =
    let all = take_all c.loop-group.group-index c.args.groups.now c.loop-group-test.false in
    on_ok_weaker c.append_last_gate.result
    (λ _. subst (λ (gs : List (Vec (Vec g.row.R.Denot))). AreReadAgain g.R.Record.form (all_records (groups_of gs))) all c.loop-group.invariant.read_again)
    c.append_last_gate.ensures
