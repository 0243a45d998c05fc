use Rattle.std.proofs.Common.{ap, sym, ◌∙◌}
use Rattle.play_core.specs.Answers.{listed_text}
use Rattle.text_core.proofs.Known.{OnOk_Appends_then, OnOk_Appends_as}
use Rattle.play_core.proofs.Spaced.{spaced}
use Rattle.play_core.proofs.answer_line.write_list.Goals as goal

pub returns : goal.returns
returns g c =
    OnOk_Appends_as c.write_spaced.result _ _ _ _
    (spaced g.R.TextRecord.spelling.text_of c.in-Some.first.now c.in-Some.others.now ∙ ap (listed_text g.R.TextRecord.spelling.text_of) (sym c.in-Some.ensures.cases.0))
    (OnOk_Appends_then c.write_spaced.result _ _ _ _ _ c.in_ok-write_text.ensures c.write_spaced.ensures)
