use Rattle.std.proofs.Common.{◌≡◌, length, ap, ◌∙◌}
use Rattle.std.proofs.lemmas.Bool.{ltb-true, lt-ltb}
use Rattle.segment_core.specs.Growths.{end_from}
use Rattle.segment_core.proofs.GrowthRows.{some_left, none_left}
use Rattle.segment_core.proofs.growth_row.Growths.is_begun.Goals as goal

pub returns : goal.returns
returns g c =
    let row = c.self.inside.records.items in
    let end = end_from 0 c.self.inside.ends.items in
    let last : c.last_end.result ≡ end = c.last_end.ensures ∙ ap (end_from 0) c.as_slice.ensures.value in
    let len : c.len.result ≡ length row = c.len.ensures ∙ c.self.inside.records.ok.0 in
    rw (← c.self.view_is, last, len) (
      λ test. some_left row end (ltb-true end (length row) test),
      λ some. lt-ltb end (length row) (none_left row end some),
    )
