-- A snapshot of what a seat knew, and the seat that knows more.
use Rattle.std.proofs.Common.{◌≡◌, List, length, slice_get, option_map, ap, sym, ◌∙◌, arith}
use Rattle.std.proofs.lemmas.List.{length-map}
use Rattle.std.proofs.lemmas.Option.{slice_get-map}
use Rattle.segment_core.proofs.Replaced.{slice_get-take}
use Rattle.block_core.specs.Growth.{Growth}
use Rattle.directory_core.specs.Chain.{Agree, IsPrefix}
use Rattle.book_core.specs.Lists.{Seated}
use Rattle.book_core.specs.Snapshots.{growth_records}

-- what shows the growths that the seat knew has none that isn't the seat's now
pub agrees_still : {R : Type 0} (old new : Seated R) (shown : List (List R)) → shown ≡ growth_records old → IsPrefix old.pass.entries new.pass.entries
    → Agree shown (growth_records new)
agrees_still {R} old new shown same begins g less less' =
    let records : Growth R → List R = λ e. e.records in
    let many = ap length same ∙ length-map old.pass.entries records in
    let here : slice_get old.pass.entries g ≡ slice_get new.pass.entries g =
    ap (λ (es : List (Growth R)). slice_get es g) (sym begins) ∙ slice_get-take (length old.pass.entries) new.pass.entries g (omega (arith, many, less)) in
    ap (λ (rs : List (List R)). slice_get rs g) same
    ∙ (slice_get-map records old.pass.entries g ∙ (ap (option_map records) here ∙ sym (slice_get-map records new.pass.entries g)))
