use Rattle.std.proofs.Common.{ℕ, List, [], ◌∷◌, Option, Result}
use Rattle.std.specs.Prelude.{OnOk, decimal}
use Rattle.std.specs.Io.KnownBytes.{Appends}
use Rattle.text_core.specs.Halves.{halves_text}
use Rattle.text_core.proofs.Known.{OnOk_Appends_then}
use Rattle.follow_core.specs.declared.place.Place.{Place}
use Rattle.follow_core.specs.Place.{place_text}
use Rattle.follow_core.proofs.place.write_place.Goals as goal

place_written : {T E : Type 0} (place : Place) (r : Result T E) (a b c d e f g h : Option (List ℕ)) → Appends a b (decimal place.gate) → Appends b c (58 ∷ [])
    → Appends c d (decimal place.size) → Appends d e (58 ∷ []) → Appends e f (decimal place.changes) → Appends f g (58 ∷ []) → OnOk r (Appends g h (decimal place.folded))
    → OnOk r (Appends a h (place_text place))
place_written place r a b c d e f g h gate first size second changes third folded =
    let end : List ℕ = halves_text (decimal place.changes) (decimal place.folded) in
    OnOk_Appends_then r a b h (decimal place.gate) (58 ∷ halves_text (decimal place.size) end) gate
    (OnOk_Appends_then r b c h (58 ∷ []) (halves_text (decimal place.size) end) first
    (OnOk_Appends_then r c d h (decimal place.size) (58 ∷ end) size
    (OnOk_Appends_then r d e h (58 ∷ []) end second
    (OnOk_Appends_then r e f h (decimal place.changes) (58 ∷ decimal place.folded) changes (OnOk_Appends_then r f g h (58 ∷ []) (decimal place.folded) third folded)))))

pub returns : goal.returns
returns g c =
    place_written c.args.place c.write_number-4.result (g.W.Write.contents c.args.writer.now) (g.W.Write.contents c.write_number.new.writer) (g.W.Write.contents c.write_all.new.self)
    (g.W.Write.contents c.write_number-2.new.writer) (g.W.Write.contents c.write_all-2.new.self) (g.W.Write.contents c.write_number-3.new.writer) (g.W.Write.contents c.write_all-3.new.self)
    (g.W.Write.contents c.write_number-4.new.writer) c.in_ok-write_number.ensures c.in_ok-write_all.ensures.bytes c.in_ok-write_number-2.ensures c.in_ok-write_all-2.ensures.bytes
    c.in_ok-write_number-3.ensures c.in_ok-write_all-3.ensures.bytes c.write_number-4.ensures
