use Rattle.std.proofs.Common.{◌≡◌, List, ℕ, [], ◌++◌, refl, sym, ap, ◌∙◌, append_assoc}
use Rattle.std.proofs.lemmas.List.{take-append-drop}
use Rattle.hex.specs.Hex.{encode_lower}
use Rattle.text_core.proofs.Known.{Appends_none, Appends_then, Appends_as}
use Rattle.text_core.proofs.HexLines.{encode_lower-append, encode_lower-nil}
use Rattle.text_core.proofs.hex_line.write_hex_line.Goals as goal

pub loop-rest-init : goal.loop-rest-init
loop-rest-init g c = ([], refl, Appends_as _ _ [] (encode_lower []) (sym encode_lower-nil) (Appends_none (g.W.Write.contents c.args.writer.now)))

pub loop-rest-preserved : goal.loop-rest-preserved
loop-rest-preserved g c =
    let so_far = c.loop-rest.invariant in
    let piece = c.split_at.result.0.now in
    let rest : piece ++ c.split_at.result.1.now ≡ c.loop-rest.rest.now = rw (c.split_at.ensures.front, c.split_at.ensures.back) (take-append-drop c.min.result c.loop-rest.rest.now) in (
      so_far.0 ++ piece,
      so_far.1 ∙ ap (λ (bs : List ℕ). so_far.0 ++ bs) (sym rest) ∙ sym (append_assoc so_far.0 piece c.split_at.result.1.now),
      Appends_as _ _ _ _ (sym (encode_lower-append so_far.0 piece)) (Appends_then _ _ _ (encode_lower so_far.0) (encode_lower piece) so_far.2 c.in_ok-write_hex.ensures),
    )
