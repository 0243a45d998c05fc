use Rattle.std.proofs.Common.{◌≡◌, length, sym, ap, ◌∙◌, arith}
use Rattle.std.proofs.lemmas.List.{length-take, take_rest}
use Rattle.record_core.specs.ByteRecords.{parts64, bytes32}
use Rattle.record_core.proofs.ByteRecords.{both_read}
use Rattle.record_core.proofs.byte_records.Bytes64Record.take.Goals as goal

pub slice_bounds-take-end : goal.slice_bounds-take-end
slice_bounds-take-end c = let long : length c.args.bytes.now ≡ 64 = c.requires in omega (arith, length-take 32 c.args.bytes.now, long)

pub returns : goal.returns
returns c =
    let bytes = c.args.bytes.now in
    both_read parts64 bytes32 bytes32 bytes c.in_ok-front.front c.in_ok-back.back
    (sym c.in_ok-front.was ∙ c.take.ensures)
    (sym c.in_ok-back.was ∙ c.take-2.ensures ∙ ap bytes32.value_of (take_rest bytes 32))
