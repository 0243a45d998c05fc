use Rattle.std.proofs.Common.{sym, ap, ◌∙◌}
use Rattle.std.specs.Int.{w64}
use Rattle.std.proofs.lemmas.List.{take_rest}
use Rattle.record_core.specs.Bytes.{unsigned}
use Rattle.record_core.specs.ByteRecords.{parts24, bytes16}
use Rattle.record_core.proofs.ByteRecords.{both_read}
use Rattle.record_core.proofs.byte_records.Bytes24Record.take.Goals as goal

pub returns : goal.returns
returns c =
    let bytes = c.args.bytes.now in
    both_read parts24 bytes16 (unsigned w64) bytes c.in_ok-front.front c.in_ok-back.back
    (sym c.in_ok-front.was ∙ c.take.ensures)
    (sym c.in_ok-back.was ∙ c.take-2.ensures ∙ ap (unsigned w64).value_of (take_rest bytes 16))
