use Rattle.std.proofs.Common.{drop, refl, arith}
use Rattle.std.proofs.lemmas.List.{length-drop}
use Rattle.record_core.proofs.Cells.{set_alone}
use Rattle.record_core.proofs.key_flag.FlaggedRecord.put.Goals as goal

pub returns-clause-bytes : goal.returns-clause-bytes
returns-clause-bytes c =
    let last = set_alone (drop 8 c.args.out.now) c.from.result (omega (arith, length-drop 8 c.args.out.now)) in
    rw (c.put.ensures.bytes, last, c.from.ensures) refl
