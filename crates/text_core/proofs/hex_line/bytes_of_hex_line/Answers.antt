use Rattle.std.proofs.Common.{inl, inr}
use Rattle.text_core.proofs.HexLines.{no_hex_line}
use Rattle.text_core.proofs.hex_line.bytes_of_hex_line.Goals as goal
use Rattle.text_core.proofs.hex_line.bytes_of_hex_line.Goals.{in-OutOfMemory, in_default}

pub returns-after-fault-clause-refused : goal.returns-after-fault-clause-refused
returns-after-fault-clause-refused c = elim c.match-fault.branch [
  | in-OutOfMemory w ↦ rw w.result-is tt
  | in_default w ↦ rw w.result-is (λ bytes line. elim c.in-Err.ensures.err [
    | inl memory ↦ absurd (w.in_default.not-OutOfMemory memory)
    | inr refused ↦ no_hex_line c.args.input.now c.without_lf.result.now c.in-Err.fault bytes c.without_lf.ensures refused line
  ])
]
