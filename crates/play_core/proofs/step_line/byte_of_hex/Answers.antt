use Rattle.std.proofs.Common.{sym}
use Rattle.play_core.proofs.StepLines.{byte_read, no_byte}
use Rattle.play_core.proofs.step_line.byte_of_hex.Goals as goal

pub returns-in-Ok-clause-found : goal.returns-in-Ok-clause-found
returns-in-Ok-clause-found c = byte_read c.args.digits.now c.in-Ok.bytes (sym c.in-Ok.ensures)

pub returns-in-Err-clause-none : goal.returns-in-Err-clause-none
returns-in-Err-clause-none c = no_byte c.args.digits.now c.in-Err.field-0 (sym c.in-Err.ensures)
