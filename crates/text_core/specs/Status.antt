-- The program's exit statuses.
use Rattle.std.specs.Prelude.{ℕ}
use Rattle.text_core.specs.declared.status.Status.{Status}
use Rattle.text_core.specs.declared.status.Status.TheVariants.{Done, Refused, OutputFailed, Usage}

abbrev pub exit_code : Status → ℕ
exit_code Done = 0
exit_code Refused = 1
exit_code OutputFailed = 1
exit_code Usage = 2
