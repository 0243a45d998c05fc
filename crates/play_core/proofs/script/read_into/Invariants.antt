use Rattle.std.proofs.Common.{length}
use Rattle.play_core.specs.Script.{script_of, script_asks}
use Rattle.play_core.proofs.Scripts.{HasAsked}
use Rattle.play_core.proofs.script.read_into.Given as goal

abbrev pub invariant-lines : goal.invariant-lines
invariant-lines g l = HasAsked g.R.TextRecord.spelling l.input (script_asks (script_of l.script)) l.lines l.rest

abbrev pub decreases-lines : goal.decreases-lines
decreases-lines g l = length l.rest
