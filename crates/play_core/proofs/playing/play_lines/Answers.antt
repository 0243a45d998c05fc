use Rattle.play_core.specs.Script.{script_of}
use Rattle.text_core.proofs.Small.{IfOk_weaker}
use Rattle.play_core.proofs.playing.play_lines.Goals as goal

pub returns-clause-played : goal.returns-clause-played
returns-clause-played g c = IfOk_weaker c.play_script.result _ _ (λ text so. (script_of c.in_ok-script.script, c.in_ok-script.ensures.read, so)) c.play_script.ensures.played
