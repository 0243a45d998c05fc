use Rattle.std.proofs.Common.{[], ◌∷◌, ◌++◌, map, ap, sym, ◌∙◌}
use Rattle.std.proofs.lemmas.List.{map-append}
use Rattle.std.specs.Global.{Vec}
use Rattle.drive_core.specs.Asked.{step_of}
use Rattle.drive_core.specs.declared.step.Step as code_step
use Rattle.play_core.specs.Script.{part_of, script_of, script_asks}
use Rattle.play_core.specs.StepLine.{asked_of}
use Rattle.play_core.proofs.Scripts.{step_pushed, crash_pushed}
use Rattle.play_core.proofs.script.Script.push.Goals as goal

pub returns-in_ok-push-in-Step : goal.returns-in_ok-push-in-Step
returns-in_ok-push-in-Step g c =
    let parts = map part_of c.args.self.now.parts.items in
    let last = c.args.self.now.last.items in
    ap (λ steps. script_asks (record { parts = parts; last = steps })) (ap (map step_of) c.in_ok-push-in-Step.ensures.items ∙ map-append step_of last (c.in-Step.step ∷ []))
    ∙ step_pushed parts (map step_of last) (step_of c.in-Step.step)
    ∙ ap (λ asked. script_asks (script_of c.args.self.now) ++ asked_of asked ∷ []) (sym c.in-Step.is)

pub returns-in_ok-push-in-Crash : goal.returns-in_ok-push-in-Crash
returns-in_ok-push-in-Crash g c =
    let old = c.args.self.now in
    let crash = c.in-Crash.crash in
    let parts = map part_of old.parts.items in
    let more = ap (map part_of) c.in_ok-push-in-Crash.ensures.items ∙ map-append part_of old.parts.items (record { steps = c.replace-steps.result; crash = crash } ∷ [])
    ∙ ap (λ (steps : Vec (code_step.Step g.row.R.Denot)). parts ++ record { steps = map step_of steps.items; crash = crash } ∷ []) c.replace-steps.ensures.value in
    let none = ap (λ (steps : Vec (code_step.Step g.row.R.Denot)). map step_of steps.items) c.replace-steps.ensures.after ∙ ap (map step_of) c.new.ensures.items in
    (λ i. script_asks (record { parts = more i; last = none i }))
    ∙ crash_pushed parts (map step_of old.last.items) crash
    ∙ ap (λ asked. script_asks (script_of old) ++ asked_of asked ∷ []) (sym c.in-Crash.is)
