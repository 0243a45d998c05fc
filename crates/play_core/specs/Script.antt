-- Scripts: what the lines of an input ask for, cut at the crashes.
use Rattle.std.specs.Prelude.{ℕ, List, [], ◌∷◌, ◌++◌, map}
use Rattle.std.specs.List.{flat_map}
use Rattle.disk_core.specs.declared.choice.Choice.{Choice}
use Rattle.drive_core.specs.Step.{Step}
use Rattle.drive_core.specs.Asked.{step_of}
use Rattle.play_core.specs.declared.script.ScriptPart as code
use Rattle.play_core.specs.declared.script.Script as code_script
use Rattle.text_core.specs.Text.{Spelling}
use Rattle.text_core.specs.Lines.{AreLines}
use Rattle.play_core.specs.StepLine.{Asked, Does, Crashes, IsStepLineOf}

-- the steps between two crashes, and the image that the second one leaves
pub record PartOf (R : Type 0) : Type 0 where
  pub steps : List (Step R)
  pub crash : Choice

pub record ScriptOf (R : Type 0) : Type 0 where
  pub parts : List (PartOf R)
  pub last : List (Step R)

module _ {R : Type 0} where
  abbrev pub part_of : code.ScriptPart R → PartOf R
  part_of part = record { steps = map step_of part.steps.items; crash = part.crash }

  abbrev pub script_of : code_script.Script R → ScriptOf R
  script_of script = record { parts = map part_of script.parts.items; last = map step_of script.last.items }

  abbrev pub part_asks : PartOf R → List (Asked R)
  part_asks part = map Does part.steps ++ Crashes part.crash ∷ []

  -- what its lines ask for, in their order
  abbrev pub script_asks : ScriptOf R → List (Asked R)
  script_asks script = flat_map part_asks script.parts ++ map Does script.last

  -- each of these lines asks for one of these, in order
  abbrev pub AreAsked : Spelling R → List (List ℕ) → List (Asked R) → Type 0
  AreAsked spelling [] [] = Unit {0}
  AreAsked spelling [] (asked ∷ more) = ⊥
  AreAsked spelling (line ∷ lines) [] = ⊥
  AreAsked spelling (line ∷ lines) (asked ∷ more) = IsStepLineOf spelling line asked × AreAsked spelling lines more

  -- the input's lines ask for this script
  abbrev pub IsScript : Spelling R → List ℕ → ScriptOf R → Type 0
  IsScript spelling input script = (lines : List (List ℕ)) × AreLines input lines × AreAsked spelling lines (script_asks script)
