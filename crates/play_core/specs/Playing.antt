-- What `play` writes for an input, where a reader and a writer tell their bytes.
use Rattle.std.specs.Prelude.{ℕ, ◌<◌, ◌≤◌, List, length, Option, ◌⊎◌}
use Rattle.std.specs.Io.KnownBytes.{Appends}
use Rattle.record_core.specs.Bytes.{Encoding}
use Rattle.text_core.specs.declared.refusal.Refusal.{Refusal}
use Rattle.text_core.specs.declared.refusal.Refusal.TheVariants as refusals
use Rattle.text_core.specs.declared.status.Status.{Status}
use Rattle.text_core.specs.declared.status.Status.TheVariants.{Done, Refused, OutputFailed, Usage}
use Rattle.text_core.specs.Lines.{IsFirstBadLine}
use Rattle.text_core.specs.Text.{Spelling}
use Rattle.text_core.specs.Refusals.{refusal_line, input_limit, IsInputRefusal}
use Rattle.play_core.specs.StepLine.{IsStepLine}
use Rattle.play_core.specs.Script.{ScriptOf, IsScript}
use Rattle.play_core.specs.Played.{IsScriptPlayed}

-- an input of lines of steps was refused
abbrev pub IsPlayRefusal : {R : Type 0} → Spelling R → List ℕ → Refusal → Type 0
IsPlayRefusal spelling input (refusals.Line n) = IsFirstBadLine (IsStepLine spelling) input n
IsPlayRefusal spelling input refusals.InputTooLong = input_limit < length input
IsPlayRefusal spelling input refusals.Input = Unit {0}
IsPlayRefusal spelling input refusals.Memory = Unit {0}
IsPlayRefusal spelling input (refusals.TooLargeAtLine n) = ⊥
IsPlayRefusal spelling input refusals.NotHex = ⊥

-- the input's lines ask for a script, and this is what is written for it
abbrev pub ArePlayed : {R : Type 0} → Encoding R → Spelling R → List ℕ → List ℕ → Type 0
ArePlayed {R} form spelling input text = (script : ScriptOf R) × IsScript spelling input script × IsScriptPlayed form spelling.text_of script text

-- that text, of an input within the bound
abbrev pub WritesPlay : {R : Type 0} → Encoding R → Spelling R → List ℕ → Option (List ℕ) → Option (List ℕ) → Type 0
WritesPlay form spelling input old new =
    (text : List ℕ) × ArePlayed form spelling input text × (length input ≤ input_limit) × Appends old new text

abbrev pub WritesPlayRefusal : {R : Type 0} → Spelling R → List ℕ → Option (List ℕ) → Option (List ℕ) → Type 0
WritesPlayRefusal spelling input old new =
    (refusal : Refusal) × IsPlayRefusal spelling input refusal × (IsInputRefusal input refusal ⊎ (length input ≤ input_limit)) × Appends old new (refusal_line refusal)

-- how a play engine may end, and what it has written then
abbrev pub IsPlayRun : {R : Type 0} → Encoding R → Spelling R → List ℕ → Option (List ℕ) → Option (List ℕ) → Status → Type 0
IsPlayRun form spelling input old new Done = WritesPlay form spelling input old new
IsPlayRun form spelling input old new Refused = WritesPlayRefusal spelling input old new
IsPlayRun form spelling input old new OutputFailed = Unit {0}
IsPlayRun form spelling input old new Usage = ⊥
