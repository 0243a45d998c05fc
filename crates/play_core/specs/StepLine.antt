-- Lines of scripts: a verb and its words, with a space between each two.
use Rattle.std.specs.Prelude.{◌≡◌, ◌⊎◌, ℕ, ◌<◌, ◌^◌, List, [], ◌∷◌, Some, None, Ok, codes, decimal}
use Rattle.hex.specs.Hex.{decode_of}
use Rattle.disk_core.specs.declared.choice.Choice.{Choice}
use Rattle.disk_core.specs.declared.choice.ImageLength.TheVariants as lengths
use Rattle.disk_core.specs.declared.choice.PendingBytes.TheVariants as bytes
use Rattle.segment_core.specs.declared.format.Format.TheVariants.{One, Two}
use Rattle.drive_core.specs.Step.{Step, Create, Open, Share, Put, Look, View, Settled, Take, Raise, Close, Gather, Change, Changes, Resize, Clear, Listing, Fold, Log, Home}
use Rattle.drive_core.specs.Asked.{step_of}
use Rattle.play_core.specs.declared.asked.Asked as code
use Rattle.play_core.specs.declared.asked.Asked.TheVariants as asks
use Rattle.play_core.specs.declared.verb.Verb.{Verb}
use Rattle.play_core.specs.declared.verb.Verb.TheVariants as verbs
use Rattle.text_core.specs.Text.{Spelling}
use Rattle.play_core.specs.LineWords.{words_of}
use Rattle.play_core.specs.LineRuns.{IsLineRun, AreLineRuns, run_words, runs_words}
use Rattle.play_core.specs.Verbs.{verb_word}

-- what a line asks for: a step, or a crash that leaves this image
pub data Asked (R : Type 0) : Type 0 where
  Does : Step R → Asked R
  Crashes : Choice → Asked R

abbrev pub asked_of : {R : Type 0} → code.Asked R → Asked R
asked_of (asks.Step step) = Does (step_of step)
asked_of (asks.Crash choice) = Crashes choice

-- ---- the images that a crash may leave

abbrev pub old_image : Choice
old_image = record { length = lengths.Old; pending = bytes.Old }

abbrev pub new_image : Choice
new_image = record { length = lengths.Greatest; pending = bytes.New }

abbrev pub filled_image : ℕ → Choice
filled_image byte = record { length = lengths.Greatest; pending = bytes.Fill byte }

-- `old`, `new`, or a byte in hex
abbrev pub IsCrash : List ℕ → Choice → Type 0
IsCrash word choice =
    ((word ≡ codes "old") × (choice ≡ old_image))
    ⊎ (((word ≡ codes "new") × (choice ≡ new_image))
    ⊎ ((byte : ℕ) × (decode_of word ≡ Ok (byte ∷ [])) × (choice ≡ filled_image byte)))

-- ---- the words of each verb

module _ {R : Type 0} where
  abbrev pub Alone : List (List ℕ) → Asked R → Step R → Type 0
  Alone words asked step = (words ≡ []) × (asked ≡ Does step)

  -- a number of 64 bits
  abbrev pub WithNumber : List (List ℕ) → Asked R → (ℕ → Step R) → Type 0
  WithNumber words asked step = (n : ℕ) × (n < 2 ^ 64) × (words ≡ decimal n ∷ []) × (asked ≡ Does (step n))

  -- a number and records
  abbrev pub WithRun : Spelling R → List (List ℕ) → Asked R → (ℕ → List R → Step R) → Type 0
  WithRun spelling words asked step = (run : ℕ × List R) × IsLineRun spelling run × (words ≡ run_words spelling.text_of run) × (asked ≡ Does (step run.0 run.1))

  -- what a verb asks for with these words
  abbrev pub Asks : Spelling R → Verb → List (List ℕ) → Asked R → Type 0
  Asks spelling verbs.Create words asked = Alone words asked (Create One) ⊎ ((words ≡ codes "2" ∷ []) × (asked ≡ Does (Create Two)))
  Asks spelling verbs.Open words asked = Alone words asked Open
  Asks spelling verbs.Share words asked = (room : ℕ) × (seats : ℕ) × (room < 2 ^ 64) × (seats < 2 ^ 64) × (words ≡ decimal room ∷ decimal seats ∷ []) × (asked ≡ Does (Share room seats))
  Asks spelling verbs.Put words asked = WithRun spelling words asked Put
  Asks spelling verbs.Look words asked = WithNumber words asked (λ seat. Look (Some seat)) ⊎ ((words ≡ codes "f" ∷ []) × (asked ≡ Does (Look None)))
  Asks spelling verbs.View words asked = WithNumber words asked View
  Asks spelling verbs.Settled words asked = WithNumber words asked Settled
  Asks spelling verbs.Take words asked = Alone words asked Take
  Asks spelling verbs.Raise words asked = Alone words asked Raise
  Asks spelling verbs.Close words asked = Alone words asked Close
  Asks spelling verbs.Gather words asked = Alone words asked Gather
  Asks spelling verbs.Change words asked = WithRun spelling words asked Change
  Asks spelling verbs.Changes words asked = (runs : List (ℕ × List R)) × AreLineRuns spelling runs × (words ≡ runs_words spelling.text_of runs) × (asked ≡ Does (Changes runs))
  Asks spelling verbs.Resize words asked = (size : ℕ) × (r : R) × (size < 2 ^ 64) × spelling.is_value r × (words ≡ decimal size ∷ spelling.text_of r ∷ []) × (asked ≡ Does (Resize size r))
  Asks spelling verbs.Clear words asked = Alone words asked Clear
  Asks spelling verbs.List words asked = Alone words asked Listing
  Asks spelling verbs.Fold words asked = Alone words asked Fold
  Asks spelling verbs.Log words asked = Alone words asked Log
  Asks spelling verbs.Home words asked = Alone words asked Home
  Asks spelling verbs.Crash words asked = (word : List ℕ) × (choice : Choice) × (words ≡ word ∷ []) × IsCrash word choice × (asked ≡ Crashes choice)

  abbrev pub AsksNothing : Spelling R → Verb → List (List ℕ) → Type 0
  AsksNothing spelling verb words = (asked : Asked R) → Asks spelling verb words asked → ⊥

  -- ---- lines

  -- the line asks for this
  pub record IsStepLineOf (spelling : Spelling R) (line : List ℕ) (asked : Asked R) : Type 0 where
    pub verb : Verb
    pub words : List (List ℕ)
    pub parts : words_of line ≡ verb_word verb ∷ words
    pub asks : Asks spelling verb words asked

  abbrev pub IsStepLine : Spelling R → List ℕ → Type 0
  IsStepLine spelling line = (asked : Asked R) × IsStepLineOf spelling line asked
