-- What is written for a script: each part is one run, on the disk as the crash before it left it.
use Rattle.std.specs.Prelude.{◌≡◌, ℕ, List, [], ◌∷◌, ◌++◌, length}
use Rattle.record_core.specs.Bytes.{Encoding}
use Rattle.disk_core.specs.declared.ram.RamDisk.{RamDisk}
use Rattle.disk_core.specs.RamDisk.{states_of, faults_of}
use Rattle.disk_core.specs.State.{now, settled}
use Rattle.disk_core.specs.Choice.{IsChosen}
use Rattle.drive_core.specs.Step.{Step, Answer}
use Rattle.drive_core.specs.World.{DiskOf}
use Rattle.drive_core.specs.Drive.{IsDriven}
use Rattle.play_core.specs.Answers.{answer_lines, crashed_line}
use Rattle.play_core.specs.Script.{PartOf, ScriptOf}

abbrev pub ram_disk : RamDisk → DiskOf
ram_disk disk = record { states = states_of disk; faults = faults_of disk }

-- a disk with these bytes, all of them synced
abbrev pub fresh_disk : List ℕ → DiskOf
fresh_disk bytes = record { states = settled bytes ∷ []; faults = 0 }

module _ {R : Type 0} (form : Encoding R) (text_of : R → List ℕ) where
  -- one line for each answer of a run of the steps, which begins with nothing open
  pub record AreStepsPlayed (old : DiskOf) (steps : List (Step R)) (new : DiskOf) (text : List ℕ) : Type 0 where
    pub answers : List (Answer R)
    pub calls : List ℕ
    pub run : IsDriven form (Unit {0}) old steps answers calls new
    pub lines : text ≡ answer_lines text_of answers

  -- the same, and a line for the crash behind them, which leaves this image
  pub record IsPartPlayed (old : DiskOf) (part : PartOf R) (image text : List ℕ) : Type 0 where
    pub left : DiskOf
    pub own : List ℕ
    pub steps : AreStepsPlayed old part.steps left own
    pub chosen : IsChosen part.crash (now left.states) image
    pub lines : text ≡ own ++ crashed_line (length image)

  -- parts, the first from a disk with these bytes on, and steps behind them
  abbrev pub ArePartsPlayed : List ℕ → List (PartOf R) → List (Step R) → List ℕ → Type 0
  ArePartsPlayed bytes [] last text = (left : DiskOf) × AreStepsPlayed (fresh_disk bytes) last left text
  ArePartsPlayed bytes (part ∷ parts) last text =
      (image : List ℕ) × (own : List ℕ) × (rest : List ℕ) × IsPartPlayed (fresh_disk bytes) part image own × ArePartsPlayed image parts last rest × (text ≡ own ++ rest)

  -- from an empty disk on
  abbrev pub IsScriptPlayed : ScriptOf R → List ℕ → Type 0
  IsScriptPlayed script text = ArePartsPlayed [] script.parts script.last text
