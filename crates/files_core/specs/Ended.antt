-- How a command over a file ends, and what it writes.
use Rattle.std.specs.Prelude.{ℕ, List, Option}
use Rattle.std.specs.Io.KnownBytes.{Appends, Keeps}
use Rattle.files_core.specs.declared.ended.Ended.{Ended}
use Rattle.files_core.specs.declared.ended.Ended.TheVariants.{Done, OutputFailed, Refused}
use Rattle.files_core.specs.declared.fault.FileFault.{FileFault}

-- what holds where its work is done, and where it was refused
abbrev pub EndsAs : Type 0 → (FileFault → Type 0) → Ended → Type 0
EndsAs done refused Done = done
EndsAs done refused OutputFailed = done
EndsAs done refused (Refused fault) = refused fault

-- What it has written: a whole answer, maybe a part of it, or nothing.
abbrev pub WritesAnswer : Option (List ℕ) → Option (List ℕ) → (List ℕ → Type 0) → Ended → Type 0
WritesAnswer old new IsAnswer Done = (text : List ℕ) × IsAnswer text × Appends old new text
WritesAnswer old new IsAnswer OutputFailed = Unit {0}
WritesAnswer old new IsAnswer (Refused fault) = Keeps old new

-- the same, where the answer is one text
abbrev pub WritesText : Option (List ℕ) → Option (List ℕ) → List ℕ → Ended → Type 0
WritesText old new text Done = Appends old new text
WritesText old new text OutputFailed = Unit {0}
WritesText old new text (Refused fault) = Keeps old new
