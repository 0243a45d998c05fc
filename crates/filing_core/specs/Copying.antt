-- A file that is copied while it is read beside its writer: what it had, or why that couldn't be read.
use Rattle.std.specs.Prelude.{◌≡◌, ℕ, List}
use Rattle.record_core.specs.Bytes.{Encoding}
use Rattle.segment_core.specs.declared.format.Format.{Format}
use Rattle.segment_core.specs.declared.format.Shape.{Shape}
use Rattle.segment_core.specs.Frame.{Frame}
use Rattle.beside_core.specs.PensFile.{IsPensFile}
use Rattle.beside_core.specs.Since.{MayRefuse}
use Rattle.beside_core.specs.declared.fault.LookFault.{LookFault}
use Rattle.follow_core.specs.Beside.{AreRecordsLeft, WereOnce}

-- The file, where it is a pen's and kept the model, has this version, and had these records at one moment between two: all
-- that stood then is on the device.
abbrev pub HadRecords : {R : Type 0} → Encoding R → Type 0 → (ℕ → List ℕ) → ℕ → ℕ → ℕ → Format → List R → Type 0
HadRecords form kept held from to synced format records =
    kept → (shape : Shape) (frames : ℕ → List Frame) → IsPensFile shape held frames
    → (shape.format ≡ format) × WereOnce frames from to synced (λ at. AreRecordsLeft form at records)

-- why its records couldn't be read
abbrev pub MayBeUnread : {R : Type 0} → Encoding R → Type 0 → (ℕ → List ℕ) → ℕ → ℕ → LookFault → Type 0
MayBeUnread form kept held from to fault =
    kept → (shape : Shape) (frames : ℕ → List Frame) → IsPensFile shape held frames → MayRefuse form shape frames from to fault
