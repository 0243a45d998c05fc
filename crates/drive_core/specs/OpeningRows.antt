-- The rows where none is open. What is said of the bytes holds where the disk keeps its model.
use Rattle.std.specs.Prelude.{◌≡◌, ℕ, ◌-◌, false, List, [], ◌∷◌, length, Option, Some, None}
use Rattle.record_core.specs.Bytes.{Encoding}
use Rattle.disk_core.specs.State.{State}
use Rattle.disk_core.specs.Calls.{bytes_of}
use Rattle.disk_core.specs.Moments.{clock}
use Rattle.segment_core.specs.declared.format.Format.{Format}
use Rattle.segment_core.specs.declared.format.Shape.{Shape}
use Rattle.segment_core.specs.Shape.{shape_of}
use Rattle.segment_core.specs.Frame.{Frame}
use Rattle.segment_core.specs.Tally.{tally_of}
use Rattle.segment_core.specs.Vector.{HasVector}
use Rattle.segment_core.specs.Fault.{IsRefused}
use Rattle.pen_core.specs.Held.{gate_of}
use Rattle.pen_core.specs.Opening.{OnlySyncs, AreCallsDone, AreCallsMade}
use Rattle.pen_core.specs.Births.{IsExisting, StaysUnbornOrEmpty, WritesNothing, AreCallsUntil, calls_of_creation}
use Rattle.pen_core.specs.declared.fault.OpenFault.{OpenFault}
use Rattle.pen_core.specs.declared.fault.OpenFault.TheVariants as openings
use Rattle.pen_core.specs.declared.fault.PenFault.{PenFault}
use Rattle.pen_core.specs.declared.fault.PenFault.TheVariants as pen_fault
use Rattle.drive_core.specs.declared.fault.StepFault.{StepFault}
use Rattle.drive_core.specs.declared.fault.StepFault.TheVariants.{Vault, Grow as InGrow, Scan}
use Rattle.vault_core.specs.declared.fault.VaultFault.TheVariants as vault
use Rattle.drive_core.specs.Line.{Might, is_vault_memory, is_disk, is_exists, is_scan}
use Rattle.drive_core.specs.Step.{Step, Answer}
use Rattle.drive_core.specs.Step as step
use Rattle.drive_core.specs.World.{World, Exclusive, File, Hand}
use Rattle.drive_core.specs.Outcome.{Outcome, HasFailedCall, elsewhere}

-- with nothing in hand
abbrev pub at_rest : File → Hand
at_rest file = record { file = file; job = None; fold = None; broken = false }

abbrev pub empty_file : Shape → File
empty_file shape = record { shape = shape; gate = 11; changes = 0; folded = 0 }

-- how many device calls a creation has made that ended so
abbrev pub AreCallsOfMaking : List ℕ → Option PenFault → ℕ → Type 0
AreCallsOfMaking bytes None n = n ≡ length (calls_of_creation bytes)
AreCallsOfMaking bytes (Some fault) n = AreCallsUntil bytes (calls_of_creation bytes) fault n

-- What a creation leaves. Where there was a file nothing is written; else, from the first sync on that succeeded, each
-- image is no file yet or the empty one.
pub record IsMaking (shape : Shape) (ended : Option PenFault) (old new : List State) : Type 0 where
  pub existed : IsExisting (bytes_of old) → WritesNothing old new
  pub born : StaysUnbornOrEmpty shape old new
  pub calls : AreCallsOfMaking (bytes_of old) ended (clock new - clock old)

-- how many device calls an opening has made that ended so, of so many bytes
abbrev pub AreCallsOfOpening : ℕ → Option OpenFault → ℕ → Type 0
AreCallsOfOpening len None n = AreCallsDone len n
AreCallsOfOpening len (Some fault) n = AreCallsMade len fault n

-- What an opening leaves: nothing is written, and a crash within it leaves what it might have left before.
pub record IsOpening (ended : Option OpenFault) (old new : List State) : Type 0 where
  pub syncs : OnlySyncs old new
  pub calls : AreCallsOfOpening (length (bytes_of old)) ended (clock new - clock old)

module _ {R : Type 0} where
  abbrev pub HasTriedToMake : Type 0 → Shape → Option PenFault → World R → World R → Type 0
  HasTriedToMake keeps shape ended w w' = keeps → IsMaking shape ended w.disk.states w'.disk.states

  abbrev pub NotCreated : Type 0 → Shape → World R → World R → StepFault → Type 0
  NotCreated keeps shape w w' (Vault (vault.Pen (pen_fault.Disk fault))) = HasFailedCall w w' × HasTriedToMake keeps shape (Some (pen_fault.Disk fault)) w w' × (w' ≡ elsewhere w w')
  NotCreated keeps shape w w' (Vault (vault.Pen pen_fault.Exists)) = (keeps → IsExisting (bytes_of w.disk.states)) × HasTriedToMake keeps shape (Some pen_fault.Exists) w w' × (w' ≡ elsewhere w w')
  NotCreated keeps shape w w' (Vault other) = w' ≡ w
  NotCreated keeps shape w w' (InGrow fault) = ⊥
  NotCreated keeps shape w w' (Scan fault) = ⊥

  abbrev pub with_opened : World R → List R → File → World R
  with_opened w base file = record w { phase = Exclusive; base = base; history = []; settled = 0; hand = at_rest file }

module _ {R : Type 0} (form : Encoding R) where
  abbrev pub IsCreate : Type 0 → World R → Format → Answer R → World R → Type 0
  IsCreate keeps w format answer w' = Outcome (Might is_vault_memory ∷ Might is_disk ∷ Might is_exists ∷ []) answer
      ((answer ≡ step.Fine) × (keeps → IsExisting (bytes_of w.disk.states) → ⊥) × HasTriedToMake keeps (shape_of format form) None w w' × (w' ≡ elsewhere (with_opened w [] (empty_file (shape_of format form))) w'))
      (NotCreated keeps (shape_of format form) w w')

  -- the vector of these bytes, and what a pen counts of them
  pub record HasReadFile (bytes : List ℕ) (base : List R) (file : File) : Type 0 where
    pub format : Format
    pub frames : List Frame
    pub vector : HasVector format form bytes frames base
    pub file_is : file ≡ record { shape = shape_of format form; gate = gate_of (shape_of format form) frames; changes = (tally_of frames).changes; folded = (tally_of frames).folded }

  abbrev pub HasTriedToOpen : Type 0 → Option OpenFault → World R → World R → Type 0
  HasTriedToOpen keeps ended w w' = keeps → IsOpening ended w.disk.states w'.disk.states

  abbrev pub NotOpened : Type 0 → World R → World R → StepFault → Type 0
  NotOpened keeps w w' (Vault (vault.Pen (pen_fault.Disk fault))) = HasFailedCall w w' × HasTriedToOpen keeps (Some (openings.Disk fault)) w w' × (w' ≡ elsewhere w w')
  NotOpened keeps w w' (Vault other) = ⊥
  NotOpened keeps w w' (InGrow fault) = ⊥
  NotOpened keeps w w' (Scan fault) = (keeps → IsRefused form (bytes_of w.disk.states) fault) × HasTriedToOpen keeps (Some (openings.Scan fault)) w w' × (w' ≡ elsewhere w w')

  abbrev pub IsOpen : Type 0 → World R → Answer R → World R → Type 0
  IsOpen keeps w answer w' = Outcome (Might is_disk ∷ Might is_scan ∷ []) answer
      ((base : List R) × (file : File) × (answer ≡ step.Size (length base)) × (keeps → HasReadFile (bytes_of w.disk.states) base file)
      × HasTriedToOpen keeps None w w' × (w' ≡ elsewhere (with_opened w base file) w'))
      (NotOpened keeps w w')
