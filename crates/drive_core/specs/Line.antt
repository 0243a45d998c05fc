-- Refusals in their order: a table, of which the first line that holds is the answer.
use Rattle.std.specs.Prelude.{◌≡◌, ◌⊎◌, ℕ, Bool, true, false, List, [], ◌∷◌, ◌++◌, map, Option, Some, None}
use Rattle.pen_core.specs.declared.fault.PenFault.{PenFault}
use Rattle.flush_core.specs.declared.fault.FlushFault.{FlushFault}
use Rattle.flush_core.specs.declared.fault.FlushFault.TheVariants as flush
use Rattle.pen_core.specs.declared.fault.PenFault.TheVariants as pen_fault
use Rattle.pen_core.specs.declared.fault.OpenFault.{OpenFault}
use Rattle.pen_core.specs.declared.fault.OpenFault.TheVariants as openings
use Rattle.drive_core.specs.declared.fault.StepFault.{StepFault}
use Rattle.drive_core.specs.declared.fault.StepFault.TheVariants.{Vault, Grow, Scan}
use Rattle.vault_core.specs.declared.fault.VaultFault.TheVariants as vault
use Rattle.block_core.specs.declared.fault.FreshFault.{FreshFault}
use Rattle.block_core.specs.declared.fault.FreshFault.TheVariants as fresh
use Rattle.book_core.specs.declared.fault.GrowFault.{GrowFault}
use Rattle.book_core.specs.declared.fault.GrowFault.TheVariants as grow

pub data Line : Type 0 where
  -- is answered where the test holds and no line before it was
  When : Bool → StepFault → Line
  -- each of these faults may be answered here, whatever holds: what the machine refuses, and no rule
  Might : (StepFault → Bool) → Line

-- The lines allow this fault, or, by None, that the step is accepted.
abbrev pub Allows : List Line → Option StepFault → Type 0
Allows [] answer = answer ≡ None
Allows (When true fault ∷ lines) answer = answer ≡ Some fault
Allows (When false fault ∷ lines) answer = Allows lines answer
Allows (Might kind ∷ lines) answer = ((fault : StepFault) × (answer ≡ Some fault) × (kind fault ≡ true)) ⊎ Allows lines answer

-- ---- the pen's tables

-- the flusher's fault as it is answered
abbrev pub of_flush : FlushFault → StepFault
of_flush (flush.Pen fault) = Vault (vault.Pen fault)
of_flush (flush.Strayed n) = Grow (grow.Strayed n)

-- why a file isn't opened, as it is answered
abbrev pub of_open : OpenFault → StepFault
of_open (openings.Scan fault) = Scan fault
of_open (openings.Disk fault) = Vault (vault.Pen (pen_fault.Disk fault))

-- the block's fault as the book's
abbrev pub of_block : FreshFault → GrowFault
of_block fresh.Empty = grow.Empty
of_block fresh.TooLarge = grow.TooLarge
of_block fresh.Memory = grow.Memory

-- a put that the book refused: of a seat that knew all, or something strayed
abbrev pub put_fault_of : GrowFault → Bool → ℕ → GrowFault
put_fault_of grow.Closed all puts = grow.Strayed puts
put_fault_of (grow.Strayed n) all puts = grow.Strayed n
put_fault_of fault true puts = fault
put_fault_of fault false puts = grow.Strayed puts

-- the number of a growth that a look found astray
abbrev pub look_fault_of : GrowFault → ℕ → ℕ
look_fault_of (grow.Strayed n) puts = n
look_fault_of other puts = puts

abbrev pub as_line : Bool × PenFault → Line
as_line line = When line.0 (Vault (vault.Pen line.1))

-- a table of the pen's, and what may come behind it
abbrev pub pen_table : List (Bool × PenFault) → List Line → List Line
pen_table lines behind = map as_line lines ++ behind

-- ---- the faults that no rule makes come

abbrev pub is_grow_memory : StepFault → Bool
is_grow_memory (Grow grow.Memory) = true
is_grow_memory (Grow other) = false
is_grow_memory (Vault other) = false
is_grow_memory (Scan other) = false

abbrev pub is_vault_memory : StepFault → Bool
is_vault_memory (Vault (vault.Pen pen_fault.Memory)) = true
is_vault_memory (Vault other) = false
is_vault_memory (Grow other) = false
is_vault_memory (Scan other) = false

abbrev pub is_strayed : StepFault → Bool
is_strayed (Grow (grow.Strayed n)) = true
is_strayed (Grow other) = false
is_strayed (Vault other) = false
is_strayed (Scan other) = false

abbrev pub is_disk : StepFault → Bool
is_disk (Vault (vault.Pen (pen_fault.Disk fault))) = true
is_disk (Vault other) = false
is_disk (Grow other) = false
is_disk (Scan other) = false

abbrev pub is_exists : StepFault → Bool
is_exists (Vault (vault.Pen pen_fault.Exists)) = true
is_exists (Vault other) = false
is_exists (Grow other) = false
is_exists (Scan other) = false

abbrev pub is_scan : StepFault → Bool
is_scan (Scan fault) = true
is_scan (Vault other) = false
is_scan (Grow other) = false

-- the number of a growth that no step made
abbrev pub stray_of : StepFault → Option ℕ
stray_of (Grow (grow.Strayed n)) = Some n
stray_of (Grow other) = None
stray_of (Vault other) = None
stray_of (Scan other) = None
