-- What was seen of a file that is refused.
use Rattle.std.specs.Prelude.{◌≡◌, ℕ, List, length}
use Rattle.disk_core.specs.Shared.{WereThere}
use Rattle.segment_core.specs.declared.format.Shape.{Shape}
use Rattle.segment_core.specs.Frame.{frame_head_len}
use Rattle.segment_core.specs.Reading.{IsFaulty}
use Rattle.segment_core.specs.Fault.{IsHeaderFault}
use Rattle.beside_core.specs.declared.fault.LookFault.{LookFault}
use Rattle.beside_core.specs.declared.fault.LookFault.TheVariants.{Disk, Scan, NoRecord, TooFar, Memory}

-- nothing that the file says is what is refused
abbrev pub IsNoDamage : LookFault → Type 0
IsNoDamage (Disk fault) = Unit {0}
IsNoDamage (Scan fault) = ⊥
IsNoDamage (NoRecord position) = ⊥
IsNoDamage TooFar = Unit {0}
IsNoDamage Memory = Unit {0}

-- if a frame is, each of these bytes stood there at some moment of the look: the head of a frame at p that has the fault,
-- whatever follows it
abbrev pub HasSeen : Shape → (ℕ → List ℕ) → ℕ → ℕ → ℕ → LookFault → Type 0
HasSeen shape held from to p (Disk fault) = Unit {0}
HasSeen shape held from to p (Scan fault) = (head : List ℕ) × (length head ≡ frame_head_len) × WereThere held from to p head × IsFaulty shape p head fault
HasSeen shape held from to p (NoRecord position) = ⊥
HasSeen shape held from to p TooFar = Unit {0}
HasSeen shape held from to p Memory = Unit {0}

-- if the header is refused, its first bytes stood there, each at some moment, and have the fault
abbrev pub HasSeenHeader : (ℕ → List ℕ) → ℕ → ℕ → LookFault → Type 0
HasSeenHeader held from to (Disk fault) = Unit {0}
HasSeenHeader held from to (Scan fault) = (bytes : List ℕ) × WereThere held from to 0 bytes × IsHeaderFault bytes fault
HasSeenHeader held from to (NoRecord position) = Unit {0}
HasSeenHeader held from to TooFar = Unit {0}
HasSeenHeader held from to Memory = Unit {0}
