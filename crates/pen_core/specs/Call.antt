-- A call of the disk that a tick makes.
use Rattle.std.specs.Prelude.{ℕ, List, length, Bool, true, false, Option, Some, None}
use Rattle.disk_core.specs.State.{State}
use Rattle.disk_core.specs.Calls.{Stays, Writes, TearsWrite, Settles}
use Rattle.disk_core.specs.declared.fault.DiskFault.{DiskFault}
use Rattle.disk_core.specs.declared.fault.DiskFault.TheVariants as causes

pub data Call : Type 0 where
  -- these bytes, from a place on
  Write : ℕ → List ℕ → Call
  Sync : Call

-- what it makes of the disk where it succeeds
abbrev pub Makes : Call → List State → List State → Type 0
Makes (Write at bytes) old new = Writes at bytes old new
Makes Sync old new = Settles old new

-- and where it fails
abbrev pub Fails : Call → List State → List State → Type 0
Fails (Write at bytes) old new = TearsWrite at (length bytes) old new
Fails Sync old new = Stays old new

-- the fault that it then answers
abbrev pub cause_of : Call → DiskFault
cause_of (Write at bytes) = causes.Write
cause_of Sync = causes.Sync

-- how many calls a tick makes where this one is due; a pen that is broken makes none
abbrev pub count_due : Bool → Option Call → ℕ
count_due true call = 0
count_due false None = 0
count_due false (Some call) = 1
