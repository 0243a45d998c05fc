-- What committing makes of a flusher.
use Rattle.std.specs.Prelude.{◌≡◌, ◌⊎◌, ℕ, ◌≤◌, List}
use Rattle.record_core.specs.Bytes.{Encoding}
use Rattle.disk_core.specs.State.{State, now}
use Rattle.disk_core.specs.Moments.{clock, states_at, LeavesOnly}
use Rattle.book_core.specs.declared.mark.Raise.{Raise}
use Rattle.book_core.specs.Marks.{IsRaiseOf}
use Rattle.pen_core.specs.declared.fault.PenFault.TheVariants as faults
use Rattle.flush_core.specs.declared.fault.FlushFault.{FlushFault}
use Rattle.flush_core.specs.declared.fault.FlushFault.TheVariants.{Pen, Strayed}
use Rattle.flush_core.specs.Flusher.{FlusherOf, FlusherGoesOn, OpensToFirst}
use Rattle.relay_core.specs.declared.call.Call.{Call}
use Rattle.relay_core.specs.Making.{HasMade, IsFollowed}

-- Nobody is told anything. It is of the same phase, and knows, has taken and has settled no less. Whatever a crash leaves of its
-- disk meanwhile opens to the records from before the phase and the first growths, those that were settled among them.
pub record GoesOn {R D : Type 0} (form : Encoding R) (keeps : D → Type 0) (states : D → List State) (old new : FlusherOf R D) : Type 0 where
  pub told : new.mark ≡ old.mark
  pub model : keeps new.pen.disk → keeps old.pen.disk
  pub goes_on : FlusherGoesOn (keeps new.pen.disk) old new
  pub time : clock (states old.pen.disk) ≤ clock (states new.pen.disk)
  pub images : keeps new.pen.disk → LeavesOnly (states old.pen.disk) (states new.pen.disk) (OpensToFirst form old.settled new)

-- a call of the file has failed, now or before
abbrev pub IsCallFault : FlushFault → Type 0
IsCallFault (Pen faults.Broken) = Unit {0}
IsCallFault (Pen (faults.Disk cause)) = Unit {0}
IsCallFault (Pen other) = ⊥
IsCallFault (Strayed number) = ⊥

-- Why no calls were planned: then nothing more was taken, but where a call has failed.
abbrev pub IsUnplanned : {R D : Type 0} → FlushFault → FlusherOf R D → FlusherOf R D → Type 0
IsUnplanned fault old new = (new.taken ≡ old.taken) ⊎ IsCallFault fault

-- The host's file stands as the disk stood at that moment, and the host makes these calls of it. Whatever a crash leaves of the
-- file, at any moment meanwhile, opens to the records from before the phase and the first growths, this many of them at least.
abbrev pub HostOpens : {R D : Type 0} → Encoding R → List State → ℕ → List Call → ℕ → FlusherOf R D → Type 0
HostOpens form states made calls count f =
    (old new : List State) → now old ≡ now (states_at made states) → HasMade calls old new → LeavesOnly old new (OpensToFirst form count f)

-- so for each raise, with as many as it told: what the mark told stands
abbrev pub HostIsTold : {R D : Type 0} → Encoding R → List State → ℕ → List Call → FlusherOf R D → Type 0
HostIsTold form states made calls f = (raise : Raise) → IsRaiseOf f.mark.raises raise → HostOpens form states made calls raise.count f

-- so for a commit, before which the host had made all calls, with as many as were settled then, whether anybody was told or not
abbrev pub HostCommits : {R D : Type 0} → Encoding R → List State → List State → ℕ → FlusherOf R D → FlusherOf R D → Type 0
HostCommits form before states made old new =
    made ≡ clock before → (calls : List Call) → IsFollowed states made calls → HostOpens form states made calls old.settled new
