-- How a phase ends whose ends but one are closed.
use Rattle.std.specs.Prelude.{◌≡◌, ℕ, ◌<◌, List, ◌++◌, length, true, false}
use Rattle.disk_core.specs.State.{now, IsImage}
use Rattle.std.specs.declared.cmp.PartialEq as PartialEq
use Rattle.record_core.specs.declared.record.Record as Record
use Rattle.disk_core.specs.declared.disk.Disk.{Ghosts}
use Rattle.pen_core.specs.Typed.{OpensTo}
use Rattle.directory_core.specs.Chain.{grown_records}
use Rattle.directory_core.specs.Known.{KnowsAll}
use Rattle.book_core.specs.Lists.{opening_of}
use Rattle.flush_core.specs.Flusher.{FlusherOf, IsFlusherOf, FlusherLearns}
use Rattle.relay_core.specs.declared.relay_disk.RelayDisk.{RelayDisk}
use Rattle.phase_core.specs.declared.ending.GatherFault.{GatherFault}
use Rattle.phase_core.specs.declared.ending.GatherFault.TheVariants.{Shared, Broken, Strayed, Unsettled, Memory}
use Rattle.phase_core.specs.declared.committer.Committer.{Committer}
use Rattle.phase_core.specs.declared.host_vault.HostVault.{HostVault}
use Rattle.phase_core.specs.Committer.{phase_of}
use Rattle.phase_core.specs.HostVault.{list_of, disk_of}

-- It knows all growths of its phase, and all are settled.
pub record HasEnded {R D : Type 0} (f : FlusherOf R D) : Type 0 where
  pub known : KnowsAll f.pass
  pub settled : f.settled ≡ length f.pass.entries
  pub whole : f.pen.broken ≡ false

-- why a phase isn't ended, in the order in which it is tested
abbrev pub IsGatherFault : {R D : Type 0} → GatherFault → FlusherOf R D → FlusherOf R D → Type 0
IsGatherFault Shared old new = Unit {0}
IsGatherFault Broken old new = old.pen.broken ≡ true
IsGatherFault Strayed old new = new.pass.strayed ≡ true
IsGatherFault (Unsettled number) old new = (number ≡ new.settled) × (number < length new.pass.entries)
IsGatherFault Memory old new = HasEnded new

module _ {R D : Type 0} {record_of : Record.Ghosts R} {eq_of : PartialEq.Ghosts R} {disk : Ghosts D} where
  -- The phase has ended, and all that it had is in the vault: its list is that from before the phase, and behind it all growths.
  -- Whatever a crash leaves of the file as it is to be opens to that list.
  pub record Gathers (old : Committer R D record_of eq_of disk) (new : HostVault R D disk) : Type 0 where
    pub flusher : FlusherOf R (RelayDisk D disk)
    pub of : IsFlusherOf (disk.keeps flusher.pen.disk.inner) (phase_of old) flusher
    pub learns : FlusherLearns old.flusher flusher
    pub ended : HasEnded flusher
    pub list : list_of new ≡ opening_of (phase_of old) ++ grown_records flusher.pass.entries
    pub pen : new.vault.pen ≡ old.flusher.pen
    pub made : new.made ≡ old.made
    pub told : disk.keeps (disk_of new).inner → (image : List ℕ) → IsImage (now (disk.states (disk_of new).inner)) image → OpensTo record_of.form image (list_of new)

  -- why it hasn't: it is as it was, but that it may have learned what was grown
  pub record RefusesGather (fault : GatherFault) (old new : Committer R D record_of eq_of disk) : Type 0 where
    pub phase : phase_of new ≡ phase_of old
    pub made : new.made ≡ old.made
    pub learns : FlusherLearns old.flusher new.flusher
    pub why : IsGatherFault fault old.flusher new.flusher
