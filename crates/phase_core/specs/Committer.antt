-- Who commits for all threads of a phase.
use Rattle.std.specs.Prelude.{List}
use Rattle.std.specs.Arc.{arc_value}
use Rattle.book_core.specs.Lists.{Phase}
use Rattle.std.specs.declared.cmp.PartialEq as PartialEq
use Rattle.record_core.specs.declared.record.Record as Record
use Rattle.disk_core.specs.declared.disk.Disk.{Ghosts}
use Rattle.relay_core.specs.declared.call.Call.{Call}
use Rattle.relay_core.specs.declared.relay_disk.RelayDisk.{RelayDisk}
use Rattle.phase_core.specs.declared.committer.Committer.{Committer}
use Rattle.phase_core.specs.Listing.{calls_from}

module _ {R D : Type 0} {record_of : Record.Ghosts R} {eq_of : PartialEq.Ghosts R} {disk : Ghosts D} where
  -- the phase that it is of
  abbrev pub phase_of : Committer R D record_of eq_of disk → Phase R
  phase_of committer = arc_value committer.live

  -- the disk that lists its calls
  abbrev pub disk_of : Committer R D record_of eq_of disk → RelayDisk D disk
  disk_of committer = committer.flusher.pen.disk

  -- the calls that the host hasn't made
  abbrev pub calls_of : Committer R D record_of eq_of disk → List Call
  calls_of committer = calls_from committer.made committer.flusher.pen.disk
