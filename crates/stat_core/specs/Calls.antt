-- The calls of the disk: how many were made, and which of them failed.
use Rattle.std.specs.Prelude.{◌≡◌, ◌≤◌, ℕ, ◌+◌, Result, Ok, Err}
use Rattle.disk_core.specs.declared.fault.DiskFault.TheVariants.{Length, Read, Write, Sync}
use Rattle.stat_core.specs.declared.fault.StatFault.{StatFault}
use Rattle.stat_core.specs.declared.fault.StatFault.TheVariants.{Disk, Header, Frame as FrameFault}
use Rattle.stat_core.specs.declared.summary.Summary.{Summary}
use Rattle.stat_core.specs.declared.telling.StatEnded.{StatEnded}
use Rattle.stat_core.specs.declared.telling.StatEnded.TheVariants.{Done, Refused, Unwritten}

-- how many calls had failed where this is told
abbrev pub failed_in : StatFault → ℕ
failed_in (Disk fault) = 1
failed_in (Header fault) = 0
failed_in (FrameFault fault before) = 0

abbrev pub failed_at : StatEnded → ℕ
failed_at Done = 0
failed_at (Refused fault) = failed_in fault
failed_at (Unwritten error) = 0

-- one for the length, one for the header, and at most one for each frame that was counted and one for what is behind them
abbrev pub IsWithinCalls : ℕ → ℕ → Summary → Type 0
IsWithinCalls before after s = after ≤ before + 3 + (s.groups + s.changes + s.shrinks + s.folds)

-- the calls between two times of the clock: of those that failed only the first was for the length, and the others read
abbrev pub AreCalls : ℕ → ℕ → Result Summary StatFault → Type 0
AreCalls before after (Ok s) = IsWithinCalls before after s
AreCalls before after (Err (Disk Length)) = after ≡ before + 1
AreCalls before after (Err (Disk Read)) = before + 2 ≤ after
AreCalls before after (Err (Disk Write)) = ⊥
AreCalls before after (Err (Disk Sync)) = ⊥
AreCalls before after (Err (Header fault)) = after ≡ before + 2
AreCalls before after (Err (FrameFault fault counted)) = IsWithinCalls before after counted
