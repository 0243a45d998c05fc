-- What the commands make of a vault over a file whose calls a host makes.
use Rattle.std.specs.Prelude.{◌≡◌, ℕ, ◌-◌, ◌+◌, ◌*◌, ◌<◌, Bool, false, List, [], ◌∷◌, length, replicate, MatchResult}
use Rattle.std.specs.declared.result.Result.{Result}
use Rattle.record_core.specs.Bytes.{Encoding}
use Rattle.disk_core.specs.declared.disk.Disk.{Ghosts}
use Rattle.segment_core.specs.Frame.{Frame, Shrink}
use Rattle.segment_core.specs.Written.{group_frame}
use Rattle.pen_core.specs.declared.fault.PenFault.{PenFault}
use Rattle.pen_core.specs.Refusals.{change_lines, group_lines, shrink_lines, one_run}
use Rattle.vault_core.specs.declared.fault.VaultFault.{VaultFault}
use Rattle.vault_core.specs.Commands.{IsCommand, IsNothingFault, StandsCommanded, changed_frame, resized}
use Rattle.phase_core.specs.declared.host_vault.HostVault.{HostVault}
use Rattle.phase_core.specs.HostVault.{list_of, AreWritten}

module _ {R D : Type 0} {disk : Ghosts D} (form : Encoding R) (old new : HostVault R D disk) (result : Result (Unit {0}) VaultFault) where
  -- a command with this frame, which these tests may refuse
  abbrev pub IsCommandWith : Frame → List (Bool × PenFault) → Type 0
  IsCommandWith frame lines =
      IsCommand form (λ relay. disk.keeps relay.inner) (λ relay. disk.states relay.inner) (λ relay. disk.faults relay.inner) frame lines old.vault new.vault result

  -- this is made of the list, if its commit has begun
  abbrev pub Makes : Type 0 → Type 0
  Makes made = MatchResult result (λ _. made) (StandsCommanded made (list_of new ≡ list_of old))

  -- nothing is to be written: only a broken vault refuses it
  abbrev pub IsNothing : Type 0
  IsNothing = (new.vault ≡ old.vault) × MatchResult result (λ _. old.vault.pen.broken ≡ false) (IsNothingFault old.vault.pen)

  -- the records are written over those from that position on, by one frame
  abbrev pub IsChange : ℕ → List R → Type 0
  IsChange start records =
      (new.made ≡ old.made)
      × (0 < length records → Makes (AreWritten start records (list_of old) (list_of new)))
      × (0 < length records → IsCommandWith (changed_frame form (one_run start (length records)) (list_of new)) (change_lines old.vault.pen (one_run start (length records))))
      × (length records ≡ 0 → IsNothing)

  -- it has so many records: those behind are taken away, or copies of one put behind
  abbrev pub IsResize : ℕ → R → Type 0
  IsResize size x =
      (new.made ≡ old.made)
      × Makes (list_of new ≡ resized size x (list_of old))
      × (length (list_of old) < size → IsCommandWith (group_frame form (replicate (size - length (list_of old)) x ∷ []))
      (group_lines old.vault.pen (size - length (list_of old)) (8 + (size - length (list_of old)) * form.width)))
      × (size < length (list_of old) → IsCommandWith (Shrink size) (shrink_lines old.vault.pen size))
      × (size ≡ length (list_of old) → IsNothing)
