-- A file may keep the model: to each call there is an answer that agrees, whatever bytes the file held.
use Rattle.std.proofs.Common.{◌≡◌, ℕ, ◌+◌, ◌≤◌, List, [], ◌∷◌, length, refl, sym, ◌∙◌, ◌-◌, drop, ap, arith}
use Rattle.std.specs.Prelude.{slice_range}
use Rattle.std.proofs.lemmas.List.{length-take, length-drop}
use Rattle.record_core.specs.Bytes.{IsBytes}
use Rattle.disk_core.specs.declared.ghost_bytes.GhostBytes.{GhostBytes}
use Rattle.disk_core.specs.declared.extent.Extent.{Extent}
use Rattle.disk_core.specs.declared.file_event.FileEvent.{FileEvent}
use Rattle.disk_core.specs.declared.file_event.FileEvent.TheVariants.{Measured, Read, Written, Torn, Synced, Failed}
use Rattle.disk_core.specs.FileTruth.{FileTruth}
use Rattle.disk_core.specs.File.{file_states, left_by, HasAgreed}
use Rattle.disk_core.specs.Calls.{bytes_of}
use Rattle.disk_core.specs.State.{IsTorn}

-- a file that held five bytes, of which no write failed
abbrev pub five_bytes : FileTruth
five_bytes = record { held = 0 ∷ 1 ∷ 2 ∷ 3 ∷ 4 ∷ []; left = [] }

module _ (truth : FileTruth) (log : List (FileEvent × GhostBytes)) (agreed : HasAgreed truth log) (s : GhostBytes) where
  pub HasAgreed-measured : HasAgreed truth ((Measured (length (bytes_of (file_states truth log))), s) ∷ log)
  HasAgreed-measured = (refl, agreed)

  pub HasAgreed-read : (at n : ℕ) → at + n ≤ length (bytes_of (file_states truth log))
      → s.bytes ≡ slice_range (bytes_of (file_states truth log)) at (at + n) → HasAgreed truth ((Read at, s) ∷ log)
  HasAgreed-read at n inside is =
      let seen = bytes_of (file_states truth log) in
      let long : length s.bytes ≡ n = ap length is ∙ omega (arith, length-take (at + n - at) (drop at seen), length-drop at seen) in
      (is ∙ ap (λ k. slice_range (bytes_of (file_states truth log)) at (at + k)) (sym long), agreed)

  pub HasAgreed-written : (at : ℕ) → HasAgreed truth ((Written at, s) ∷ log)
  HasAgreed-written at = (tt, agreed)

  -- whatever bytes a failed write left inside its extent
  pub HasAgreed-torn : (e : Extent) → IsTorn e.at e.len (bytes_of (file_states truth log)) (left_by truth log) → IsBytes (left_by truth log)
      → HasAgreed truth ((Torn e, s) ∷ log)
  HasAgreed-torn e torn fits = ((torn, fits), agreed)

  pub HasAgreed-synced : HasAgreed truth ((Synced, s) ∷ log)
  HasAgreed-synced = (tt, agreed)

  pub HasAgreed-failed : HasAgreed truth ((Failed, s) ∷ log)
  HasAgreed-failed = (tt, agreed)
