-- The rows of the exclusive phase.
use Rattle.std.specs.Prelude.{◌≡◌, ◌⊎◌, ◌<◌, ℕ, ◌+◌, Bool, true, false, ◌||◌, ◌==◌, nat_lt, is_some, List, [], ◌∷◌, ◌++◌, length, Option, Some, None, replicate}
use Rattle.record_core.specs.Bytes.{Encoding}
use Rattle.segment_core.specs.Command.{Command, Grow, Shrink, Change}
use Rattle.segment_core.specs.Written.{payload_len}
use Rattle.pen_core.specs.declared.fault.PenFault.{PenFault}
use Rattle.pen_core.specs.Refusals.{group_lines, shrink_lines, change_lines}
use Rattle.directory_core.specs.Limits.{growth_limit}
use Rattle.book_core.specs.Beginning.{seat_limit}
use Rattle.pen_core.specs.declared.step.PenStep as pen_step
use Rattle.pen_core.specs.Step.{fault_of}
use Rattle.pen_core.specs.declared.fault.PenFault.TheVariants as pen_fault
use Rattle.drive_core.specs.declared.fault.StepFault.{StepFault}
use Rattle.drive_core.specs.declared.fault.StepFault.TheVariants.{Vault, Grow as InGrow, Scan}
use Rattle.vault_core.specs.declared.fault.VaultFault.TheVariants as vault
use Rattle.drive_core.specs.Line.{Line, When, Might, pen_table, is_vault_memory, is_disk}
use Rattle.drive_core.specs.Step.{Step, Answer}
use Rattle.drive_core.specs.Step as step
use Rattle.drive_core.specs.World.{World, Hand, as_pen, GrowthPhase, vector, frame_of, file_with, changed_runs}
use Rattle.drive_core.specs.Outcome.{Outcome, HasFailedCall, elsewhere}
use Rattle.drive_core.specs.GrowthRows.{within}

abbrev pub is_outside_limits : ℕ → ℕ → Bool
is_outside_limits room seats = (room == 0 || nat_lt growth_limit room) || (seats == 0 || nat_lt seat_limit seats)

abbrev pub share_lines : Hand → ℕ → ℕ → List Line
share_lines hand room seats =
    When hand.broken (Vault (vault.Pen pen_fault.Broken))
    ∷ When (is_some hand.job) (Vault (vault.Pen pen_fault.Busy))
    ∷ When (is_outside_limits room seats) (Vault (vault.Pen pen_fault.TooLarge))
    ∷ Might is_vault_memory
    ∷ []

module _ {R : Type 0} where
  abbrev pub first_growth : World R → ℕ → ℕ → GrowthPhase
  first_growth w room seats = record {
    before = length w.history;
    room = room;
    closed = false;
    known = replicate seats 0;
    flusher = 0;
    made = replicate seats 0;
    taken = 0;
    mark = 0;
    told = replicate seats 0;
  }

  abbrev pub IsShare : World R → ℕ → ℕ → Answer R → World R → Type 0
  IsShare w room seats answer w' = Outcome (share_lines w.hand room seats) answer
      ((answer ≡ step.Fine) × (w' ≡ within w (first_growth w room seats)))
      (λ fault. w' ≡ w)

module _ {R : Type 0} (form : Encoding R) where
  -- the pen's tests of the frame that the command is committed as, over a vector of this length
  abbrev pub tests_of : Hand → ℕ → Command R → List (Bool × PenFault)
  tests_of hand size (Grow records) = group_lines (as_pen hand size) (length records) (payload_len form.width (records ∷ []))
  tests_of hand size (Shrink n) = shrink_lines (as_pen hand size) n
  tests_of hand size (Change runs records) = change_lines (as_pen hand size) runs

  abbrev pub command_lines : Hand → ℕ → Command R → List Line
  command_lines hand size command = pen_table (tests_of hand size command) (Might is_vault_memory ∷ Might is_disk ∷ [])

  abbrev pub committed : World R → Command R → World R
  committed w command = record w {
    history = w.history ++ command ∷ [];
    settled = w.settled + 1;
    hand = record w.hand { file = file_with w.hand.file (frame_of form command) };
  }

  -- its frame stays in hand, at the call that failed
  abbrev pub torn : World R → Command R → pen_step.PenStep → World R
  torn w command at = record w {
    history = w.history ++ command ∷ [];
    hand = record w.hand { job = Some (record { frame = frame_of form command; step = at }); broken = true };
  }

  abbrev pub TornAt : World R → Command R → World R → StepFault → Type 0
  TornAt w command w' (Vault (vault.Pen (pen_fault.Disk fault))) = HasFailedCall w w' × ((at : pen_step.PenStep) × (fault ≡ fault_of at) × (w' ≡ elsewhere (torn w command at) w'))
  TornAt w command w' (Vault other) = w' ≡ w
  TornAt w command w' (InGrow fault) = w' ≡ w
  TornAt w command w' (Scan fault) = w' ≡ w

  -- a command that writes, or none
  abbrev pub IsCommandStep : World R → Option (Command R) → Answer R → World R → Type 0
  IsCommandStep w None answer w' = Outcome (When w.hand.broken (Vault (vault.Pen pen_fault.Broken)) ∷ []) answer ((answer ≡ step.Fine) × (w' ≡ w)) (λ fault. w' ≡ w)
  IsCommandStep w (Some command) answer w' = Outcome (command_lines w.hand (length (vector w)) command) answer
      ((answer ≡ step.Fine) × (w' ≡ elsewhere (committed w command) w'))
      (TornAt w command w')

  -- several runs, for which a list may be refused before the tests
  abbrev pub IsChanges : World R → List (ℕ × List R) → Answer R → World R → Type 0
  IsChanges w pieces answer w' = ((0 < length pieces) × (answer ≡ step.Refused (Vault (vault.Pen pen_fault.Memory))) × (w' ≡ w)) ⊎ IsCommandStep w (changed_runs pieces) answer w'

module _ {R : Type 0} where
  abbrev pub IsListing : World R → Answer R → World R → Type 0
  IsListing w answer w' = Outcome (Might is_vault_memory ∷ []) answer ((answer ≡ step.Listed (vector w)) × (w' ≡ w)) (λ fault. w' ≡ w)
