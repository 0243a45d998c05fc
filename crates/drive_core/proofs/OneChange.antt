-- A change of one run, and one of several, as their steps.
use Rattle.std.proofs.Common.{◌≡◌, inl, inr, ℕ, ◌<◌, false, List, [], ◌∷◌, length, map, refl, sym, ap, subst, ◌∙◌, arith}
use Rattle.std.specs.Prelude.{Ok, Err}
use Rattle.std.specs.Global.{Vec}
use Rattle.std.specs.declared.result.Result.{Result}
use Rattle.std.proofs.lemmas.List.{append-nil, length-map}
use Rattle.segment_core.specs.Command.{Change}
use Rattle.segment_core.specs.Frame.{Run}
use Rattle.segment_core.specs.Runs.{runs_given}
use Rattle.segment_core.specs.Written.{joined}
use Rattle.pen_core.specs.Refusals.{change_lines, one_run}
use Rattle.pen_core.specs.declared.fault.PenFault.TheVariants as pen
use Rattle.vault_core.specs.declared.fault.VaultFault.{VaultFault}
use Rattle.vault_core.specs.declared.fault.VaultFault.TheVariants as vault
use Rattle.vault_core.specs.Touched.{IsTouched}
use Rattle.vault_core.specs.Vault.{VaultOf, list_of}
use Rattle.vault_core.specs.Commands as commands
use Rattle.vault_core.specs.Commands.{StandsCommanded, changed_frame}
use Rattle.drive_core.specs.declared.fault.StepFault.TheVariants.{Vault}
use Rattle.drive_core.specs.Given.{given_by_runs, pieces_of}
use Rattle.drive_core.specs.Medium.{Medium}
use Rattle.drive_core.specs.Step.{Step, Answer}
use Rattle.drive_core.specs.Step as step
use Rattle.drive_core.specs.World.{World, piece_runs}
use Rattle.drive_core.specs.VaultTies.{IsExclusive, VaultStep}
use Rattle.drive_core.proofs.Changed.{changes}
use Rattle.drive_core.proofs.Steps.{answered}
use Rattle.drive_core.proofs.VaultCommands.{IsWritten, committed_steps, failed_steps}
use Rattle.drive_core.proofs.VaultEvents.{Holds, same_steps, nothing_steps, nothing_refused}

module _ {R D : Type 0} {m : Medium R D} {w : World R} {v : VaultOf R D} (tie : IsExclusive m w v) (new : VaultOf R D)
    (size : v.pen.broken ≡ false → v.pen.tally.size ≡ length (list_of v)) (rests : Holds m new new.pen.disk) where
  -- what the vault promises of a change of these runs
  abbrev Says : List Run → Result (Unit {0}) VaultFault → Type 0
  Says runs result = commands.IsCommand m.form m.keeps m.states m.faults (changed_frame m.form runs (list_of new)) (change_lines v.pen runs) v new result

  abbrev IsGiven : List (ℕ × List R) → List Run → Type 0
  IsGiven pieces runs = IsTouched (given_by_runs pieces) runs (list_of v) (list_of new)

  -- ---- of one run

  -- what is written of a step that asks for a change of these runs
  abbrev WritesRuns : Step R → List Run → List R → Type 0 → Type 0
  WritesRuns asked runs records made = IsWritten m w v new asked (Change runs records) (changed_frame m.form runs (list_of new)) made

  abbrev WritesOne : ℕ → List R → List Run → Type 0
  WritesOne start records run = WritesRuns (step.Change start records) run records (IsGiven ((start, records) ∷ []) run)

  one : (start : ℕ) (r : R) (records : List R) → WritesOne start (r ∷ records) (one_run start (length (r ∷ records)))
  one start r records =
      changes tie new size rests ((start, r ∷ records) ∷ []) (r ∷ records) (sym (append-nil (r ∷ records))) (step.Change start (r ∷ records))
      (λ answer w' n row calls. (row, calls))

  pub one_answers : {answer : Answer R} (start : ℕ) (records : List R) → answer ≡ step.Fine
      → (0 < length records → IsGiven ((start, records) ∷ []) (one_run start (length records))) → (0 < length records → Says (one_run start (length records)) (Ok tt))
      → (length records ≡ 0 → (new ≡ v) × (v.pen.broken ≡ false)) → VaultStep m w v new (step.Change start records) answer
  one_answers start [] is list says none = nothing_steps tie (none refl).0 (λ answer w' n row calls. (row, calls)) (none refl).1 is
  one_answers start (r ∷ records) is list says none = committed_steps tie (one start r records) (says (omega arith)) (list (omega arith)) is

  pub one_refuses : {answer : Answer R} (start : ℕ) (records : List R) (fault : VaultFault) → answer ≡ step.Refused (Vault fault)
      → (0 < length records → StandsCommanded (IsGiven ((start, records) ∷ []) (one_run start (length records))) (new.blocks ≡ v.blocks) fault)
      → (0 < length records → Says (one_run start (length records)) (Err fault))
      → (length records ≡ 0 → (new ≡ v) × commands.IsNothingFault v.pen fault) → VaultStep m w v new (step.Change start records) answer
  one_refuses start [] fault is list says none = nothing_refused tie (none refl).0 (λ answer w' n row calls. (row, calls)) (none refl).1 is
  one_refuses start (r ∷ records) fault is list says none = failed_steps tie (one start r records) fault (says (omega arith)) (list (omega arith)) is

  -- ---- of several

  some : (piece : ℕ × List R) (pieces : List (ℕ × List R))
      → WritesRuns (step.Changes (piece ∷ pieces)) (piece_runs (piece ∷ pieces)) (joined (map (λ p. p.1) (piece ∷ pieces))) (IsGiven (piece ∷ pieces) (piece_runs (piece ∷ pieces)))
  some piece pieces = changes tie new size rests (piece ∷ pieces) (joined (map (λ p. p.1) (piece ∷ pieces))) refl (step.Changes (piece ∷ pieces)) (λ answer w' n row calls. (inr row, calls))

  some_answers : {answer : Answer R} (pieces : List (ℕ × List R)) → answer ≡ step.Fine
      → (0 < length pieces → IsGiven pieces (piece_runs pieces)) → (0 < length pieces → Says (piece_runs pieces) (Ok tt))
      → (length pieces ≡ 0 → (new ≡ v) × (v.pen.broken ≡ false)) → VaultStep m w v new (step.Changes pieces) answer
  some_answers [] is list says none = nothing_steps tie (none refl).0 (λ answer w' n row calls. (inr row, calls)) (none refl).1 is
  some_answers (piece ∷ pieces) is list says none = committed_steps tie (some piece pieces) (says (omega arith)) (list (omega arith)) is

  some_refuses : {answer : Answer R} (pieces : List (ℕ × List R)) (fault : VaultFault) → answer ≡ step.Refused (Vault fault)
      → (0 < length pieces → StandsCommanded (IsGiven pieces (piece_runs pieces)) (new.blocks ≡ v.blocks) fault)
      → (0 < length pieces → Says (piece_runs pieces) (Err fault))
      → (length pieces ≡ 0 → (new ≡ v) × commands.IsNothingFault v.pen fault) → VaultStep m w v new (step.Changes pieces) answer
  some_refuses [] fault is list says none = nothing_refused tie (none refl).0 (λ answer w' n row calls. (inr row, calls)) (none refl).1 is
  some_refuses (piece ∷ pieces) fault is list says none = failed_steps tie (some piece pieces) fault (says (omega arith)) (list (omega arith)) is

  -- by the list of their starts and lengths
  module _ (pieces : List (ℕ × List R)) (list : List (ℕ × ℕ)) (same : runs_given list ≡ piece_runs pieces) where
    as_long : length list ≡ length pieces
    as_long = sym (length-map list (λ (run : ℕ × ℕ). record { start = run.0; count = run.1 })) ∙ ap length same
        ∙ length-map pieces (λ (piece : ℕ × List R). record { start = piece.0; count = length piece.1 })

    pub runs_answers : {answer : Answer R} → answer ≡ step.Fine
        → (0 < length list → IsGiven pieces (runs_given list)) → (0 < length list → Says (runs_given list) (Ok tt))
        → (length list ≡ 0 → (new ≡ v) × (v.pen.broken ≡ false)) → VaultStep m w v new (step.Changes pieces) answer
    runs_answers is touched says none = some_answers pieces is
        (λ some. subst (IsGiven pieces) same (touched (omega (arith, some, as_long))))
        (λ some. subst (λ runs. Says runs (Ok tt)) same (says (omega (arith, some, as_long))))
        (λ empty. none (omega (arith, empty, as_long)))

    pub runs_refuses : {answer : Answer R} (fault : VaultFault) → answer ≡ step.Refused (Vault fault)
        → (0 < length list → StandsCommanded (IsGiven pieces (runs_given list)) (new.blocks ≡ v.blocks) fault)
        → (0 < length list → Says (runs_given list) (Err fault))
        → (length list ≡ 0 → (new ≡ v) × commands.IsNothingFault v.pen fault) → VaultStep m w v new (step.Changes pieces) answer
    runs_refuses fault is touched says none = some_refuses pieces fault is
        (λ some. subst (λ runs. StandsCommanded (IsGiven pieces runs) (new.blocks ≡ v.blocks) fault) same (touched (omega (arith, some, as_long))))
        (λ some. subst (λ runs. Says runs (Err fault)) same (says (omega (arith, some, as_long))))
        (λ empty. none (omega (arith, empty, as_long)))

-- no memory for the list of the runs
pub no_list : {R D : Type 0} {m : Medium R D} {w : World R} {v : VaultOf R D} {answer : Answer R} → IsExclusive m w v → (pieces : List (ℕ × List R)) → 0 < length pieces
    → answer ≡ step.Refused (Vault (vault.Pen pen.Memory)) → VaultStep m w v v (step.Changes pieces) answer
no_list tie [] some is = absurd (omega (arith, some))
no_list tie (piece ∷ pieces) some is = answered is (same_steps tie refl (inl (some, refl, refl)) refl refl)

abbrev as_piece : {R : Type 0} → ℕ × Vec R → ℕ × List R
as_piece run = (run.0, run.1.items)

pub pieces_long : {R : Type 0} (runs : List (ℕ × Vec R)) → length (pieces_of runs) ≡ length runs
pieces_long runs = length-map runs as_piece
