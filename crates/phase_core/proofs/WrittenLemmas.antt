-- What written records make of a list, and what stands behind a command that made it.
use Rattle.std.proofs.Common.{◌≡◌, ℕ, zero, suc, ◌+◌, ◌<◌, ◌-◌, Bool, true, false, ◌||◌, List, [], ◌∷◌, length, get_or, slice_get, Some, Ok, Err, MatchResult, inl, inr, refl, sym, ap, ◌∙◌, arith}
use Rattle.std.specs.declared.result.Result.{Result}
use Rattle.std.specs.Option.{option_map}
use Rattle.std.proofs.lemmas.Option.{slice_get-get_or}
use Rattle.segment_core.specs.Frame.{Run}
use Rattle.pen_core.specs.declared.fault.PenFault.TheVariants as faults
use Rattle.pen_core.specs.Refusals.{one_run}
use Rattle.vault_core.specs.declared.fault.VaultFault.{VaultFault}
use Rattle.vault_core.specs.declared.fault.VaultFault.TheVariants.{Pen, Unsettled, WrongPhase}
use Rattle.vault_core.specs.Commands.{StandsCommanded}
use Rattle.vault_core.specs.Touched.{has, cover, IsTouched}
use Rattle.vault_core.proofs.Runs.{has_at, has_before, has_past}
use Rattle.phase_core.specs.HostVault.{AreWritten}

or_false : (b : Bool) → (b || false) ≡ b
or_false true = refl
or_false false = refl

-- a record stands at each position of a list
stands_at : {R : Type 0} (xs : List R) (k : ℕ) → k < length xs → (x : R) × (slice_get xs k ≡ Some x)
stands_at [] k lt = absurd (omega (arith, lt))
stands_at (x ∷ xs) zero lt = (x, refl)
stands_at (x ∷ xs) (suc k) lt = stands_at xs k (omega (arith, lt))

-- records that are written stand there
pub are_written : {R : Type 0} (start : ℕ) (records old new : List R) → IsTouched (λ i r. get_or records (i - start) r) (one_run start (length records)) old new → AreWritten start records old new
are_written {R} start records old new touched =
    let run : Run = record { start = start; count = length records } in
    record {
      same_length = touched.same_length;
      inside = λ k lt within.
          let i = start + k in
          let stood : (x : R) × (slice_get old i ≡ Some x) = stands_at old i within in
          let x = stood.0 in
          let covered : cover (run ∷ []) i ≡ true = or_false (has i run) ∙ has_at i run (omega arith) (omega arith) in
          let place : i - start ≡ k = omega arith in
          touched.inside i covered
          ∙ ap (option_map (λ r. get_or records (i - start) r)) stood.1
          ∙ ap (λ (j : ℕ). Some (get_or records j x)) place
          ∙ sym (slice_get-get_or records k x lt);
      outside = λ i where_.
          touched.outside i (or_false (has i run) ∙ elim where_ [
            | inl before ↦ has_before i run before
            | inr past ↦ has_past i run past
          ]);
    }

-- what follows of what stands behind a command
pub stands_so : (made made' was was' : Type 0) (fault : VaultFault) → (made → made') → (was → was') → StandsCommanded made was fault → StandsCommanded made' was' fault
stands_so made made' was was' (Pen faults.Broken) f g it = g it
stands_so made made' was was' (Pen faults.Busy) f g it = g it
stands_so made made' was was' (Pen faults.OldFormat) f g it = g it
stands_so made made' was was' (Pen faults.Runs) f g it = g it
stands_so made made' was was' (Pen faults.OutOfRange) f g it = g it
stands_so made made' was was' (Pen faults.TooLarge) f g it = g it
stands_so made made' was was' (Pen faults.Unfolded) f g it = g it
stands_so made made' was was' (Pen faults.FileFull) f g it = g it
stands_so made made' was was' (Pen faults.Memory) f g it = g it
stands_so made made' was was' (Pen faults.Exists) f g it = g it
stands_so made made' was was' (Pen (faults.Disk cause)) f g it = f it
stands_so made made' was was' (Unsettled number) f g it = absurd it
stands_so made made' was was' WrongPhase f g it = absurd it

pub matches_so : (made made' was was' : Type 0) (result : Result (Unit {0}) VaultFault) → (made → made') → (was → was')
    → MatchResult result (λ _. made) (StandsCommanded made was) → MatchResult result (λ _. made') (StandsCommanded made' was')
matches_so made made' was was' (Ok done) f g it = f it
matches_so made made' was was' (Err fault) f g it = stands_so made made' was was' fault f g it
