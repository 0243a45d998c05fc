-- Where a call fails, and that it is counted.
use Rattle.std.specs.Prelude.{ℕ, ◌+◌, ◌≡◌, Result, Ok, Err, MatchResult}
use Rattle.disk_core.specs.declared.fault.DiskFault.{DiskFault}

-- a call fails with its own kind of fault alone, and where it fails the count of faults rises by one
abbrev pub IsCounted : {T : Type 0} → DiskFault → ℕ → ℕ → Result T DiskFault → Type 0
IsCounted kind before after (Ok value) = after ≡ before
IsCounted kind before after (Err fault) = (fault ≡ kind) × (after ≡ before + 1)

-- of what makes any number of calls: none has failed where it succeeds, and else as many as its fault tells
abbrev pub CountsFailures : {T E : Type 0} → (E → ℕ) → ℕ → ℕ → Result T E → Type 0
CountsFailures failed before after result = MatchResult result (λ _. after ≡ before) (λ fault. after ≡ before + failed fault)
