-- What the exit of a `?` answers, and tests that can't be.
use Rattle.std.proofs.Common.{◌≡◌, ℕ, ◌+◌, Bool, true, false, Result, Err, OnOk, IfErr, sym, subst}
use Rattle.disk_core.specs.Fault.{CountsFailures}

-- a test that holds doesn't fail
pub both : {P : Type 0} (test : Bool) → test ≡ true → test ≡ false → P
both true holds fails = absurd cc
both false holds fails = absurd cc

-- a call that was refused
module _ {A E : Type 0} (answer : Result A E) (fault : E) (is : answer ≡ Err fault) where
  pub OnOk-refused : (P : Type 0) → OnOk answer P
  OnOk-refused P = subst (λ (r : Result A E). OnOk r P) (sym is) tt

  pub IfErr-refused : (P : E → Type 0) → P fault → IfErr answer P
  IfErr-refused P holds = subst (λ (r : Result A E). IfErr r P) (sym is) holds

  pub CountsFailures-refused : (failed : E → ℕ) (before after : ℕ) → after ≡ before + failed fault → CountsFailures failed before after answer
  CountsFailures-refused failed before after counts = subst (λ (r : Result A E). CountsFailures failed before after r) (sym is) counts
