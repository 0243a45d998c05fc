-- Tables of refusals.
use Rattle.std.proofs.Common.{◌≡◌, inl, Bool, true, false, List, [], ◌∷◌, Option, Some, None, refl, sym, ap, ◌∙◌}
use Rattle.std.specs.Prelude.{MatchOption}
use Rattle.pen_core.specs.declared.fault.PenFault.{PenFault}
use Rattle.pen_core.specs.declared.fault.PenFault.TheVariants as pen
use Rattle.pen_core.specs.Refusals.{first_refusal, IsRefusal}
use Rattle.vault_core.specs.declared.fault.VaultFault.TheVariants as vault
use Rattle.drive_core.specs.declared.fault.StepFault.{StepFault}
use Rattle.drive_core.specs.declared.fault.StepFault.TheVariants.{Vault}
use Rattle.drive_core.specs.Line.{Line, When, Might, Allows, pen_table, is_vault_memory}

-- a line that doesn't hold, and one that does
pub passes : (test : Bool) (fault : StepFault) (lines : List Line) (answer : Option StepFault) → test ≡ false → Allows lines answer → Allows (When test fault ∷ lines) answer
passes true fault lines answer is allows = absurd cc
passes false fault lines answer is allows = allows

pub stops : (test : Bool) (fault : StepFault) (lines : List Line) → test ≡ true → Allows (When test fault ∷ lines) (Some fault)
stops true fault lines is = refl
stops false fault lines is = absurd cc

-- no test of the pen's holds: what stands behind decides
pub pen_passes : (lines : List (Bool × PenFault)) (behind : List Line) (answer : Option StepFault) → first_refusal lines ≡ None → Allows behind answer → Allows (pen_table lines behind) answer
pen_passes [] behind answer is allows = allows
pen_passes ((true, fault) ∷ lines) behind answer is allows = absurd cc
pen_passes ((false, fault) ∷ lines) behind answer is allows = pen_passes lines behind answer is allows

abbrev as_fault : Option PenFault → Option StepFault
as_fault None = None
as_fault (Some f) = Some (Vault (vault.Pen f))

-- the first that holds is the answer
pub pen_stops : (lines : List (Bool × PenFault)) (behind : List Line) (fault : PenFault) → first_refusal lines ≡ Some fault → Allows (pen_table lines behind) (Some (Vault (vault.Pen fault)))
pen_stops [] behind fault is = absurd cc
pen_stops ((true, first) ∷ lines) behind fault is = sym (ap as_fault is)
pen_stops ((false, first) ∷ lines) behind fault is = pen_stops lines behind fault is

-- what the pen may answer in place of success is what its table allows
pub pen_refuses : (lines : List (Bool × PenFault)) (more : List Line) (fault : PenFault) → IsRefusal lines fault
    → Allows (pen_table lines (Might is_vault_memory ∷ more)) (Some (Vault (vault.Pen fault)))
pen_refuses lines more fault is = at (first_refusal lines) refl is
  where
    at : (o : Option PenFault) → first_refusal lines ≡ o → MatchOption o (fault ≡ pen.Memory) (λ first. fault ≡ first)
        → Allows (pen_table lines (Might is_vault_memory ∷ more)) (Some (Vault (vault.Pen fault)))
    at None none memory = pen_passes lines (Might is_vault_memory ∷ more) (Some (Vault (vault.Pen fault))) none
        (inl (Vault (vault.Pen fault), refl, ap (λ f. is_vault_memory (Vault (vault.Pen f))) memory))
    at (Some first) some same = pen_stops lines (Might is_vault_memory ∷ more) fault (some ∙ ap Some (sym same))
