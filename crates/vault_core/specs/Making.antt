-- The begin of a vault: over a new file.
use Rattle.std.specs.Prelude.{◌≡◌, ◌⊎◌, ◌+◌, ◌-◌, ◌≤◌, ◌<◌, ℕ, List, [], length, IfOk, IfErr, MatchResult}
use Rattle.std.specs.declared.result.Result.{Result}
use Rattle.disk_core.specs.State.{State}
use Rattle.disk_core.specs.Calls.{bytes_of}
use Rattle.disk_core.specs.Moments.{clock}
use Rattle.segment_core.specs.declared.format.Shape.{Shape}
use Rattle.pen_core.specs.declared.fault.PenFault.{PenFault}
use Rattle.pen_core.specs.declared.fault.PenFault.TheVariants.{Memory, Exists}
use Rattle.pen_core.specs.Births.{IsNew, IsCreateFault, IsExisting, StaysUnbornOrEmpty, WritesNothing, AreCallsUntil, calls_of_creation}
use Rattle.pen_core.specs.Pen.{failed_calls}
use Rattle.vault_core.specs.Vault.{VaultOf}

-- What comes of making a file of that shape on a disk: an empty vault; or the disk back, and why. From its first successful sync on
-- each image is no file yet or the empty one, where there was none; over a file that exists nothing is written.
pub record IsMade {R D : Type 0} (keeps : D → Type 0) (states : D → List State) (faults : D → ℕ) (shape : Shape) (disk : D) (result : Result (VaultOf R D) (D × PenFault)) : Type 0 where
  pub created : IfOk result (λ v. IsNew shape v.pen × (v.blocks ≡ []))
  pub sure : IfOk result (λ v. keeps v.pen.disk → v.sure ≡ [])
  pub born : MatchResult result
      (λ v. keeps v.pen.disk → StaysUnbornOrEmpty shape (states disk) (states v.pen.disk))
      (λ r. keeps r.0 → StaysUnbornOrEmpty shape (states disk) (states r.0))
  pub none_existed : IfOk result (λ v. keeps v.pen.disk → IsExisting (bytes_of (states disk)) → ⊥)
  pub existed : IfErr result (λ r. keeps r.0 → IsExisting (bytes_of (states disk)) → (r.0 ≡ disk) ⊎ WritesNothing (states disk) (states r.0))
  pub exists : IfErr result (λ r. keeps r.0 → r.1 ≡ Exists → IsExisting (bytes_of (states disk)))
  pub refused : IfErr result (λ r. ((r.1 ≡ Memory) × (r.0 ≡ disk)) ⊎ IsCreateFault r.1)
  pub time : MatchResult result
      (λ v. clock (states v.pen.disk) ≤ clock (states disk) + 8)
      (λ r. clock (states r.0) ≤ clock (states disk) + 8)
  pub later : MatchResult result
      (λ v. clock (states disk) < clock (states v.pen.disk))
      (λ r. IsCreateFault r.1 → clock (states disk) < clock (states r.0))
  pub calls : MatchResult result
      (λ v. keeps v.pen.disk → clock (states v.pen.disk) ≡ clock (states disk) + length (calls_of_creation (bytes_of (states disk))))
      (λ r. keeps r.0 → AreCallsUntil (bytes_of (states disk)) (calls_of_creation (bytes_of (states disk))) r.1 (clock (states r.0) - clock (states disk)))
  pub failed : MatchResult result (λ v. faults v.pen.disk ≡ faults disk) (λ r. faults r.0 ≡ faults disk + failed_calls r.1)
  pub model : MatchResult result (λ v. keeps v.pen.disk → keeps disk) (λ r. keeps r.0 → keeps disk)
