-- What ties a world of the exclusive phase to the vault in hand.
use Rattle.std.specs.Prelude.{◌≡◌, ℕ, ◌-◌, ◌≤◌, false, List, length, take, None}
use Rattle.record_core.specs.Bytes.{Encoding}
use Rattle.disk_core.specs.State.{State}
use Rattle.disk_core.specs.Moments.{clock}
use Rattle.segment_core.specs.Command.{content}
use Rattle.vault_core.specs.Vault.{VaultOf, list_of}
use Rattle.drive_core.specs.Medium.{Medium, medium}
use Rattle.drive_core.specs.Step.{Step, Answer}
use Rattle.drive_core.specs.World.{World, Exclusive, hand_of, vector}
use Rattle.drive_core.specs.Ties.{Steps, growths_in_hand, disk_of}

-- The vault has the world's vector; where the disk keeps its model, what is sure of its file is what the settled commands
-- make, which are all but one that broke it.
pub record IsExclusive {R D : Type 0} (m : Medium R D) (w : World R) (v : VaultOf R D) : Type 0 where
  pub phase_is : w.phase ≡ Exclusive
  pub calm : w.strayed ≡ None
  pub list_is : vector w ≡ list_of v
  pub sure_is : m.keeps v.pen.disk → content w.base (take w.settled w.history) ≡ v.sure
  pub settled_within : w.settled ≤ length w.history
  pub whole : v.pen.broken ≡ false → w.settled ≡ length w.history
  -- a job in hand is a fold's, unless a command broke the vault
  pub brings_none : v.pen.broken ≡ false → growths_in_hand v.pen.job ≡ 0
  pub hand_is : w.hand ≡ hand_of v.pen
  pub disk_is : w.disk ≡ disk_of m.states m.faults v.pen.disk

-- how often the device was called between two readings of the clock
abbrev pub calls_between : List State → List State → ℕ
calls_between old new = clock new - clock old

-- From this world this step and answer lead to one that the vault is tied to.
abbrev pub VaultStep : {R D : Type 0} → Medium R D → World R → VaultOf R D → VaultOf R D → Step R → Answer R → Type 0
VaultStep m w old new asked answer =
    Steps m.form (m.keeps new.pen.disk) (λ w'. IsExclusive m w' new) w asked answer (calls_between (m.states old.pen.disk) (m.states new.pen.disk))

-- so from each world that the vault is tied to
abbrev pub VaultSteps : {R D : Type 0} → Encoding R → (D → List State) → (D → ℕ) → (D → Type 0) → VaultOf R D → VaultOf R D → Step R → Answer R → Type 0
VaultSteps {R} form states faults keeps old new asked answer =
    (w : World R) → IsExclusive (medium form states faults keeps) w old → VaultStep (medium form states faults keeps) w old new asked answer
