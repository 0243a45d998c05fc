-- What a step leaves in hand.
use Rattle.std.proofs.Common.{◌≡◌, None, ap, arith}
use Rattle.disk_core.specs.Moments.{clock}
use Rattle.vault_core.specs.Vault.{VaultOf}
use Rattle.drive_core.specs.declared.phase.DrivePhase as code
use Rattle.drive_core.specs.declared.phase.DrivePhase.TheVariants as hands
use Rattle.drive_core.specs.Medium.{Medium}
use Rattle.drive_core.specs.Step.{Step, Answer}
use Rattle.drive_core.specs.World.{World}
use Rattle.drive_core.specs.World as worlds
use Rattle.drive_core.specs.Outcome.{stray_in}
use Rattle.drive_core.specs.Rows.{PhaseRow}
use Rattle.drive_core.specs.Run.{HasCalls}
use Rattle.drive_core.specs.Ties.{GrowingOf, IsBehindStep}
use Rattle.drive_core.specs.VaultTies.{IsExclusive, calls_between}
use Rattle.drive_core.specs.Phases.{IsPhaseShut, IsWorldLeft, PhaseStep, disk_in}
use Rattle.drive_core.proofs.Steps.{at_phase, counted, still}

module _ {R D : Type 0} {m : Medium R D} {w : World R} where
  -- ---- what is left, from what is tied

  pub left_exclusive : {v : VaultOf R D} → IsExclusive m w v → IsWorldLeft m w (hands.Exclusive v)
  left_exclusive tied = record { disk_is = tied.disk_is; goes_on = λ calm. tied }

  pub left_growth : {g : GrowingOf R D} → IsBehindStep m w g → IsWorldLeft m w (hands.Growth g)
  left_growth tied = record { disk_is = tied.disk_is; goes_on = λ calm. tied.goes_on calm }

  pub left_shut : {disk : D} → IsPhaseShut m w disk → IsWorldLeft m w (hands.Shut disk)
  left_shut tied = record { disk_is = tied.disk_is; goes_on = λ calm. tied }

-- ---- a step without a device call, by the clock

pub still_left : {R D : Type 0} {m : Medium R D} {w : World R} {old : D} {new : code.DrivePhase R D} {asked : Step R} {answer : Answer R} (phase : worlds.DrivePhase) (w' : World R)
    → w.strayed ≡ None → w.phase ≡ phase → PhaseRow m.form (m.keeps (disk_in new)) w phase asked answer w' → HasCalls w asked answer 0 → w'.disk ≡ w.disk → disk_in new ≡ old
    → w'.strayed ≡ stray_in answer → IsWorldLeft m w' new
    → PhaseStep m w old new asked answer
still_left {m = m} {w = w} {old = old} {new = new} {asked = asked} {answer = answer} phase w' calm is row calls disk same stray left =
    let none : 0 ≡ calls_between (m.states old) (m.states (disk_in new)) = (let clocks = ap (λ d. clock (m.states d)) same in omega (arith, clocks)) in
    counted none (still w' (at_phase m.form (m.keeps (disk_in new)) w phase asked answer w' calm is row) calls disk stray left)
