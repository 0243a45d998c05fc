-- What a crash leaves of a run: the vector after a prefix of the history that holds every settled command.
use Rattle.std.specs.Prelude.{◌≡◌, ℕ, suc, ◌+◌, ◌≤◌, ◌<◌, List, [], ◌∷◌, length, map, sum, take, slice_get, Some}
use Rattle.record_core.specs.Bytes.{Encoding}
use Rattle.disk_core.specs.State.{IsImage, now}
use Rattle.disk_core.specs.Moments.{clock, LeftSince, LeavesOnly}
use Rattle.segment_core.specs.Command.{Command, content}
use Rattle.pen_core.specs.Typed.{OpensTo}
use Rattle.book_core.specs.declared.mark.MarkState.{MarkState}
use Rattle.drive_core.specs.Step as step
use Rattle.drive_core.specs.World.{World, GrowthPhase, DrivePhase, Shut, Exclusive, Growing}
use Rattle.drive_core.specs.Run.{Event, last}

-- a file was created or opened
abbrev pub HasFile : DrivePhase → Type 0
HasFile Shut = ⊥
HasFile Exclusive = Unit {0}
HasFile (Growing phase) = Unit {0}

module _ {R : Type 0} (form : Encoding R) where
  -- opening these bytes gives the vector after the first `kept` commands, every settled one among them
  pub record OpensToPrefix (base : List R) (history : List (Command R)) (settled : ℕ) (image : List ℕ) : Type 0 where
    pub kept : ℕ
    pub at_least : settled ≤ kept
    pub at_most : kept ≤ length history
    pub opens : OpensTo form image (content base (take kept history))

  -- every image left since the moment of a step, and every image at the end
  abbrev pub LeavesPrefixes : World R → List (Event R) → Type 0
  LeavesPrefixes w events =
      (j : ℕ) (before : World R) → slice_get (w ∷ map (λ e. e.after) events) j ≡ Some before → HasFile before.phase
      → (image : List ℕ) → LeftSince (last w events).disk.states (clock w.disk.states + sum (take j (map (λ e. e.calls) events))) image
      → OpensToPrefix (last w events).base (last w events).history before.settled image

  -- Once a seat that asked was told that so many growths of its phase are settled, each of them stands in every image left
  -- since: opening that gives a prefix which has the commands from before the phase and the growths up to that one.
  abbrev pub LeavesTold : World R → List (Event R) → Type 0
  LeavesTold w events =
      (j : ℕ) (event : Event R) (seat : ℕ) (phase : GrowthPhase) (told : ℕ) (state : MarkState) → slice_get events j ≡ Some event → event.asked ≡ step.Settled seat
      → event.after.phase ≡ Growing phase → event.answer ≡ step.Told told state → (number : ℕ) → number < told
      → (image : List ℕ) → LeftSince (last w events).disk.states (clock w.disk.states + sum (take (suc j) (map (λ e. e.calls) events))) image
      → OpensToPrefix (last w events).base (last w events).history (phase.before + number + 1) image

  -- ---- what each step's call says, from which it follows

  -- a crash now
  abbrev pub Rests : World R → Type 0
  Rests w = (image : List ℕ) → IsImage (now w.disk.states) image → OpensToPrefix w.base w.history w.settled image

  -- a crash within the step
  abbrev pub Leaves : World R → World R → Type 0
  Leaves w w' = LeavesOnly w.disk.states w'.disk.states (OpensToPrefix w'.base w'.history w.settled)

  -- of a step that calls the device alone
  pub record Inner (w : World R) (e : Event R) : Type 0 where
    pub within : 0 < e.calls → HasFile w.phase → Leaves w e.after
    pub behind : 0 < e.calls → HasFile e.after.phase → Rests e.after

  abbrev pub AllInner : World R → List (Event R) → Type 0
  AllInner w [] = Unit {0}
  AllInner w (e ∷ events) = Inner w e × AllInner e.after events
