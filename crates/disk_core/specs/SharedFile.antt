-- A real file that another process writes: what its calls and their answers, of which the newest stands first, tell.
use Rattle.std.specs.Prelude.{ℕ, suc, List, [], ◌∷◌, length, max}
use Rattle.disk_core.specs.declared.ghost_bytes.GhostBytes.{GhostBytes}
use Rattle.disk_core.specs.declared.shared_event.SharedEvent.{SharedEvent}
use Rattle.disk_core.specs.declared.shared_event.SharedEvent.TheVariants.{Read, Synced, Failed}
use Rattle.disk_core.specs.declared.shared_file.SharedFile.{SharedFile}
use Rattle.disk_core.specs.SharedTruth.{SharedTruth, held_at, end_of_call}
use Rattle.disk_core.specs.Shared.{InTurn}

-- the bytes of an answer stood at their places during the call, one after the other; so many calls came before it
abbrev pub IsSharedAnswer : SharedTruth → ℕ → SharedEvent → List ℕ → Type 0
IsSharedAnswer truth calls (Read at) bytes = InTurn (held_at truth.first truth.later) (end_of_call truth calls) (end_of_call truth (suc calls)) at bytes
IsSharedAnswer truth calls Synced bytes = Unit {0}
IsSharedAnswer truth calls Failed bytes = Unit {0}

abbrev pub AreSharedAnswers : SharedTruth → List (SharedEvent × GhostBytes) → Type 0
AreSharedAnswers truth [] = Unit {0}
AreSharedAnswers truth ((event, passed) ∷ log) = IsSharedAnswer truth (length log) event passed.bytes × AreSharedAnswers truth log

-- the moments that a call, which began at one, leaves on the device
abbrev pub synced_after : SharedEvent → ℕ → ℕ → ℕ
synced_after (Read at) begun earlier = earlier
synced_after Synced begun earlier = max (suc begun) earlier
synced_after Failed begun earlier = earlier

abbrev pub synced_by : SharedTruth → List (SharedEvent × GhostBytes) → ℕ
synced_by truth [] = 0
synced_by truth ((event, passed) ∷ log) = synced_after event (end_of_call truth (length log)) (synced_by truth log)

module _ {F : Type 0} where
  abbrev pub shared_truth_of : SharedFile F → SharedTruth
  shared_truth_of file = file.unseen.facts

  abbrev pub held_of : SharedFile F → ℕ → List ℕ
  held_of file = held_at file.unseen.facts.first file.unseen.facts.later

  abbrev pub now_of : SharedFile F → ℕ
  now_of file = end_of_call file.unseen.facts (length file.log.items)

  abbrev pub synced_of : SharedFile F → ℕ
  synced_of file = synced_by file.unseen.facts file.log.items

  abbrev pub HasKept : SharedFile F → Type 0
  HasKept file = AreSharedAnswers file.unseen.facts file.log.items
