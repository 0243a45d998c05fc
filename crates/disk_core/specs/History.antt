-- What a log tells of a disk: at each moment what lay below it then, and how that moment came about. The newest stands first.
use Rattle.std.specs.Prelude.{ℕ, ◌+◌, List, [], ◌∷◌}
use Rattle.disk_core.specs.declared.event.Event.{Event}
use Rattle.disk_core.specs.declared.event.Event.TheVariants.{Began, Done, Failed}
use Rattle.disk_core.specs.State.{State, now}

abbrev pub states_after : Event → List State → List State → List State
states_after Began below earlier = below
states_after Done below earlier = now below ∷ earlier
states_after Failed below earlier = now below ∷ earlier

abbrev pub faults_after : Event → ℕ → ℕ → ℕ
faults_after Began below earlier = below
faults_after Done below earlier = earlier
faults_after Failed below earlier = earlier + 1

abbrev pub logged_states : {A : Type 0} → (A → List State) → List (A × Event) → List State
logged_states states_of [] = []
logged_states states_of ((below, event) ∷ log) = states_after event (states_of below) (logged_states states_of log)

abbrev pub logged_faults : {A : Type 0} → (A → ℕ) → List (A × Event) → ℕ
logged_faults faults_of [] = 0
logged_faults faults_of ((below, event) ∷ log) = faults_after event (faults_of below) (logged_faults faults_of log)

-- of what has no past, one state
abbrev pub alone : State → List State
alone s = s ∷ []
