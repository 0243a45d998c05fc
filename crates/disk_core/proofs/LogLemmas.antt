-- What one call more in a log makes of the states.
use Rattle.std.proofs.Common.{List, ◌∷◌, ℕ, Bool, true, false, cond, Result, Ok, Err, OnErr, refl}
use Rattle.disk_core.specs.declared.event.Event.{Event}
use Rattle.disk_core.specs.declared.event.Event.TheVariants.{Done, Failed}
use Rattle.disk_core.specs.State.{State, now, IsTornWrite}
use Rattle.disk_core.specs.Calls.{TearsWrite}
use Rattle.disk_core.specs.History.{logged_states}

pub logged_states-call : {A : Type 0} (states_of : A → List State) (succeeded : Bool) (below : A) (log : List (A × Event)) (at len : ℕ)
    → IsTornWrite at len (now (logged_states states_of log)) (now (states_of below))
    → TearsWrite at len (logged_states states_of log) (logged_states states_of ((below, cond succeeded Done Failed) ∷ log))
logged_states-call states_of true below log at len has = (now (states_of below), refl, has)
logged_states-call states_of false below log at len has = (now (states_of below), refl, has)

-- what holds anyway holds after a failure
pub on_err : {T E : Type 0} (P : Type 0) (r : Result T E) → P → OnErr r P
on_err P (Ok value) has = tt
on_err P (Err error) has = has
