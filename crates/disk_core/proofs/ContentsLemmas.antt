-- What one more pending extent makes of the contents of a disk in memory.
use Rattle.std.proofs.Common.{◌≡◌, ℕ, ◌+◌, max, List, [], ◌∷◌, ◌++◌, length, Result, Ok, Err, OnErr, refl, sym, ◌∙◌, ap}
use Rattle.disk_core.specs.declared.extent.Extent.{Extent}
use Rattle.disk_core.specs.State.{State, touched}
use Rattle.disk_core.specs.Contents.{contents_state}

contents_state-push : (bytes synced : List ℕ) (es : List Extent) (e : Extent) (greatest : ℕ)
    → contents_state bytes synced (es ++ e ∷ []) greatest ≡ record { seen = bytes; synced = synced; pending = es ++ e ∷ []; greatest = greatest }
contents_state-push bytes synced [] e greatest = refl
contents_state-push bytes synced (x ∷ es) e greatest = refl

-- one extent more, while the bytes stay
pub contents_state-touched : (bytes synced : List ℕ) (es : List Extent) (greatest at len : ℕ) → (es ≡ [] → (synced ≡ bytes) × (greatest ≡ length bytes))
    → contents_state bytes synced (es ++ record { at = at; len = len } ∷ []) (max greatest (at + len)) ≡ touched (contents_state bytes synced es greatest) at len bytes
contents_state-touched bytes synced [] greatest at len fresh =
    let is = fresh refl in
    ap (λ (old : List ℕ). touched (record { seen = bytes; synced = old; pending = []; greatest = greatest }) at len bytes) is.0
    ∙ ap (λ n. touched (record { seen = bytes; synced = bytes; pending = []; greatest = n }) at len bytes) is.1
contents_state-touched bytes synced (x ∷ es) greatest at len fresh = refl

contents_state-seen : (bytes synced : List ℕ) (es : List Extent) (greatest : ℕ) → (contents_state bytes synced es greatest).seen ≡ bytes
contents_state-seen bytes synced [] greatest = refl
contents_state-seen bytes synced (x ∷ es) greatest = refl

pub on_err : {T E : Type 0} {P Q : Type 0} (r : Result T E) → (P → Q) → OnErr r P → OnErr r Q
on_err (Ok value) to p = p
on_err (Err error) to p = to p

-- memory ran out once the extent was pending
pub touched_from : (s : State) (bytes synced new : List ℕ) (es pushed : List Extent) (greatest raised at len : ℕ)
    → contents_state bytes synced es greatest ≡ s → (es ≡ [] → (synced ≡ bytes) × (greatest ≡ length bytes))
    → new ≡ bytes → pushed ≡ es ++ record { at = at; len = len } ∷ [] → raised ≡ max greatest (at + len) → contents_state new synced pushed raised ≡ touched s at len s.seen
touched_from s bytes synced new es pushed greatest raised at len is fresh same push raise =
    rw (← is, same, push, raise) (contents_state-touched bytes synced es greatest at len fresh
    ∙ ap (touched (contents_state bytes synced es greatest) at len) (sym (contents_state-seen bytes synced es greatest)))
