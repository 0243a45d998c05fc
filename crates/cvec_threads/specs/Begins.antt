-- What handles have of a vector that begins.
use Rattle.std.specs.Prelude.{◌≡◌, ◌≢◌, ◌⊎◌, ℕ, [], Option, None, Some}
use Rattle.segment_core.specs.Shape.{version_of}
use Rattle.segment_core.specs.declared.format.Format.{Format}
use Rattle.c_core.specs.declared.refusal.Refusal.TheVariants.{NotSo}
use Rattle.c_core.specs.Refusal.{code_of}
use Rattle.handle_core.specs.Begins.{HasRead, Begins, RefusesBeginning}
use Rattle.handle_core.specs.Roles.{Seats}
use Rattle.handle_core.specs.Handles.{Refused}
use Rattle.handle_core.specs.Ends.{OfAny, AtAny, AllAt, width_of}
use Rattle.handle_core.specs.declared.end.End.{End}

-- the handle has a file whose records have so many bytes, and of which nothing is read
abbrev pub HasFile : ℕ → Option End → Type 0
HasFile width (Some file) = (width_of file ≡ width) × OfAny (λ _ _ _. HasRead []) file
HasFile width None = ⊥

-- the one handle had a file and has who commits, and the other has the phase, with so much room and so many seats
abbrev pub HasBegun : Option Format → ℕ → ℕ → Option End → Option End → Option End → Type 0
HasBegun made growths seats (Some old) (Some new) (Some phase) = AllAt (λ _ _ _. Begins made growths seats) phase old new
HasBegun made growths seats old new phase = ⊥

-- a new file of that version is made, or, for 0, none
abbrev pub IsMadeAs : ℕ → Option Format → Type 0
IsMadeAs version None = version ≡ 0
IsMadeAs version (Some format) = version ≡ version_of format

-- why it isn't so: the file is refused for a reason that its bytes, the room or the seats give, or for memory, and what is left of it; or there is no such version, and the handle is as it was
abbrev pub IsNotBegun : ℕ → ℕ → ℕ → ℕ → Option End → Option End → Type 0
IsNotBegun version growths seats code old new =
    ((made : Option Format) × IsMadeAs version made × Refused (λ refusal. AtAny (λ _ _ _. RefusesBeginning made growths seats refusal)) code old new)
    ⊎ ((version ≢ 0) × (version ≢ 1) × (version ≢ 2) × (code ≡ code_of NotSo) × (new ≡ old))

-- the handle has what it had, or nothing
abbrev pub IsLeft : Option End → Option End → Type 0
IsLeft old new = (new ≡ old) ⊎ (new ≡ None)

-- the one handle has a new grower of the other's phase
abbrev pub HasSeat : Option End → Option End → Option End → Type 0
HasSeat (Some old) (Some new) (Some seat) = AllAt (λ _ _ _. Seats) seat old new
HasSeat old new seat = ⊥
