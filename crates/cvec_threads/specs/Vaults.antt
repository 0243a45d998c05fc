-- How a vault is lent again, and a fold.
use Rattle.std.specs.Prelude.{ℕ, Bool, Option, Some}
use Rattle.handle_core.specs.Vaults.{FoldsAll, SharesOut}
use Rattle.handle_core.specs.Ends.{AllAt, AtAny}
use Rattle.handle_core.specs.declared.end.End.{End}

-- the one handle had a vault and has who commits, and the other has the phase, with so much room and so many seats
abbrev pub HasPhase : ℕ → ℕ → Option End → Option End → Option End → Type 0
HasPhase growths seats (Some old) (Some new) (Some end) = AllAt (λ _ _ _. SharesOut growths seats) end old new
HasPhase growths seats old new end = ⊥

-- all changes are folded, if there were some
abbrev pub IsFolded : End → End → Type 0
IsFolded old new = (folded : Bool) × AtAny (λ _ _ _. FoldsAll folded) old new
