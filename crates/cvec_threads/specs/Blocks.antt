-- What handles have of a block that C writes in place.
use Rattle.std.specs.Prelude.{◌≡◌, ◌⊎◌, ℕ, Option, None, Some}
use denote.RawPtr.{Ptr}
use Rattle.book_core.specs.declared.seat.Receipt.{Receipt}
use Rattle.c_core.specs.declared.refusal.Refusal.{Refusal}
use Rattle.c_core.specs.declared.refusal.Refusal.TheVariants.{Memory, NotSo}
use Rattle.c_core.specs.Refusal.{code_of}
use Rattle.handle_core.specs.Roles.{IsBlockOf, RefusesBlock, Publishes, RefusesPublishing}
use Rattle.handle_core.specs.Ends.{OfAny, AtAny, AllAt, RefusedWith}
use Rattle.handle_core.specs.declared.end.End.{End}

-- the one handle has a grower, and the other a block of so many blank records, which stand there
abbrev pub HasBlock : ℕ → Ptr → Option End → Option End → Type 0
HasBlock count place (Some grower) (Some block) = AtAny (λ _ _ _. IsBlockOf count place) grower block
HasBlock count place grower block = ⊥

-- why there is none: a growth of so many records can't be, or there was no memory; or the handle had no grower, or nothing
abbrev pub IsNoBlock : ℕ → ℕ → Option End → Type 0
IsNoBlock count code (Some grower) = (refusal : Refusal) × (code ≡ code_of refusal) × (OfAny (λ _ _ _. RefusesBlock count refusal) grower ⊎ (refusal ≡ Memory))
IsNoBlock count code None = code ≡ code_of NotSo

-- the one handle had a block, and the grower of the other made one growth of its records
abbrev pub HasGrownBy : Receipt → Option End → Option End → Option End → Type 0
HasGrownBy receipt (Some block) (Some old) (Some new) = AllAt (λ _ _ _. Publishes receipt) block old new
HasGrownBy receipt block old new = ⊥

-- why it hasn't: so; or one of the handles had nothing, and the grower's is as it was
abbrev pub IsNotGrownBy : ℕ → Option End → Option End → Option End → Type 0
IsNotGrownBy code (Some block) (Some old) (Some new) = (refusal : Refusal) × (code ≡ code_of refusal) × RefusedWith (λ refusal _ _ _. RefusesPublishing refusal) refusal block old new
IsNotGrownBy code (Some block) (Some old) None = ⊥
IsNotGrownBy code block old new = (code ≡ code_of NotSo) × (new ≡ old)
