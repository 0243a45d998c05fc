use Rattle.std.proofs.Common.{◌≡◌, ◌↔◌, ◌∙◌, Bool, true, false, IsTrue, refl, sym, inl, inr}
use Rattle.filing_core.proofs.place.vacant.Goals as goal

-- what isn't true isn't so
isnt : (b : Bool) (So : Type 0) → b ≡ false → (IsTrue b ↔ So) → So → ⊥
isnt b So is iff so = let clash : false ≡ true = sym is ∙ iff.1 so in cc

pub returns-in-Ok-false-clause-taken : goal.returns-in-Ok-false-clause-taken
returns-in-Ok-false-clause-taken g c = inl (
  refl,
  record { same = c.in-Ok-false.ensures.same; images = c.in-Ok-false.ensures.images; no_fault = c.in-Ok-false.ensures.faults; model = c.in-Ok-false.ensures.model },
  λ keeps. isnt c.in-Ok-false.field-0 _ (search) (c.in-Ok-false.ensures.vacant keeps),
)

pub returns-in-Err-clause-taken : goal.returns-in-Err-clause-taken
returns-in-Err-clause-taken g c = inr (c.in-Err.fault, refl, c.in-Err.ensures.faults)
