-- A test for equality is one for just the wanted record.
use Rattle.std.proofs.Common.{◌≡◌, Bool, true, sym, subst}
use Rattle.std.specs.Cmp.{IsEquivalence}
use Rattle.text_core.specs.Answers.{TestsFor}

pub equals_alone : {R : Type 0} (eq : R → R → Bool) (wanted : R) → IsEquivalence eq → ((x y : R) → eq x y ≡ true → x ≡ y) → TestsFor wanted (λ r. eq r wanted)
equals_alone eq wanted laws exact r = (exact r wanted, λ same. subst (λ x. eq x wanted ≡ true) (sym same) (laws.refl wanted))
