-- What holds of all seats, once the last one is taken.
use Rattle.std.proofs.Common.{◌≡◌, ℕ, zero, suc, ◌<◌, List, [], ◌∷◌, ◌++◌, Option, Some, None, All, subst, arith}
use Rattle.std.specs.Prelude.{IfSome, option_to_list}
use Rattle.std.proofs.lemmas.List.{append-nil}

all-front : {X : Type 0} (P : X → Type 0) (xs : List X) (x : X) → All P (xs ++ x ∷ []) → All P xs × P x
all-front P [] x all = ((λ k d lt. absurd (omega arith)), all 0 x (omega arith))
all-front {X} P (y ∷ ys) x all =
    let rest = all-front P ys x (λ k d lt. all (suc k) d (omega arith)) in
    (front rest.0, rest.1)
  where
    front : All P ys → All P (y ∷ ys)
    front others zero d lt = all 0 d (omega arith)
    front others (suc k) d lt = others k d (omega arith)

pub all-pop : {X : Type 0} (P : X → Type 0) (xs rest : List X) (last : Option X) → All P xs → xs ≡ rest ++ option_to_list last → All P rest × IfSome last P
all-pop P xs rest None all is = (subst (λ ys. All P ys) (append-nil rest) (subst (λ ys. All P ys) is all), tt)
all-pop P xs rest (Some x) all is = all-front P rest x (subst (λ ys. All P ys) is all)
