-- What a writer holds after one write behind another.
use Rattle.std.proofs.Common.{◌≡◌, ℕ, List, [], ◌++◌, Option, Some, None, Result, Ok, Err, sym, ap, ◌∙◌}
use Rattle.std.specs.Prelude.{OnOk}
use Rattle.std.specs.Io.KnownBytes.{Appends}
use Rattle.std.proofs.lemmas.List.{append_assoc, append-nil}

pub Appends_then : (a b c : Option (List ℕ)) (x y : List ℕ) → Appends a b x → Appends b c y → Appends a c (x ++ y)
Appends_then None b c x y first second = tt
Appends_then (Some xs) None c x y first second = absurd first
Appends_then (Some xs) (Some ys) None x y first second = absurd second
Appends_then (Some xs) (Some ys) (Some zs) x y first second = second ∙ ap (λ (bs : List ℕ). bs ++ y) first ∙ append_assoc xs x y

pub Appends_as : (a b : Option (List ℕ)) (x y : List ℕ) → x ≡ y → Appends a b x → Appends a b y
Appends_as None b x y same first = tt
Appends_as (Some xs) None x y same first = absurd first
Appends_as (Some xs) (Some ys) x y same first = first ∙ ap (λ (bs : List ℕ). xs ++ bs) same

pub OnOk_Appends_then : {T E : Type 0} (r : Result T E) (a b c : Option (List ℕ)) (x y : List ℕ) → Appends a b x → OnOk r (Appends b c y) → OnOk r (Appends a c (x ++ y))
OnOk_Appends_then (Ok t) a b c x y first second = Appends_then a b c x y first second
OnOk_Appends_then (Err e) a b c x y first second = tt

pub OnOk_Appends_as : {T E : Type 0} (r : Result T E) (a b : Option (List ℕ)) (x y : List ℕ) → x ≡ y → OnOk r (Appends a b x) → OnOk r (Appends a b y)
OnOk_Appends_as (Ok t) a b x y same first = Appends_as a b x y same first
OnOk_Appends_as (Err e) a b x y same first = tt

pub Appends_none : (a : Option (List ℕ)) → Appends a a []
Appends_none None = tt
Appends_none (Some xs) = sym (append-nil xs)
