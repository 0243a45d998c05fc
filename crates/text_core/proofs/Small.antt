-- Small facts on results and lists.
use Rattle.std.proofs.Common.{◌≡◌, ◌≢◌, ◌<◌, Bool, true, false, List, [], ◌∷◌, ◌++◌, length, Option, Some, None, Result, Ok, Err, refl, sym, ◌∙◌, arith}
use Rattle.std.specs.List.{AllByRecursion}
use Rattle.std.specs.Prelude.{is_ok, OnOk, IfOk, IfSome, IfNone, IsErrAnd, IsTrue}

pub OnOk_from : {T E : Type 0} (r : Result T E) (P : Type 0) → (is_ok r ≡ true → P) → OnOk r P
OnOk_from (Ok t) P f = f refl
OnOk_from (Err e) P f = tt

-- the error that a `?` passes on
pub err_is : {T E : Type 0} (r : Result T E) (e x : E) → IsErrAnd r (λ y. y ≡ x) → r ≡ Err e → x ≡ e
err_is (Ok t) e x so is = absurd so
err_is (Err y) e x so is = let same : y ≡ e = cc is in sym so ∙ same

pub nil_from_length : {X : Type 0} (xs : List X) → length xs ≡ 0 → xs ≡ []
nil_from_length [] none = refl
nil_from_length (x ∷ xs) none = absurd (omega arith)

pub IfNone_from : {T : Type 0} (o : Option T) (P : Type 0) → P → IfNone o P
IfNone_from None P so = so
IfNone_from (Some t) P so = tt

pub OnOk_at : {T E : Type 0} (r : Result T E) (P : Type 0) → OnOk r P → is_ok r ≡ true → P
OnOk_at (Ok t) P so ok = so
OnOk_at (Err e) P so ok = absurd cc

pub IfSome_weaker : {T : Type 0} (o : Option T) (P Q : T → Type 0) → ((t : T) → P t → Q t) → IfSome o P → IfSome o Q
IfSome_weaker None P Q f so = tt
IfSome_weaker (Some t) P Q f so = f t so

not_nil : {X : Type 0} (x : X) (xs : List X) → x ∷ xs ≢ []
not_nil x xs is = cc is

-- a list of which a test says that something stands in it, or nothing
pub nil_from_test : {X : Type 0} (xs : List X) (b : Bool) → b ≡ false → (xs ≢ [] → IsTrue b) → xs ≡ []
nil_from_test [] b none some = refl
nil_from_test (x ∷ xs) b none some = let is : false ≡ true = sym none ∙ some (not_nil x xs) in absurd cc

pub some_from_test : {X : Type 0} (xs : List X) (b : Bool) → b ≡ true → (IsTrue b → xs ≢ []) → 0 < length xs
some_from_test [] b is some = absurd (some is refl)
some_from_test (x ∷ xs) b is some = omega arith

pub push_all : {X : Type 0} (P : X → Type 0) (xs : List X) (x : X) → AllByRecursion P xs → P x → AllByRecursion P (xs ++ x ∷ [])
push_all P [] x all one = (one, tt)
push_all P (y ∷ xs) x all one = (all.0, push_all P xs x all.1 one)

pub IfOk_weaker : {T E : Type 0} (r : Result T E) (P Q : T → Type 0) → ((t : T) → P t → Q t) → IfOk r P → IfOk r Q
IfOk_weaker (Ok t) P Q f so = f t so
IfOk_weaker (Err e) P Q f so = tt
