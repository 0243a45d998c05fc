-- The bytes of a reader, piece by piece.
use Rattle.std.proofs.Common.{◌≡◌, ℕ, ◌+◌, ◌<◌, ◌≤◌, ◌≢◌, List, ◌++◌, length, take, Option, Some, None, Result, Ok, Err, IfSome, IfErr, IsErrAnd}
use Rattle.std.proofs.Common.{sym, ap, subst, ◌∙◌, arith, append_assoc}
use Rattle.std.proofs.lemmas.List.{length-append, length-take-le, take-append-le}
use Rattle.std.specs.Io.KnownBytes.{Consumes}
use Rattle.text_core.specs.declared.refusal.Refusal.{Refusal}
use Rattle.text_core.specs.declared.refusal.Refusal.TheVariants as refusals
use Rattle.text_core.specs.Refusals.{IsInputRefusal, input_limit}

-- so many reads have taken these bytes
pub record HasInput (old new : Option (List ℕ)) (input : List ℕ) (reads : ℕ) : Type 0 where
  pub taken : Consumes old new input
  pub within : length input ≤ input_limit
  pub progress : reads ≤ length input

consumes_more : (old mid new : Option (List ℕ)) (xs ys : List ℕ) → Consumes old mid xs → Consumes mid new ys → Consumes old new (xs ++ ys)
consumes_more None mid new xs ys a b = tt
consumes_more (Some ms) None new xs ys a b = absurd a
consumes_more (Some ms) (Some ns) None xs ys a b = absurd b
consumes_more (Some ms) (Some ns) (Some os) xs ys a b = a ∙ (ap (λ (zs : List ℕ). xs ++ zs) b ∙ sym (append_assoc xs ys os))

consumed_len : (xs : List ℕ) (new : Option (List ℕ)) (ys : List ℕ) → Consumes (Some xs) new ys → length ys ≤ length xs
consumed_len xs None ys none = absurd none
consumed_len xs (Some zs) ys is = omega (arith, ap length is, length-append ys zs)

module _ (old mid new : Option (List ℕ)) (input bytes : List ℕ) (n : ℕ) (before : Consumes old mid input) (read : Consumes mid new (take n bytes)) where
  -- one read more
  pub read_more : (reads : ℕ) (rest now : List ℕ) → reads ≤ length input → n ≤ length bytes → (n ≡ 0 → ⊥) → length input + n ≤ input_limit
      → now ≡ input ++ take n (bytes ++ rest) → HasInput old new now (reads + 1)
  read_more reads rest now progress inside some fits is =
      let whole : now ≡ input ++ take n bytes = is ∙ ap (λ (zs : List ℕ). input ++ zs) (take-append-le n bytes rest inside) in
      let many : length now ≡ length input + n = ap length whole ∙ (length-append input (take n bytes) ∙ ap (λ (k : ℕ). length input + k) (length-take-le n bytes inside)) in
      record {
        taken = subst (λ (zs : List ℕ). Consumes old new zs) (sym whole) (consumes_more old mid new input (take n bytes) before read);
        within = omega arith;
        progress = let other : n ≢ 0 = some in omega arith;
      }

  too_long : (all : Option (List ℕ)) → Consumes all new (input ++ take n bytes) → n ≤ length bytes → input_limit < length input + n
      → IfSome all (λ bs. IsInputRefusal bs refusals.InputTooLong)
  too_long None taken inside past = tt
  too_long (Some xs) taken inside past =
      let least = consumed_len xs new (input ++ take n bytes) taken in omega (arith, least, length-append input (take n bytes), length-take-le n bytes inside)

  pub refused_long : n ≤ length bytes → input_limit < length input + n → IfSome old (λ bs. IsInputRefusal bs refusals.InputTooLong)
  refused_long inside past = too_long old (consumes_more old mid new input (take n bytes) before read) inside past

pub refused_input : (all : Option (List ℕ)) → IfSome all (λ bs. IsInputRefusal bs refusals.Input)
refused_input None = tt
refused_input (Some xs) = tt

pub refused_memory : {X : Type 0} (r : Result X Refusal) (all : Option (List ℕ)) → IsErrAnd r (λ e. e ≡ refusals.Memory)
    → IfErr r (λ refusal. IfSome all (λ bs. IsInputRefusal bs refusal))
refused_memory (Ok x) all is = tt
refused_memory (Err e) None is = tt
refused_memory (Err e) (Some xs) is = subst (λ (r : Refusal). IsInputRefusal xs r) (sym is) tt
