-- What was written, piece by piece.
use Rattle.std.proofs.Common.{ℕ, List, [], ◌++◌, Option, Some, None, Result, Ok, Err, refl, sym, ap, ◌∙◌, append_assoc}
use Rattle.std.specs.Prelude.{OnOk}
use Rattle.std.specs.Io.KnownBytes.{Appends, Keeps}
use Rattle.std.proofs.lemmas.List.{append-nil}

pub keeps_same : (known : Option (List ℕ)) → Keeps known known
keeps_same None = tt
keeps_same (Some bytes) = refl

pub appends_nothing : (known : Option (List ℕ)) → Appends known known []
appends_nothing None = tt
appends_nothing (Some bytes) = sym (append-nil bytes)

pub appends_join : (old mid new : Option (List ℕ)) (front behind : List ℕ) → Appends old mid front → Appends mid new behind → Appends old new (front ++ behind)
appends_join None mid new front behind first then = tt
appends_join (Some xs) None new front behind first then = absurd first
appends_join (Some xs) (Some ys) None front behind first then = absurd then
appends_join (Some xs) (Some ys) (Some zs) front behind first then = then ∙ ap (λ (bs : List ℕ). bs ++ behind) first ∙ append_assoc xs front behind

-- the last piece, if it was written
pub appends_last : {X E : Type 0} (written : Result X E) (old mid new : Option (List ℕ)) (front behind : List ℕ) → Appends old mid front
    → OnOk written (Appends mid new behind) → OnOk written (Appends old new (front ++ behind))
appends_last (Ok x) old mid new front behind first then = appends_join old mid new front behind first then
appends_last (Err e) old mid new front behind first then = tt
