-- What was written, piece by piece.
use Rattle.std.proofs.Common.{ℕ, List, ◌++◌, Option, Some, None, Result, Ok, Err, OnOk, ap, ◌∙◌}
use Rattle.std.specs.Io.KnownBytes.{Appends}
use Rattle.std.proofs.lemmas.List.{append_assoc}

appends_join : (old mid new : Option (List ℕ)) (front behind : List ℕ) → Appends old mid front → Appends mid new behind → Appends old new (front ++ behind)
appends_join None mid new front behind first then = tt
appends_join (Some xs) None new front behind first then = absurd first
appends_join (Some xs) (Some ys) None front behind first then = absurd then
appends_join (Some xs) (Some ys) (Some zs) front behind first then = then ∙ ap (λ (bs : List ℕ). bs ++ behind) first ∙ append_assoc xs front behind

-- a piece, and what was written behind it, if it was
pub appends_before : {X E : Type 0} (written : Result X E) (old mid new : Option (List ℕ)) (front behind : List ℕ) → Appends old mid front
    → OnOk written (Appends mid new behind) → OnOk written (Appends old new (front ++ behind))
appends_before (Ok x) old mid new front behind first then = appends_join old mid new front behind first then
appends_before (Err e) old mid new front behind first then = tt
