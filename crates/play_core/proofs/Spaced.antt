-- Records with a space between each two.
use Rattle.std.proofs.Common.{◌≡◌, ℕ, List, [], ◌∷◌, ◌++◌, codes, ap, ◌∙◌}
use Rattle.std.specs.List.{flat_map}
use Rattle.std.proofs.lemmas.List.{append_assoc, append-nil}
use Rattle.text_core.specs.GroupLine.{growth_text}

pub spaced : {R : Type 0} (text_of : R → List ℕ) (r : R) (records : List R) → text_of r ++ flat_map (λ s. codes " " ++ text_of s) records ≡ growth_text text_of (r ∷ records)
spaced text_of r [] = append-nil (text_of r)
spaced text_of r (s ∷ records) =
    ap (λ (t : List ℕ). text_of r ++ t) (append_assoc (codes " ") (text_of s) (flat_map (λ s. codes " " ++ text_of s) records) ∙ ap (λ (t : List ℕ). codes " " ++ t) (spaced text_of s records))
