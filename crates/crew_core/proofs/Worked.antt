-- Worked values of what contracts say of crews.
use Rattle.std.proofs.Common.{◌≡◌, ℕ, ◌+◌, [], ◌∷◌, refl}
use Rattle.crew_core.specs.Crewing.{counts_to, receipt_of}

counted : counts_to (λ grower. grower + 1) 3 ≡ 6
counted = refl

counted_none : counts_to (λ grower. grower + 1) 0 ≡ 0
counted_none = refl

receipt : receipt_of {R = ℕ} 10 (record { number = 1; start = 3; seat = 2; serial = 4; records = 7 ∷ 8 ∷ [] }) ≡ record { number = 1; start = 13; len = 2; seat = 2; serial = 4 }
receipt = refl
