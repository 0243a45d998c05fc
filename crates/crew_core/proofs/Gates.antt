-- What a gate is asked and told.
use Rattle.std.proofs.Common.{◌≡◌, ℕ, zero, suc, ◌+◌, ◌<◌, List, [], ◌∷◌, ◌++◌, refl, length, map, get_or, slice_get, Some, All, sym, ap, subst, ◌∙◌, arith}
use Rattle.std.proofs.lemmas.List.{get_or-map, length-map}
use Rattle.std.proofs.lemmas.Option.{get_or_from_slice_get}
use Rattle.block_core.specs.Growth.{Growth}
use Rattle.book_core.specs.declared.seat.Receipt.{Receipt}
use Rattle.crew_core.specs.Crewing.{ComesNext, receipt_of}

some_there : {X : Type 0} (xs : List X) (k : ℕ) → k < length xs → (x : X) × (slice_get xs k ≡ Some x)
some_there [] k lt = absurd (omega arith)
some_there (x ∷ xs) zero lt = (x, refl)
some_there (x ∷ xs) (suc k) lt = some_there xs k (omega arith)

-- where all of its growths were told, the next one may be
pub comes_next : {R : Type 0} (was_told : Receipt → Type 0) (before : ℕ) (made : List (Growth R)) (receipts : List Receipt) (k : ℕ)
    → receipts ≡ map (receipt_of before) made → length made ≡ k
    → ((j : ℕ) (growth : Growth R) → slice_get made j ≡ Some growth → growth.serial ≡ j) → All was_told receipts → ComesNext was_told k
comes_next {R} was_told before made receipts k are long serials all j next =
    let lt : j < length made = omega arith in
    let there = some_there made j lt in
    let growth = there.0 in
    let receipt = receipt_of before growth in
    let within : j < length receipts = let n = ap length are ∙ length-map made (receipt_of before) in omega arith in
    let is : get_or receipts j receipt ≡ receipt =
    ap (λ (rs : List Receipt). get_or rs j receipt) are ∙ get_or-map (receipt_of before) made j growth receipt lt
    ∙ ap (receipt_of before) (get_or_from_slice_get made j growth growth there.1) in
    (receipt, serials j growth there.1, subst was_told is (all j receipt within))

pub told_more : (P : Receipt → Type 0) (receipts : List Receipt) (receipt : Receipt) → All P receipts → P receipt → All P (receipts ++ receipt ∷ [])
told_more P [] receipt all here zero d lt = here
told_more P [] receipt all here (suc k) d lt = absurd (omega arith)
told_more P (r ∷ receipts) receipt all here zero d lt = all zero d (omega arith)
told_more P (r ∷ receipts) receipt all here (suc k) d lt = told_more P receipts receipt (λ j e within. all (suc j) e (omega arith)) here k d (omega arith)
