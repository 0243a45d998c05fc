-- What a search goes over.
use Rattle.std.specs.Prelude.{◌≡◌, ℕ, ◌+◌, ◌≤◌, ◌^◌, ◌++◌, Bool, true, List, length, map, take, slice_get, Option, None, MatchOption, IsSomeAnd}
use Rattle.std.specs.List.{count_by}
use Rattle.std.specs.Borrow.{Bor}
use Rattle.std.specs.Iterator.{Yields, YieldsThen}
use Rattle.segment_core.specs.Written.{joined}

-- the records of slices, in order
abbrev pub records_in : {R : Type 0} → List (Bor (List R)) → List R
records_in slices = joined (map (λ s. s.now) slices)

-- however far an iterator is asked, it lends no more records than a vector may have
abbrev pub LendsFew : {I R : Type 0} → (I → Option (Bor (List R)) → I → Type 0) → I → Type 0
LendsFew {I} {R} steps pieces = (items : List (Bor (List R))) (rest : I) → Yields steps pieces items rest → length (records_in items) ≤ 2 ^ 32

-- and with these records before them
abbrev pub LendsFewBehind : {I R : Type 0} → List R → (I → Option (Bor (List R)) → I → Type 0) → I → Type 0
LendsFewBehind {I} {R} records steps pieces =
    (items : List (Bor (List R))) (rest : I) → Yields steps pieces items rest → length records + length (records_in items) ≤ 2 ^ 32

-- the iterator lends these slices, and no more
abbrev pub LendsAll : {I R : Type 0} → (I → Option (Bor (List R)) → I → Type 0) → I → List (Bor (List R)) → Type 0
LendsAll {I} steps pieces items = (end : I) × YieldsThen steps pieces items None end

-- it lends these slices: and no more, where nothing was found among them
abbrev pub LendsUntil : {I R : Type 0} → (I → Option (Bor (List R)) → I → Type 0) → I → List (Bor (List R)) → Option ℕ → Type 0
LendsUntil {I} steps pieces items found = MatchOption found (LendsAll steps pieces items) (λ _. (end : I) × Yields steps pieces items end)

-- no record is picked, or this is the first position of one that is
abbrev pub IsFirst : {R : Type 0} → (R → Bool) → List R → Option ℕ → Type 0
IsFirst picks records found = MatchOption found (count_by picks records ≡ 0) (λ i. (count_by picks (take i records) ≡ 0) × IsSomeAnd (slice_get records i) (λ r. picks r ≡ true))

-- Of records behind so many others the first ones were let go, of which none is picked, and these are left.
abbrev pub PassesOver : {R : Type 0} → (R → Bool) → ℕ → List R → ℕ → List R → Type 0
PassesOver {R} picks before records then left = (gone : List R) × (records ≡ gone ++ left) × (count_by picks gone ≡ 0) × (then ≡ before + length gone)
