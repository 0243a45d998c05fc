-- The calls of a creation, and the one that failed.
use Rattle.std.proofs.Common.{◌≡◌, ℕ, zero, suc, ◌+◌, ◌-◌, ◌≤◌, ◌<◌, inl, inr, cond, List, [], ◌∷◌, ◌++◌, length, Some, Result, Ok, Err, MatchResult, refl, sym, ap, ◌∙◌, arith}
use Rattle.std.specs.Prelude.{slice_get, nat_le}
use Rattle.std.proofs.lemmas.Bool.{cases_Bool, le-leb, leb-true}
use Rattle.disk_core.specs.declared.fault.DiskFault.{DiskFault}
use Rattle.disk_core.specs.declared.fault.DiskFault.TheVariants.{Length, Read, Sync}
use Rattle.disk_core.specs.Fault.{IsCounted}
use Rattle.pen_core.specs.declared.fault.PenFault.{PenFault}
use Rattle.pen_core.specs.declared.fault.PenFault.TheVariants as faults
use Rattle.pen_core.specs.Births.{first_calls, write_calls, EndsAt, AreCallsUntil}

-- call number k, from 0, has failed
pub ends_at : (calls : List DiskFault) (k n : ℕ) (kind cause : DiskFault) → slice_get calls k ≡ Some kind → cause ≡ kind
    → n ≡ k + 1 → EndsAt calls cause n
ends_at calls k n kind cause there is time =
    let at : n - 1 ≡ k = omega arith in
    (omega arith, ap (slice_get calls) at ∙ there ∙ ap (λ c. Some c) (sym is))

get_front : (calls more : List DiskFault) (i : ℕ) (cause : DiskFault) → slice_get calls i ≡ Some cause → slice_get (calls ++ more) i ≡ Some cause
get_front [] more i cause is = absurd cc
get_front (c ∷ calls) more zero cause is = is
get_front (c ∷ calls) more (suc i) cause is = get_front calls more i cause is

get_behind : (before calls : List DiskFault) (i : ℕ) → slice_get (before ++ calls) (length before + i) ≡ slice_get calls i
get_behind [] calls i = let none : 0 + i ≡ i = omega arith in ap (slice_get calls) none
get_behind (c ∷ before) calls i =
    let more : suc (length before) + i ≡ suc (length before + i) = omega arith in
    ap (slice_get (c ∷ before ++ calls)) more ∙ get_behind before calls i

-- with calls behind it, and before it
pub ends_front : (calls more : List DiskFault) (n : ℕ) (cause : DiskFault) → EndsAt calls cause n → EndsAt (calls ++ more) cause n
ends_front calls more n cause ends = (ends.0, get_front calls more (n - 1) cause ends.1)

pub ends_behind : (before calls : List DiskFault) (n m : ℕ) (cause : DiskFault) → m ≡ length before + n
    → EndsAt calls cause n → EndsAt (before ++ calls) cause m
ends_behind before calls n m cause is ends =
    let some = ends.0 in
    let at : m - 1 ≡ length before + (n - 1) = omega arith in
    (omega arith, ap (slice_get (before ++ calls)) at ∙ get_behind before calls (n - 1) ∙ ends.1)

-- a refusal behind more calls
pub until_behind : (bytes : List ℕ) (before calls more : List DiskFault) (n m : ℕ) (fault : PenFault) → m ≡ length before + n
    → 0 < n → AreCallsUntil bytes calls fault n → AreCallsUntil bytes (before ++ calls ++ more) fault m
until_behind bytes before calls more n m (faults.Disk cause) is some until =
    ends_front (before ++ calls) more m cause (ends_behind before calls n m cause is until)
until_behind bytes before calls more n m faults.Exists is some (inl told) =
    inl (told.0, ends_front (before ++ calls) more m Length (ends_behind before calls n m Length is told.1))
until_behind bytes before calls more n m faults.Exists is some (inr told) =
    inr (told.0, ends_front (before ++ calls) more m Read (ends_behind before calls n m Read is told.1))
until_behind bytes before calls more n m faults.Memory is some until = absurd (omega arith)
until_behind bytes before calls more n m faults.Broken is some until = absurd until
until_behind bytes before calls more n m faults.Busy is some until = absurd until
until_behind bytes before calls more n m faults.OldFormat is some until = absurd until
until_behind bytes before calls more n m faults.Runs is some until = absurd until
until_behind bytes before calls more n m faults.OutOfRange is some until = absurd until
until_behind bytes before calls more n m faults.TooLarge is some until = absurd until
until_behind bytes before calls more n m faults.Unfolded is some until = absurd until
until_behind bytes before calls more n m faults.FileFull is some until = absurd until

-- the first calls of a disk with at most one byte, with no more than an empty file has, and with more
pub first_blank : (bytes : List ℕ) → length bytes ≤ 1 → first_calls bytes ≡ Length ∷ write_calls
first_blank bytes short = ap (λ b. Length ∷ cond b write_calls (cond (nat_le (length bytes) 12) (Read ∷ []) [])) (le-leb (length bytes) 1 short)

pub first_longer : (bytes : List ℕ) → 1 < length bytes → first_calls bytes ≡ Length ∷ cond (nat_le (length bytes) 12) (Read ∷ []) []
first_longer bytes long = elim (cases_Bool (nat_le (length bytes) 1)) [
  | inr none ↦ ap (λ b. Length ∷ cond b write_calls (cond (nat_le (length bytes) 12) (Read ∷ []) [])) none
  | inl is ↦ (let short = leb-true (length bytes) 1 is in absurd (omega arith))
]

pub first_long : (bytes : List ℕ) → 1 < length bytes → length bytes ≤ 12 → first_calls bytes ≡ Length ∷ Read ∷ []
first_long bytes long short = first_longer bytes long ∙ ap (λ b. Length ∷ cond b (Read ∷ []) []) (le-leb (length bytes) 12 short)

-- the write has succeeded, and the sync is answered
pub sync_ends : {T : Type 0} (r : Result T DiskFault) (before after old new : ℕ) → IsCounted Sync before after r
    → new ≡ old + 2 → MatchResult r (λ _. new ≡ old + 2) (λ cause. EndsAt write_calls cause (new - old))
sync_ends (Ok value) before after old new counted time = time
sync_ends (Err cause) before after old new counted time = ends_at write_calls 1 (new - old) Sync cause refl counted.0 (omega arith)
