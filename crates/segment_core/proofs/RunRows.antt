-- The runs of a change: written, read, and counted one by one, in both versions.
use Rattle.std.proofs.Common.{◌≡◌, ℕ, zero, suc, ◌+◌, ◌*◌, ◌^◌, ◌≤◌, ◌<◌, Bool, true, false, List, [], ◌∷◌, ◌++◌, length, take, drop, map, sum, Some, refl, sym, ap, ◌∙◌, append_assoc, arith}
use Rattle.std.specs.Prelude.{nat_lt, slice_get}
use Rattle.std.specs.List.{flat_map, list_all, AllByRecursion}
use Rattle.std.specs.Int.{w64, to_le_bytes, from_le_bytes}
use Rattle.std.proofs.lemmas.Bool.{ltb-true, lt-ltb}
use Rattle.std.proofs.lemmas.List.Sums.{sum_by_push}
use Rattle.std.proofs.lemmas.List.{map_push, take_at, drop_at, drop-drop, take-append-drop, length-append, length-take-le, length-drop}
use Rattle.std.proofs.lemmas.Nat.{le_bytes_8, from_le_bytes-to_le_bytes_8}
use Rattle.record_core.specs.Bytes.{IsBytes}
use Rattle.segment_core.specs.declared.format.Format.{Format}
use Rattle.segment_core.specs.declared.format.Format.TheVariants.{One, Two}
use Rattle.segment_core.specs.Frame.{Run, number_text, number_len, run_text, runs_text, runs_len, records_of_runs}
use Rattle.segment_core.specs.Layout.{IsRun, u64_at, number_at, runs_from}
use Rattle.segment_core.proofs.Numbers.{IsBytes-drop, IsBytes-take, u32_at_first, u32_at-drop, u32_written, u32_small, both_true, true_both, first_false, second_false}

-- ---- one number

pub u64_at_first : (n : ℕ) (rest : List ℕ) → n < 2 ^ 64 → u64_at (to_le_bytes w64 n ++ rest) 0 ≡ n
unfolding u64_at
u64_at_first n rest lt = ap (from_le_bytes w64) (take_at (to_le_bytes w64 n) rest 8 refl) ∙ from_le_bytes-to_le_bytes_8 n lt

pub u64_at-drop : (bytes : List ℕ) (n i : ℕ) → u64_at (drop n bytes) i ≡ u64_at bytes (n + i)
unfolding u64_at
u64_at-drop bytes n i = ap (λ (bs : List ℕ). from_le_bytes w64 (take 8 bs)) (drop-drop i n bytes)

pub u64_written : (bytes : List ℕ) → IsBytes bytes → 8 ≤ length bytes → to_le_bytes w64 (u64_at bytes 0) ≡ take 8 bytes
unfolding u64_at
u64_written bytes fits long = le_bytes_8 (take 8 bytes) (u64_at bytes 0) (length-take-le 8 bytes long) (IsBytes-take 8 bytes fits) refl

pub u64_small : (bytes : List ℕ) (i : ℕ) → IsBytes bytes → u64_at bytes i < 2 ^ 64
unfolding u64_at
u64_small bytes i fits =
    let b = IsBytes-take 8 (drop i bytes) (IsBytes-drop i bytes fits) in
    omega (arith, b 0, b 1, b 2, b 3, b 4, b 5, b 6, b 7)

-- ---- a number that version 1 leaves out

pub length-number_text : (format : Format) (n : ℕ) → length (number_text format n) ≡ number_len format
length-number_text One n = refl
length-number_text Two n = refl

pub number_at_first : (format : Format) (n : ℕ) (rest : List ℕ) → n < 2 ^ 32 → number_at format n (number_text format n ++ rest) 0 ≡ n
number_at_first One n rest lt = refl
number_at_first Two n rest lt = u32_at_first n rest lt

pub number_at-drop : (format : Format) (given : ℕ) (bytes : List ℕ) (n i : ℕ) → number_at format given (drop n bytes) i ≡ number_at format given bytes (n + i)
number_at-drop One given bytes n i = refl
number_at-drop Two given bytes n i = u32_at-drop bytes n i

pub number_written : (format : Format) (given : ℕ) (bytes : List ℕ)
    → IsBytes bytes → number_len format ≤ length bytes
    → number_text format (number_at format given bytes 0) ≡ take (number_len format) bytes
number_written One given bytes fits long = refl
number_written Two given bytes fits long = u32_written bytes fits long

pub number_small : (format : Format) (given : ℕ) (bytes : List ℕ) (i : ℕ) → IsBytes bytes → given < 2 ^ 32 → number_at format given bytes i < 2 ^ 32
number_small One given bytes i fits lt = lt
number_small Two given bytes i fits lt = u32_small bytes i fits

-- ---- runs as text

pub length-run_text : (format : Format) (run : Run) → length (run_text format run) ≡ 8 + number_len format
length-run_text format run = length-append (to_le_bytes w64 run.start) (number_text format run.count) ∙ ap (λ n. 8 + n) (length-number_text format run.count)

pub length-run_texts : (format : Format) (runs : List Run) → length (flat_map (run_text format) runs) ≡ length runs * (8 + number_len format)
length-run_texts format [] = omega arith
length-run_texts format (run ∷ runs) =
    let more = length-run_texts format runs in
    let one = length-run_text format run in
    let all = length-append (run_text format run) (flat_map (run_text format) runs) in
    let next : length (run ∷ runs) * (8 + number_len format) ≡ (8 + number_len format) + length runs * (8 + number_len format) = omega arith in
    omega arith

pub length-runs_text : (format : Format) (runs : List Run) → length (runs_text format runs) ≡ runs_len format (length runs)
length-runs_text format runs =
    let a = length-append (number_text format (length runs)) (flat_map (run_text format) runs) in
    let b = length-number_text format (length runs) in
    let c = length-run_texts format runs in
    omega arith

-- ---- runs that are read

-- what is read of a run at i
abbrev pub run_read : Format → ℕ → List ℕ → ℕ → Run
run_read format filling bytes i = record { start = u64_at bytes i; count = number_at format filling bytes (i + 8) }

pub length-runs_from : (format : Format) (filling n : ℕ) (bytes : List ℕ) → length (runs_from format filling n bytes) ≡ n
length-runs_from format filling zero bytes = refl
length-runs_from format filling (suc n) bytes = ap suc (length-runs_from format filling n (drop (8 + number_len format) bytes))

pub run_read-drop : (format : Format) (filling : ℕ) (bytes : List ℕ) (n i : ℕ) → run_read format filling (drop n bytes) i ≡ run_read format filling bytes (n + i)
run_read-drop format filling bytes n i =
    let at : n + (i + 8) ≡ n + i + 8 = omega arith in
    let s : u64_at (drop n bytes) i ≡ u64_at bytes (n + i) = u64_at-drop bytes n i in
    let c : number_at format filling (drop n bytes) (i + 8) ≡ number_at format filling bytes (n + i + 8) = number_at-drop format filling bytes n (i + 8) ∙ ap (number_at format filling bytes) at in
    ap (λ (x : ℕ). record { start = x; count = number_at format filling (drop n bytes) (i + 8) }) s ∙ ap (λ (x : ℕ). record { start = u64_at bytes (n + i); count = x }) c

pub slice_get-runs_from : (format : Format) (filling n : ℕ) (bytes : List ℕ) (k : ℕ)
    → k < n
    → slice_get (runs_from format filling n bytes) k ≡ Some (run_read format filling bytes (k * (8 + number_len format)))
slice_get-runs_from format filling zero bytes k lt = absurd (omega arith)
slice_get-runs_from format filling (suc n) bytes zero lt =
    let none : 0 * (8 + number_len format) ≡ 0 = omega arith in
    ap (λ i. Some (run_read format filling bytes i)) (sym none)
slice_get-runs_from format filling (suc n) bytes (suc k) lt =
    let size : ℕ = 8 + number_len format in
    let next : size + k * size ≡ suc k * size = omega arith in
    slice_get-runs_from format filling n (drop size bytes) k (omega arith)
    ∙ ap Some (run_read-drop format filling bytes size (k * size))
    ∙ ap (λ i. Some (run_read format filling bytes i)) next

-- where no counts stand, each is what is given
abbrev pub AreGiven : Format → ℕ → List Run → Type 0
AreGiven One filling runs = AllByRecursion (λ run. run.count ≡ filling) runs
AreGiven Two filling runs = Unit {0}

given_first : (format : Format) (filling : ℕ) (run : Run) (runs : List Run) (rest : List ℕ)
    → AreGiven format filling (run ∷ runs) → run.count < 2 ^ 32
    → number_at format filling (number_text format run.count ++ rest) 0 ≡ run.count
given_first One filling run runs rest given lt = sym given.0
given_first Two filling run runs rest given lt = u32_at_first run.count rest lt

given_rest : (format : Format) (filling : ℕ) (run : Run) (runs : List Run) → AreGiven format filling (run ∷ runs) → AreGiven format filling runs
given_rest One filling run runs given = given.1
given_rest Two filling run runs given = tt

-- what was written is read again
pub runs_from-written : (format : Format) (filling : ℕ) (runs : List Run) (rest : List ℕ)
    → AllByRecursion IsRun runs → AreGiven format filling runs
    → runs_from format filling (length runs) (flat_map (run_text format) runs ++ rest) ≡ runs
runs_from-written format filling [] rest each given = refl
runs_from-written format filling (run ∷ runs) rest each given =
    let size : ℕ = 8 + number_len format in
    let others : List ℕ = flat_map (run_text format) runs in
    let count : List ℕ = number_text format run.count in
    let start : List ℕ = to_le_bytes w64 run.start in
    let all : List ℕ = (run_text format run ++ others) ++ rest in
    let behind : all ≡ run_text format run ++ (others ++ rest) = append_assoc (run_text format run) others rest in
    let split : all ≡ start ++ (count ++ (others ++ rest)) = behind ∙ append_assoc start count (others ++ rest) in
    let first : u64_at all 0 ≡ run.start = ap (λ (bs : List ℕ). u64_at bs 0) split ∙ u64_at_first run.start (count ++ (others ++ rest)) each.0.0 in
    let counted : number_at format filling all 8 ≡ run.count
    = sym (number_at-drop format filling all 8 0)
    ∙ ap (λ (bs : List ℕ). number_at format filling (drop 8 bs) 0) split
    ∙ ap (λ (bs : List ℕ). number_at format filling bs 0) (drop_at start (count ++ (others ++ rest)) 8 refl)
    ∙ given_first format filling run runs (others ++ rest) given each.0.1.1 in
    let left : drop size all ≡ others ++ rest = ap (drop size) behind ∙ drop_at (run_text format run) (others ++ rest) size (length-run_text format run) in
    let head : run_read format filling all 0 ≡ run
    = ap (λ (x : ℕ). record { start = x; count = number_at format filling all 8 }) first
    ∙ ap (λ (x : ℕ). record { start = run.start; count = x }) counted in
    ap (λ (x : Run). x ∷ runs_from format filling (length runs) (drop size all)) head
    ∙ ap (λ (rs : List Run). run ∷ rs) (ap (runs_from format filling (length runs)) left ∙ runs_from-written format filling runs rest each.1 (given_rest format filling run runs given))

-- what was read is written as it stood
pub run_texts-runs_from : (format : Format) (filling n : ℕ) (bytes : List ℕ)
    → IsBytes bytes → n * (8 + number_len format) ≤ length bytes
    → flat_map (run_text format) (runs_from format filling n bytes) ++ drop (n * (8 + number_len format)) bytes ≡ bytes
run_texts-runs_from format filling zero bytes fits long = let none : 0 * (8 + number_len format) ≡ 0 = omega arith in ap (λ k. drop k bytes) none
run_texts-runs_from format filling (suc n) bytes fits long =
    let number : ℕ = number_len format in
    let size : ℕ = 8 + number in
    let next : suc n * size ≡ size + n * size = omega arith in
    let left = length-drop size bytes in
    let eight = length-drop 8 bytes in
    let others = run_texts-runs_from format filling n (drop size bytes) (IsBytes-drop size bytes fits) (omega arith) in
    let texts : List ℕ = flat_map (run_text format) (runs_from format filling n (drop size bytes)) in
    let start : to_le_bytes w64 (u64_at bytes 0) ≡ take 8 bytes = u64_written bytes fits (omega arith) in
    let count : number_text format (number_at format filling bytes 8) ≡ take number (drop 8 bytes)
    = ap (number_text format) (sym (number_at-drop format filling bytes 8 0))
    ∙ number_written format filling (drop 8 bytes) (IsBytes-drop 8 bytes fits) (omega arith) in
    let behind : drop number (drop 8 bytes) ≡ drop size bytes = drop-drop number 8 bytes in
    append_assoc (to_le_bytes w64 (u64_at bytes 0) ++ number_text format (number_at format filling bytes 8)) texts (drop (suc n * size) bytes)
    ∙ ap
    (λ (bs : List ℕ). (to_le_bytes w64 (u64_at bytes 0) ++ number_text format (number_at format filling bytes 8)) ++ (texts ++ bs))
    (ap (λ k. drop k bytes) next ∙ sym (drop-drop (n * size) size bytes))
    ∙ ap (λ (bs : List ℕ). (to_le_bytes w64 (u64_at bytes 0) ++ number_text format (number_at format filling bytes 8)) ++ bs) others
    ∙ append_assoc (to_le_bytes w64 (u64_at bytes 0)) (number_text format (number_at format filling bytes 8)) (drop size bytes)
    ∙ ap (λ (bs : List ℕ). bs ++ (number_text format (number_at format filling bytes 8) ++ drop size bytes)) start
    ∙ ap (λ (bs : List ℕ). take 8 bytes ++ (bs ++ drop size bytes)) count
    ∙ ap (λ (bs : List ℕ). take 8 bytes ++ (take number (drop 8 bytes) ++ bs)) (sym behind)
    ∙ ap (λ (bs : List ℕ). take 8 bytes ++ bs) (take-append-drop number (drop 8 bytes))
    ∙ take-append-drop 8 bytes

-- ---- tests of all runs

pub runs_positive : (format : Format) (filling n : ℕ) (bytes : List ℕ)
    → IsBytes bytes → filling < 2 ^ 32
    → list_all (λ run. nat_lt 0 run.count) (runs_from format filling n bytes) ≡ true
    → AllByRecursion IsRun (runs_from format filling n bytes)
runs_positive format filling zero bytes fits small all = tt
runs_positive format filling (suc n) bytes fits small all =
    let count : ℕ = number_at format filling bytes 8 in
    let parts = both_true (nat_lt 0 count) (list_all (λ run. nat_lt 0 run.count) (runs_from format filling n (drop (8 + number_len format) bytes))) all in (
      (u64_small bytes 0 fits, (ltb-true 0 count parts.0, number_small format filling bytes 8 fits small)),
      runs_positive format filling n (drop (8 + number_len format) bytes)
          (IsBytes-drop (8 + number_len format) bytes fits) small parts.1,
    )

pub positive_runs : (runs : List Run) → AllByRecursion IsRun runs → list_all (λ run. nat_lt 0 run.count) runs ≡ true
positive_runs [] each = refl
positive_runs (run ∷ runs) each = true_both (nat_lt 0 run.count) (list_all (λ r. nat_lt 0 r.count) runs) (lt-ltb 0 run.count each.0.1.0) (positive_runs runs each.1)

pub not_all : {X : Type 0} (test : X → Bool) (xs : List X) (k : ℕ) (x : X) → slice_get xs k ≡ Some x → test x ≡ false → list_all test xs ≡ false
not_all test [] k x at fails = absurd cc
not_all test (y ∷ xs) zero x at fails = let same : y ≡ x = cc in first_false (test y) (list_all test xs) (ap test same ∙ fails)
not_all test (y ∷ xs) (suc k) x at fails = second_false (test y) (list_all test xs) (not_all test xs k x at fails)

pub records_of_runs_push : (runs : List Run) (run : Run) → records_of_runs (runs ++ run ∷ []) ≡ records_of_runs runs + run.count
records_of_runs_push runs run = ap sum (map_push (λ r. r.count) runs run) ∙ sum_by_push (λ x. x) (map (λ r. r.count) runs) run.count

pub drop_got : {X : Type 0} (xs : List X) (k : ℕ) (x : X) → slice_get xs k ≡ Some x → drop k xs ≡ x ∷ drop (k + 1) xs
drop_got [] k x at = absurd cc
drop_got {X} (y ∷ xs) zero x at = let same : y ≡ x = cc in ap (λ (z : X). z ∷ xs) same
drop_got {X} (y ∷ xs) (suc k) x at =
    let more : suc k + 1 ≡ suc (k + 1) = omega arith in
    drop_got xs k x at ∙ ap (λ n. x ∷ drop n (y ∷ xs)) (sym more)
