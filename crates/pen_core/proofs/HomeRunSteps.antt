-- Homes in turn, their parts, and the positions of runs.
use Rattle.std.proofs.Common.{◌≡◌, ◌⊎◌, inl, inr, ℕ, zero, suc, ◌+◌, ◌-◌, ◌*◌, ◌≤◌, ◌<◌, ◌^◌, List, [], ◌∷◌, ◌++◌, length, get_or, All, Some, None, refl, sym, ap, ◌∙◌, arith, append_assoc}
use Rattle.std.specs.List.{range_with_len}
use Rattle.std.specs.Option.{option_or}
use Rattle.std.proofs.lemmas.Bool.{cases_lt}
use Rattle.std.specs.List.Sorted.{IsNonDecreasingBy}
use Rattle.std.proofs.Math.Nat.{add-mul}
use Rattle.std.proofs.lemmas.List.Elements.{All-nil, All-cons, All-head, All-tail}
use Rattle.segment_core.specs.declared.found.Home.{Home}
use Rattle.segment_core.specs.Found.{home_among, AreInTurn}
use Rattle.segment_core.specs.Vector.{place_among}
use Rattle.segment_core.proofs.PlaceAmong.{place_among_inside, place_among_below}
use Rattle.segment_core.proofs.FoundHomes.{in_turn_up_to}
use Rattle.pen_core.proofs.WritesFor.{ascending-inside}
use Rattle.pen_core.specs.HomeRuns.{positions_at, AreHomesTo, IsAdjacent, IsHomeRun, AreAscending, IsBounded}

pub range-append : (a m n : ℕ) → range_with_len a m ++ range_with_len (a + m) n ≡ range_with_len a (m + n)
range-append a zero n =
    let here : a + 0 ≡ a = omega arith in
    let all : n ≡ 0 + n = omega arith in
    ap (λ b. range_with_len b n) here ∙ ap (range_with_len a) all
range-append a (suc m) n =
    let next : a + suc m ≡ a + 1 + m = omega arith in
    let all : suc (m + n) ≡ suc m + n = omega arith in
    ap (λ b. range_with_len a (suc m) ++ range_with_len b n) next ∙ ap (λ xs. a ∷ xs) (range-append (a + 1) m n) ∙ ap (range_with_len a) all

-- positions from one place on, and those behind them
pub ranges-join : (from at count : ℕ) → from ≤ at
    → range_with_len from (at - from) ++ range_with_len at count ≡ range_with_len from (at + count - from)
ranges-join from at count le =
    let here : at ≡ from + (at - from) = omega arith in
    ap (λ n. range_with_len from (at - from) ++ range_with_len n count) here
    ∙ range-append from (at - from) count
    ∙ ap (range_with_len from) (omega arith)

pub positions_at-append : (xs ys : List Home) → positions_at (xs ++ ys) ≡ positions_at xs ++ positions_at ys
positions_at-append [] ys = refl
positions_at-append (x ∷ xs) ys =
    ap (λ ps. range_with_len x.position x.count ++ ps) (positions_at-append xs ys)
    ∙ sym (append_assoc (range_with_len x.position x.count) (positions_at xs) (positions_at ys))

pub ascending-push : (from to : ℕ) (runs : List Home) (run : Home) → AreAscending from to runs → to ≤ run.position
    → AreAscending from (run.position + run.count) (runs ++ run ∷ [])
ascending-push from to [] run ascend le = (omega arith, omega arith)
ascending-push from to (first ∷ runs) run ascend le = (ascend.0, ascending-push (first.position + first.count) to runs run ascend.1 le)

pub ascending-to : (a b c : ℕ) (runs : List Home) → AreAscending a b runs → b ≤ c → AreAscending a c runs
ascending-to a b c [] ascend le = omega arith
ascending-to a b c (run ∷ runs) ascend le = (ascend.0, ascending-to (run.position + run.count) b c runs ascend.1 le)

-- ---- homes in turn

pub home_among-before : (width start end i : ℕ) (homes : List Home) → AreInTurn start homes end → i < start → home_among width homes i ≡ None
home_among-before width start end i [] turn lt = refl
home_among-before width start end i (home ∷ homes) turn lt =
    ap (λ o. option_or o (place_among width home.place home.position home.count i))
    (home_among-before width (start + home.count) end i homes turn.1 (omega arith))
    ∙ place_among_below width home.place home.position home.count i (omega (arith, turn.0))

-- a position's home is the one that has it
pub home_among-at : (width start end i : ℕ) (homes : List Home) (k : ℕ) (d : Home) → AreInTurn start homes end
    → k < length homes → (get_or homes k d).position ≤ i → i < (get_or homes k d).position + (get_or homes k d).count
    → home_among width homes i ≡ Some ((get_or homes k d).place + (i - (get_or homes k d).position) * width)
home_among-at width start end i [] k d turn lt from to = absurd (omega arith)
home_among-at width start end i (home ∷ homes) zero d turn lt from to =
    ap (λ o. option_or o (place_among width home.place home.position home.count i))
    (home_among-before width (start + home.count) end i homes turn.1 (omega (arith, turn.0)))
    ∙ place_among_inside width home.place home.position home.count i from to
home_among-at width start end i (home ∷ homes) (suc k) d turn lt from to =
    ap (λ o. option_or o (place_among width home.place home.position home.count i))
    (home_among-at width (start + home.count) end i homes k d turn.1 (omega arith) from to)

pub turn-from : (start end : ℕ) (homes : List Home) (k : ℕ) (d : Home) → AreInTurn start homes end → k < length homes
    → start ≤ (get_or homes k d).position
turn-from start end [] k d turn lt = absurd (omega arith)
turn-from start end (home ∷ homes) zero d turn lt = omega (arith, turn.0)
turn-from start end (home ∷ homes) (suc k) d turn lt = let rest = turn-from (start + home.count) end homes k d turn.1 (omega arith) in omega arith

pub turn-to : (start end : ℕ) (homes : List Home) (k : ℕ) (d : Home) → AreInTurn start homes end → k < length homes
    → (get_or homes k d).position + (get_or homes k d).count ≤ end
turn-to start end [] k d turn lt = absurd (omega arith)
turn-to start end (home ∷ homes) zero d turn lt = let rest = in_turn_up_to (start + home.count) end homes turn.1 in omega (arith, turn.0)
turn-to start end (home ∷ homes) (suc k) d turn lt = turn-to (start + home.count) end homes k d turn.1 (omega arith)

-- each begins where the one before ends
pub turn-next : (start end : ℕ) (homes : List Home) (k : ℕ) (d : Home) → AreInTurn start homes end → k + 1 < length homes
    → (get_or homes (k + 1) d).position ≡ (get_or homes k d).position + (get_or homes k d).count
turn-next start end [] k d turn lt = absurd (omega arith)
turn-next start end (home ∷ []) zero d turn lt = absurd (omega arith)
turn-next start end (home ∷ (next ∷ homes)) zero d turn lt = omega (arith, turn.0, turn.1.0)
turn-next start end (home ∷ homes) (suc k) d turn lt =
    let next : suc k + 1 ≡ suc (k + 1) = omega arith in
    ap (λ m. (get_or (home ∷ homes) m d).position) next ∙ turn-next (start + home.count) end homes k d turn.1 (omega arith)

-- and the last where all do
pub turn-last : (start end : ℕ) (homes : List Home) (k : ℕ) (d : Home) → AreInTurn start homes end → k + 1 ≡ length homes
    → (get_or homes k d).position + (get_or homes k d).count ≡ end
turn-last start end [] k d turn is = absurd (omega arith)
turn-last start end (home ∷ []) zero d turn is = omega (arith, turn.0, turn.1)
turn-last start end (home ∷ (next ∷ homes)) zero d turn is = absurd (omega arith)
turn-last start end (home ∷ homes) (suc k) d turn is = turn-last (start + home.count) end homes k d turn.1 (omega arith)

pub turn-ascends : (start end : ℕ) (homes : List Home) (i j : ℕ) (d : Home) → AreInTurn start homes end → i ≤ j
    → j < length homes → (get_or homes i d).position ≤ (get_or homes j d).position
turn-ascends start end [] i j d turn le lt = absurd (omega arith)
turn-ascends start end (home ∷ homes) zero zero d turn le lt = omega arith
turn-ascends start end (home ∷ homes) zero (suc j) d turn le lt =
    let rest = turn-from (start + home.count) end homes j d turn.1 (omega arith) in omega (arith, turn.0)
turn-ascends start end (home ∷ homes) (suc i) zero d turn le lt = absurd (omega arith)
turn-ascends start end (home ∷ homes) (suc i) (suc j) d turn le lt = turn-ascends (start + home.count) end homes i j d turn.1 (omega arith) (omega arith)

pub turn-sorted : (size : ℕ) (homes : List Home) → AreInTurn 0 homes size → IsNonDecreasingBy (λ (h : Home). h.position) homes
turn-sorted size homes turn = λ i j d le lt. turn-ascends 0 size homes i j d turn le lt

some_home : (size position : ℕ) (homes : List Home) (n : ℕ) → AreInTurn 0 homes size → position < size
    → ((d : Home) → n ≤ 0 → 0 < length homes → position < (get_or homes 0 d).position) → 1 ≤ n
some_home size position [] n turn lt behind = absurd (omega (arith, turn))
some_home size position (home ∷ homes) zero turn lt behind = absurd (omega (arith, turn.0, behind home (omega arith) (omega arith)))
some_home size position (home ∷ homes) (suc n) turn lt behind = omega arith

-- of homes in turn, the last that begins at or before a position has it
pub home-found : (size position : ℕ) (homes : List Home) (n : ℕ) (d : Home) → AreInTurn 0 homes size → position < size
    → n ≤ length homes → ((k : ℕ) (d : Home) → k < n → (get_or homes k d).position ≤ position)
    → ((k : ℕ) (d : Home) → n ≤ k → k < length homes → position < (get_or homes k d).position)
    → (1 ≤ n) × ((get_or homes (n - 1) d).position ≤ position) × (position < (get_or homes (n - 1) d).position + (get_or homes (n - 1) d).count)
home-found size position homes n d turn lt bound before behind =
    let some = some_home size position homes n turn lt (behind 0) in
    let here = before (n - 1) d (omega arith) in (
      some,
      here,
      elim (cases_lt (n - 1 + 1) (length homes)) [
        | inl more ↦ omega (arith, turn-next 0 size homes (n - 1) d turn more, behind (n - 1 + 1) d (omega arith) more)
        | inr last ↦ omega (arith, turn-last 0 size homes (n - 1) d turn (omega arith))
      ],
    )

-- ---- a part of a home

pub moved : (p a b width : ℕ) → p + a * width + b * width ≡ p + (a + b) * width
moved p a b width = omega (arith, add-mul a b width)

-- its positions from one up to another
abbrev pub part_of : ℕ → Home → ℕ → ℕ → Home
part_of width home from to = record { position = from; place = home.place + (from - home.position) * width; count = to - from }

pub IsAdjacent-part : (width size : ℕ) (homes : List Home) (k : ℕ) (d : Home) (from to : ℕ) → AreInTurn 0 homes size
    → k < length homes → (get_or homes k d).position ≤ from → to ≤ (get_or homes k d).position + (get_or homes k d).count
    → IsAdjacent width (home_among width homes) (part_of width (get_or homes k d) from to)
IsAdjacent-part width size homes k d from to turn lt le ends i after before =
    let home = get_or homes k d in
    let here : i - home.position ≡ from - home.position + (i - from) = omega arith in
    home_among-at width 0 size i homes k d turn lt (omega arith) (omega arith)
    ∙ ap Some (ap (λ n. home.place + n * width) here ∙ sym (moved home.place (from - home.position) (i - from) width))

-- it keeps within the limit on places
pub part_placed : (width size : ℕ) (homes : List Home) (k : ℕ) (d : Home) (from to : ℕ) → AreHomesTo width size homes
    → k < length homes → (get_or homes k d).position ≤ from → from < to
    → to ≤ (get_or homes k d).position + (get_or homes k d).count
    → (get_or homes k d).place + (from - (get_or homes k d).position) * width + (to - from) * width ≤ 2 ^ 48
part_placed width size homes k d from to are lt le some ends =
    let home = get_or homes k d in
    let fits =
    are.placed (to - 1) (home.place + (to - 1 - home.position) * width)
    (home_among-at width 0 are.end (to - 1) homes k d are.in_turn lt (omega arith) (omega arith)) in
    let all : from - home.position + (to - from) ≡ (to - 1 - home.position) + 1 = omega arith in
    let last = moved home.place (to - 1 - home.position) 1 width in
    let whole = moved home.place (from - home.position) (to - from) width ∙ ap (λ n. home.place + n * width) all in
    omega arith

-- the place of a position that is the first of a home, which may have none, or is in it
pub first_or_in : (width size : ℕ) (homes : List Home) (k : ℕ) (d : Home) (at : ℕ) → AreHomesTo width size homes
    → k < length homes → (get_or homes k d).position ≤ at
    → (at ≡ (get_or homes k d).position) ⊎ (at < (get_or homes k d).position + (get_or homes k d).count)
    → (get_or homes k d).place < 2 ^ 64
    → (get_or homes k d).place + (at - (get_or homes k d).position) * width < 2 ^ 64
first_or_in width size homes k d at are lt le (inl first) small =
    let none : at - (get_or homes k d).position ≡ 0 = omega arith in
    let nothing : (at - (get_or homes k d).position) * width ≡ 0 * width = ap (λ n. n * width) none in
    omega arith
first_or_in width size homes k d at are lt le (inr inside) small =
    let placed = part_placed width size homes k d at (at + 1) are lt le (omega arith) (omega arith) in
    omega arith

-- ---- runs keep within the limits

IsBounded-run : (width size : ℕ) (homes : List Home) (run : Home) → AreHomesTo width size homes
    → IsHomeRun width (home_among width homes) run → run.position + run.count ≤ 2 ^ 32 → IsBounded width run
IsBounded-run width size homes run are is short =
    let some = is.some in
    let last : ℕ = run.position + run.count - 1 in
    let fits = are.placed last (run.place + (last - run.position) * width) (is.adjacent last (omega arith) (omega arith)) in
    let count : (last - run.position) + 1 ≡ run.count = omega arith in
    let whole = moved run.place (last - run.position) 1 width ∙ ap (λ n. run.place + n * width) count in
    record { few = is.few; short = short; placed = omega arith }

pub all_bounded : (width size from to : ℕ) (homes runs : List Home) → AreHomesTo width size homes → to ≤ 2 ^ 32
    → AreAscending from to runs → All (IsHomeRun width (home_among width homes)) runs → All (IsBounded width) runs
all_bounded width size from to homes [] are small ascend each = All-nil (IsBounded width)
all_bounded width size from to homes (run ∷ runs) are small ascend each =
    let end = ascending-inside (run.position + run.count) to runs ascend.1 in
    All-cons (IsBounded width) run runs
    (IsBounded-run width size homes run are (All-head (IsHomeRun width (home_among width homes)) run runs each) (omega arith))
    (all_bounded width size (run.position + run.count) to homes runs are small ascend.1 (All-tail (IsHomeRun width (home_among width homes)) run runs each))
