-- The growths of one grower, to which all are dealt.
use Rattle.std.proofs.Common.{◌≡◌, ℕ, zero, suc, ◌+◌, ◌*◌, ◌<◌, ◌≤◌, Bool, List, []}
use Rattle.std.proofs.Common.{◌∷◌, ◌++◌, length, map, take, get_or, slice_get, All, Some, refl, sym, ap, ◌∙◌, arith}
use Rattle.std.specs.Prelude.{cond}
use Rattle.std.proofs.lemmas.Bool.{eq-eqb}
use Rattle.std.proofs.lemmas.List.{map-append, take-append-drop, take_all}
use Rattle.std.proofs.lemmas.List.Elements.{All-head, All-tail}
use Rattle.block_core.specs.Growth.{Growth}
use Rattle.book_core.specs.Lists.{own_of}
use Rattle.segment_core.specs.Written.{joined}
use Rattle.load_core.specs.Dealt.{behind_slice, count_for, dealt, slice_limit, slice_of}
use Rattle.load_core.specs.Loading.{AreDealt, AreMadeBy, AllMade}

-- the records of each growth
abbrev pub each_records : {R : Type 0} → List (Growth R) → List (List R)
each_records made = map (λ growth. growth.records) made

pub own_first : {R : Type 0} (made : List (Growth R)) → All (λ growth. growth.seat < 1) made → own_of 0 made ≡ made
own_first [] all = refl
own_first (growth ∷ made) all =
    let here : growth.seat < 1 = All-head (λ (g : Growth _). g.seat < 1) growth made all in
    let first : growth.seat ≡ 0 = omega arith in
    ap (λ (b : Bool). cond b (growth ∷ own_of 0 made) (own_of 0 made)) (eq-eqb growth.seat 0 first)
    ∙ ap (λ gs. growth ∷ gs) (own_first made (All-tail (λ (g : Growth _). g.seat < 1) growth made all))

all_for_one : (n : ℕ) → count_for n 1 0 ≡ n
all_for_one n = omega arith

-- what stands at each place is that of another list
by_places : {X Y : Type 0} (f : X → Y) (xs : List X) (ys : List Y) (d : Y) → length xs ≤ length ys
    → ((k : ℕ) (x : X) → slice_get xs k ≡ Some x → f x ≡ get_or ys k d) → map f xs ≡ take (length xs) ys
by_places f [] ys d short each = refl
by_places f (x ∷ xs) [] d short each = absurd (omega (arith, short))
by_places f (x ∷ xs) (y ∷ ys) d short each =
    ap (λ z. z ∷ map f xs) (each zero x refl) ∙ ap (λ zs. y ∷ zs) (by_places f xs ys d (omega (arith, short)) (λ k z at. each (suc k) z at))

-- the growths of one grower have the records of the first that are dealt
pub dealt_first : {R : Type 0} (growths : List (List R)) (made : List (Growth R)) → AreDealt growths 1 made → length made ≤ length growths
    → each_records made ≡ take (length made) growths
dealt_first {R} growths made so short =
    by_places (λ (growth : Growth R). growth.records) made growths [] short (λ k growth at.
    so.records_are 0 k growth (omega arith) (ap (λ (gs : List (Growth R)). slice_get gs k) (own_first made so.by_growers) ∙ at)
    ∙ ap (λ n. get_or growths n []) (alone k))
  where
    alone : (k : ℕ) → k * 1 + 0 ≡ k
    alone k = omega arith

pub all_dealt : {R : Type 0} (growths : List (List R)) (made : List (Growth R)) → AreDealt growths 1 made → AllMade growths 1 made → each_records made ≡ growths
all_dealt growths made dealt all =
    let many : length made ≡ length growths = ap length (sym (own_first made dealt.by_growers)) ∙ all 0 (omega arith) ∙ all_for_one (length growths) in
    dealt_first growths made dealt (omega (arith, many)) ∙ take_all (length made) growths (omega (arith, many))

-- and all that its phases have made have the records of all, in order
pub all_in_phases : {R : Type 0} (growths : List (List R)) (phases : List (List (Growth R))) → AreMadeBy 1 growths phases [] → each_records (joined phases) ≡ growths
all_in_phases growths [] so = so
all_in_phases {R} growths (made ∷ phases) so =
    map-append (λ (growth : Growth R). growth.records) made (joined phases)
    ∙ ap (λ (gs : List (List R)). gs ++ each_records (joined phases)) (all_dealt (slice_of 1 growths) made so.0 so.1)
    ∙ ap (λ (gs : List (List R)). slice_of 1 growths ++ gs) (all_in_phases (behind_slice 1 growths) phases so.2)
    ∙ take-append-drop (slice_limit 1) growths
