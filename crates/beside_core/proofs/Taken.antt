-- Bytes that were read, one call behind the other.
use Rattle.std.proofs.Common.{◌≡◌, ℕ, zero, suc, ◌+◌, ◌-◌, ◌<◌, ◌≤◌, List, [], ◌∷◌, ◌++◌, length, take, drop, get_or, refl, sym, ap, subst, ◌∙◌, arith, append_assoc, length-append, inl, inr}
use Rattle.std.specs.Prelude.{slice_index}
use Rattle.std.specs.Int.{w32, from_le_bytes}
use Rattle.std.proofs.lemmas.List.{append-nil, get_or_append_left, get_or-append-add, get_or-drop, length-drop}
use Rattle.std.proofs.Math.Seq.{take-append-add}
use Rattle.std.proofs.lemmas.Bool.{cases_lt}
use Rattle.disk_core.specs.Shared.{WereThere, InTurn}
use Rattle.segment_core.specs.Layout.{u32_at}
use Rattle.segment_core.specs.Fault.{payload_len_in}
use Rattle.segment_core.proofs.Loose.{take_same}
use Rattle.beside_core.specs.Look.{ReadBehind}

pub were_there : (held : ℕ → List ℕ) (from to place : ℕ) (bytes : List ℕ) → InTurn held from to place bytes → WereThere held from to place bytes
were_there held from to place bytes read = λ j lt. record {
  moment = read.moments j;
  since = read.since j;
  until = read.until j;
  inside = read.inside j lt;
  stood = read.stood j lt;
}

-- ---- moments of bytes, and then those of others

joined : ℕ → (ℕ → ℕ) → (ℕ → ℕ) → ℕ → ℕ
joined zero first then j = then j
joined (suc n) first then zero = first zero
joined (suc n) first then (suc j) = joined n (λ i. first (suc i)) then j

joined-before : (n : ℕ) (first then : ℕ → ℕ) (j : ℕ) → j < n → joined n first then j ≡ first j
unfolding joined
joined-before zero first then j lt = absurd (omega (arith, lt))
joined-before (suc n) first then zero lt = refl
joined-before (suc n) first then (suc j) lt = joined-before n (λ i. first (suc i)) then j (omega (arith, lt))

joined-behind : (n : ℕ) (first then : ℕ → ℕ) (j : ℕ) → n ≤ j → joined n first then j ≡ then (j - n)
unfolding joined
joined-behind zero first then j le = ap then (let all : j ≡ j - 0 = omega arith in all)
joined-behind (suc n) first then zero le = absurd (omega (arith, le))
joined-behind (suc n) first then (suc j) le = joined-behind n (λ i. first (suc i)) then j (omega (arith, le)) ∙ ap then (let same : j - n ≡ suc j - suc n = omega arith in same)

-- ---- bytes that were read

pub in_turn_none : (held : ℕ → List ℕ) (from to place : ℕ) → from ≤ to → InTurn held from to place []
in_turn_none held from to place le = record {
  moments = λ _. from;
  ascend = λ i j before. omega arith;
  since = λ j. omega arith;
  until = λ j. le;
  inside = λ j lt. absurd (omega (arith, lt));
  stood = λ j lt. absurd (omega (arith, lt));
}

-- by two calls, one behind the other
pub in_turn_more : (held : ℕ → List ℕ) (s t u place : ℕ) (a b : List ℕ) → s ≤ t → t ≤ u → InTurn held s t place a → InTurn held t u (place + length a) b → InTurn held s u place (a ++ b)
in_turn_more held s t u place a b st tu first then = record {
  moments = at;
  ascend = λ i j le. elim (cases_lt j n) [
    | inl below ↦ (let p = before i (omega (arith, le, below)) in let q = before j below in let up = first.ascend i j le in omega (arith, p, q, up))
    | inr past ↦ elim (cases_lt i n) [
      | inl below ↦ (let p = before i below in let q = behind j past in let x = first.until i in let y = then.since (j - n) in omega (arith, p, q, x, y))
      | inr also ↦ (let p = behind i also in let q = behind j past in let up = then.ascend (i - n) (j - n) (omega (arith, le)) in omega (arith, p, q, up))
    ]
  ];
  since = λ j. elim (cases_lt j n) [
    | inl below ↦ (let p = before j below in let x = first.since j in omega (arith, p, x))
    | inr past ↦ (let p = behind j past in let x = then.since (j - n) in omega (arith, p, x, st))
  ];
  until = λ j. elim (cases_lt j n) [
    | inl below ↦ (let p = before j below in let x = first.until j in omega (arith, p, x, tu))
    | inr past ↦ (let p = behind j past in let x = then.until (j - n) in omega (arith, p, x))
  ];
  inside = λ j lt. elim (cases_lt j n) [
    | inl below ↦ subst (λ m. place + j < length (held m)) (sym (before j below)) (first.inside j below)
    | inr past ↦ subst (λ m. place + j < length (held m)) (sym (behind j past)) (subst (λ p. p < length (held (then.moments (j - n)))) (place_of j past) (then.inside (j - n) (small j lt past)))
  ];
  stood = λ j lt. elim (cases_lt j n) [
    | inl below ↦ get_or_append_left a b 0 j below ∙ first.stood j below ∙ ap (λ m. slice_index (held m) (place + j)) (sym (before j below))
    | inr past ↦ (
        let is : j ≡ n + (j - n) = omega (arith, past) in
        ap (λ k. slice_index (a ++ b) k) is ∙ get_or-append-add a b (j - n) 0 ∙ then.stood (j - n) (small j lt past)
        ∙ ap (slice_index (held (then.moments (j - n)))) (place_of j past) ∙ ap (λ m. slice_index (held m) (place + j)) (sym (behind j past)))
  ];
}
  where
    n : ℕ
    n = length a

    at : ℕ → ℕ
    at = joined (length a) first.moments then.moments

    before : (j : ℕ) → j < length a → joined (length a) first.moments then.moments j ≡ first.moments j
    before j below = joined-before (length a) first.moments then.moments j below

    behind : (j : ℕ) → length a ≤ j → joined (length a) first.moments then.moments j ≡ then.moments (j - length a)
    behind j past = joined-behind (length a) first.moments then.moments j past

    place_of : (j : ℕ) → length a ≤ j → place + length a + (j - length a) ≡ place + j
    place_of j past = omega (arith, past)

    small : (j : ℕ) → j < length (a ++ b) → length a ≤ j → j - length a < length b
    small j lt past = omega (arith, lt, past, length-append a b)

-- those behind the first of them, from the moment of the first that stays
pub in_turn_behind : (held : ℕ → List ℕ) (from to place n : ℕ) (bytes : List ℕ) → (read : InTurn held from to place bytes) → InTurn held (read.moments n) to (place + n) (drop n bytes)
in_turn_behind held from to place n bytes read = record {
  moments = λ j. read.moments (n + j);
  ascend = λ i j le. read.ascend (n + i) (n + j) (omega (arith, le));
  since = λ j. read.ascend n (n + j) (omega arith);
  until = λ j. read.until (n + j);
  inside = λ j lt. subst (λ p. p < length (held (read.moments (n + j)))) (place_of j) (read.inside (n + j) (omega (arith, lt, length-drop n bytes)));
  stood = λ j lt. get_or-drop n bytes j 0 ∙ read.stood (n + j) (omega (arith, lt, length-drop n bytes)) ∙ ap (slice_index (held (read.moments (n + j)))) (place_of j);
}
  where
    place_of : (j : ℕ) → place + (n + j) ≡ place + n + j
    place_of j = omega arith

-- ---- bytes that were read behind others

pub taken_by : (kept : Type 0) (held : ℕ → List ℕ) (from to place : ℕ) (before got after : List ℕ) → after ≡ before ++ got → (kept → InTurn held from to place got)
    → ReadBehind kept held from to place before after
taken_by kept held from to place before got after is there = record { got = got; after_is = is; there = there }

-- of bytes behind others the first ones stay
pub cut_behind : (before out whole after : List ℕ) (start count : ℕ) → after ≡ take (start + count) whole → whole ≡ before ++ out → start ≡ length before → after ≡ before ++ take count out
cut_behind before out whole after start count is all at =
    is ∙ ap (take (start + count)) all ∙ ap (λ n. take (n + count) (before ++ out)) at ∙ take-append-add before out count

pub taken_none : (kept : Type 0) (held : ℕ → List ℕ) (from to place : ℕ) (bytes : List ℕ) → from ≤ to → ReadBehind kept held from to place bytes bytes
taken_none kept held from to place bytes le = record { got = []; after_is = sym (append-nil bytes); there = λ _. in_turn_none held from to place le }

-- two calls, one behind the other
pub taken_more : (first then : Type 0) (held : ℕ → List ℕ) (s t u place next : ℕ) (before middle after : List ℕ) → (then → first) → s ≤ t → t ≤ u
    → ReadBehind first held s t place before middle → ReadBehind then held t u next middle after → next + length before ≡ place + length middle
    → ReadBehind then held s u place before after
taken_more first then held s t u place next before middle after back st tu a b at = record {
  got = a.got ++ b.got;
  after_is = b.after_is ∙ ap (λ (bs : List ℕ). bs ++ b.got) a.after_is ∙ append_assoc before a.got b.got;
  there = λ kept. in_turn_more held s t u place a.got b.got st tu (a.there (back kept)) (subst (λ p. InTurn held t u p b.got) behind (b.there kept));
}
  where
    behind : next ≡ place + length a.got
    behind = omega (arith, at, ap length a.after_is, length-append before a.got)

-- of a file that holds the same
pub read_of : (kept : Type 0) (held file : ℕ → List ℕ) (from to place : ℕ) (before after : List ℕ) → held ≡ file → ReadBehind kept held from to place before after
    → ReadBehind kept file from to place before after
read_of kept held file from to place before after same read = record {
  got = read.got;
  after_is = read.after_is;
  there = λ model. subst (λ h. InTurn h from to place read.got) same (read.there model);
}

-- a byte, and then ten: the header
pub header_taken : (first then : Type 0) (held file : ℕ → List ℕ) (s t u : ℕ) (start middle bytes : List ℕ) → start ≡ [] → held ≡ file → (then → first) → s ≤ t → t ≤ u
    → ReadBehind first file s t 0 start middle → length middle ≡ length start + 1 → ReadBehind then held t u 1 middle bytes → length bytes ≡ length middle + 10 → then
    → WereThere file s u 0 bytes × (length bytes ≡ 11)
header_taken first then held file s t u start middle bytes none same back st tu a one b ten kept =
    let both = taken_more first then file s t u 0 1 start middle bytes back st tu a (read_of then held file t u 1 middle bytes same b) (omega (arith, one, empty)) in
    let all : bytes ≡ both.got = both.after_is ∙ ap (λ (bs : List ℕ). bs ++ both.got) none in
    (subst (λ (bs : List ℕ). WereThere file s u 0 bs) (sym all) (were_there file s u 0 both.got (both.there kept)), omega (arith, ten, one, empty))
  where
    empty : length start ≡ 0
    empty = ap length none

-- ---- the head of a frame

-- the first bytes alone tell it
pub payload_len_in-front : (got front : List ℕ) → 6 ≤ length got → 6 ≤ length front → ((j : ℕ) → j < 6 → get_or got j 0 ≡ get_or front j 0) → payload_len_in got ≡ payload_len_in front
unfolding u32_at
payload_len_in-front got front a b same = ap (from_le_bytes w32) (take_same 4 2 got front (omega (arith, a)) (omega (arith, b)) (λ j from before. same j (omega (arith, before))))

-- what a head tells, byte by byte
pub payload_len_in-bytes : (head : List ℕ) → length head ≡ 6 → payload_len_in head ≡ from_le_bytes w32 (slice_index head 2 ∷ slice_index head 3 ∷ slice_index head 4 ∷ slice_index head 5 ∷ [])
unfolding u32_at
payload_len_in-bytes [] long = absurd (omega arith)
payload_len_in-bytes (a ∷ []) long = absurd (omega arith)
payload_len_in-bytes (a ∷ b ∷ []) long = absurd (omega arith)
payload_len_in-bytes (a ∷ b ∷ c ∷ []) long = absurd (omega arith)
payload_len_in-bytes (a ∷ b ∷ c ∷ d ∷ []) long = absurd (omega arith)
payload_len_in-bytes (a ∷ b ∷ c ∷ d ∷ e ∷ []) long = absurd (omega arith)
payload_len_in-bytes (a ∷ b ∷ c ∷ d ∷ e ∷ f ∷ []) long = refl
payload_len_in-bytes (a ∷ b ∷ c ∷ d ∷ e ∷ f ∷ g ∷ rest) long = absurd (omega arith)
