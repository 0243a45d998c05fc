-- The bytes of a vector's last records: parts of them, and what a run does to them.
use Rattle.std.proofs.Common.{◌≡◌, ℕ, zero, suc, ◌+◌, ◌-◌, ◌*◌, ◌^◌, ◌<◌, ◌≤◌, true, false, List, [], ◌∷◌, ◌++◌, length, take, drop, Option, Some, None, refl, sym, ap, subst, ◌∙◌}
use Rattle.std.proofs.Common.{arith, append_assoc, length-append, inl, inr}
use Rattle.std.specs.Prelude.{slice_get, IsSome}
use Rattle.std.specs.Option.{option_or}
use Rattle.std.proofs.lemmas.List.{nil_from_length, take-append-le, drop-append-le, take-append-drop, length-take-le, length-drop}
use Rattle.std.proofs.lemmas.Option.{slice_get_within, get_or_from_slice_get}
use Rattle.std.proofs.lemmas.Nat.{mul-le}
use Rattle.std.proofs.lemmas.Bool.{cases_lt, not-false}
use Rattle.std.proofs.Math.Nat.{add-mul}
use Rattle.std.proofs.Math.Seq.{take-append-add, drop-append-add, take-append_seam, drop-append_seam, drop-cons}
use Rattle.segment_core.specs.declared.tally.Tally.{Tally}
use Rattle.segment_core.specs.Frame.{Run, Frame, Group, Change, Shrink, Fold}
use Rattle.segment_core.specs.Vector.{place_among, place_in_runs}
use Rattle.segment_core.specs.Tally.{are_inside, is_outside}
use Rattle.segment_core.specs.Command.{replaced}
use Rattle.segment_core.specs.Reading.{runs_of}
use Rattle.segment_core.specs.Raw.{cells_in}
use Rattle.segment_core.proofs.PlaceAmong.{place_among_inside}
use Rattle.segment_core.proofs.Raw.{length-cells_in}

-- ---- the records of bytes

pub cells_in-append : (width m n : ℕ) (a b : List ℕ) → length a ≡ m * width → cells_in width (m + n) (a ++ b) ≡ cells_in width m a ++ cells_in width n b
cells_in-append width zero n a b long =
    let none : a ≡ [] = nil_from_length a (omega (arith, long)) in
    let all : 0 + n ≡ n = omega arith in
    ap (λ k. cells_in width k (a ++ b)) all ∙ ap (λ (bs : List ℕ). cells_in width n (bs ++ b)) none
cells_in-append width (suc m) n a b long =
    let more : suc m + n ≡ suc (m + n) = omega arith in
    let front : width ≤ length a = omega (arith, long) in
    ap (λ k. cells_in width k (a ++ b)) more
    ∙ ap (λ (bs : List ℕ). bs ∷ cells_in width (m + n) (drop width (a ++ b))) (take-append-le width a b front)
    ∙ ap (λ (bs : List ℕ). take width a ∷ cells_in width (m + n) bs) (drop-append-le width a b front)
    ∙ ap (λ (cells : List (List ℕ)). take width a ∷ cells) (cells_in-append width m n (drop width a) b (omega (arith, length-drop width a, long)))

-- the first k and the others
pub cells_in-split : (width n k : ℕ) (b : List ℕ) → k ≤ n → length b ≡ n * width → cells_in width n b ≡ cells_in width k (take (k * width) b) ++ cells_in width (n - k) (drop (k * width) b)
cells_in-split width n k b le long =
    let parts : n ≡ k + (n - k) = omega arith in
    let inside : k * width ≤ length b = omega (arith, long, mul-le k width n width le (omega arith)) in
    ap (λ m. cells_in width m b) parts
    ∙ ap (cells_in width (k + (n - k))) (sym (take-append-drop (k * width) b))
    ∙ cells_in-append width k (n - k) (take (k * width) b) (drop (k * width) b) (length-take-le (k * width) b inside)

pub take-cells_in : (width n k : ℕ) (b : List ℕ) → k ≤ n → length b ≡ n * width → take k (cells_in width n b) ≡ cells_in width k (take (k * width) b)
take-cells_in width n k b le long =
    let front = cells_in width k (take (k * width) b) in
    ap (take k) (cells_in-split width n k b le long) ∙ ap (λ m. take m (front ++ cells_in width (n - k) (drop (k * width) b))) (sym (length-cells_in width k (take (k * width) b)))
    ∙ take-append_seam front (cells_in width (n - k) (drop (k * width) b))

pub drop-cells_in : (width n k : ℕ) (b : List ℕ) → k ≤ n → length b ≡ n * width → drop k (cells_in width n b) ≡ cells_in width (n - k) (drop (k * width) b)
drop-cells_in width n k b le long =
    let front = cells_in width k (take (k * width) b) in
    ap (drop k) (cells_in-split width n k b le long) ∙ ap (λ m. drop m (front ++ cells_in width (n - k) (drop (k * width) b))) (sym (length-cells_in width k (take (k * width) b)))
    ∙ drop-append_seam front (cells_in width (n - k) (drop (k * width) b))

-- ---- one run

-- records from position s on are replaced by those of other bytes
pub cells_in-spliced : (width n s c : ℕ) (b x : List ℕ) → s + c ≤ n → length b ≡ n * width → length x ≡ c * width
    → cells_in width n (take (s * width) b ++ x ++ drop ((s + c) * width) b) ≡ take s (cells_in width n b) ++ cells_in width c x ++ drop (s + c) (cells_in width n b)
cells_in-spliced width n s c b x le long filled =
    let front : List ℕ = take (s * width) b in
    let back : List ℕ = drop ((s + c) * width) b in
    let front_long : length front ≡ s * width = length-take-le (s * width) b (omega (arith, long, mul-le s width n width (omega arith) (omega arith))) in
    let two_long : length (front ++ x) ≡ (s + c) * width = omega (arith, length-append front x, front_long, filled) in
    let parts : n ≡ s + c + (n - (s + c)) = omega arith in
    ap (λ m. cells_in width m (front ++ x ++ back)) parts
    ∙ cells_in-append width (s + c) (n - (s + c)) (front ++ x) back two_long
    ∙ ap (λ (cells : List (List ℕ)). cells ++ cells_in width (n - (s + c)) back) (cells_in-append width s c front x front_long
    ∙ ap (λ (cells : List (List ℕ)). cells ++ cells_in width c x) (sym (take-cells_in width n s b (omega arith) long)))
    ∙ ap (λ (cells : List (List ℕ)). take s (cells_in width n b) ++ cells_in width c x ++ cells) (sym (drop-cells_in width n (s + c) b le long))

-- the same behind known records
pub spliced_behind : {X : Type 0} (known rest new : List X) (s c : ℕ)
    → take (length known + s) (known ++ rest) ++ new ++ drop (length known + s + c) (known ++ rest) ≡ known ++ (take s rest ++ new ++ drop (s + c) rest)
spliced_behind {X} known rest new s c =
    let at : length known + s + c ≡ length known + (s + c) = omega arith in
    ap (λ (xs : List X). xs ++ new ++ drop (length known + s + c) (known ++ rest)) (take-append-add known rest s)
    ∙ ap (λ (xs : List X). (known ++ take s rest) ++ new ++ xs) (ap (λ k. drop k (known ++ rest)) at ∙ drop-append-add known rest (s + c))
    ∙ ap (λ (xs : List X). xs ++ drop (s + c) rest) (append_assoc known (take s rest) new)
    ∙ append_assoc known (take s rest ++ new) (drop (s + c) rest)

-- a run behind position base lies in the bytes
pub record LiesInTail (width base start count long : ℕ) : Type 0 where
  pub to : (start - base) * width + count * width ≤ long
  pub small : long < 2 ^ 64

pub lies_in_tail : (width base size start count long : ℕ) → width < 2 ^ 16 → size ≤ 2 ^ 32 → base ≤ start → start + count ≤ size → long ≡ (size - base) * width → LiesInTail width base start count long
lies_in_tail width base size start count long narrow short from inside filled = record {
  to = (let le = mul-le (start - base + count) width (size - base) width (omega arith) (omega arith) in omega (arith, le, filled));
  small = (let le = mul-le (size - base) width 4294967296 65536 (omega (arith, short)) (omega (arith, narrow)) in omega (arith, le, filled));
}

-- records that fill so many bytes are as many
pub as_many : (width some all : ℕ) → 0 < width → some * width ≤ all * width → some ≤ all
as_many width some all wide le = elim (cases_lt all some) [
  | inl lt ↦ (let more = mul-le (all + 1) width some width (omega arith) (omega arith) in absurd (omega (arith, more, le, wide)))
  | inr ge ↦ omega arith
]

-- the next records of a change
pub next_cells : (width all done count : ℕ) (bytes : List ℕ) → 0 < width → length bytes ≡ all * width → (done + count) * width ≤ all * width
    → take count (drop done (cells_in width all bytes)) ≡ cells_in width count (take (count * width) (drop (done * width) bytes))
next_cells width all done count bytes wide long within =
    let le : done + count ≤ all = as_many width (done + count) all wide within in
    let rest : length (drop (done * width) bytes) ≡ (all - done) * width = omega (arith, length-drop (done * width) bytes, long, difference all done width (omega (arith, le))) in
    ap (take count) (drop-cells_in width all done bytes (omega (arith, le)) long) ∙ take-cells_in width (all - done) count (drop (done * width) bytes) (omega (arith, le)) rest
  where
    difference : (all done width : ℕ) → done ≤ all → (all - done) * width + done * width ≡ all * width
    difference all done width le = let parts : all - done + done ≡ all = omega arith in sym (add-mul (all - done) done width) ∙ ap (λ n. n * width) parts

-- ---- all runs

pub runs_inside : (tally : Tally) (frame : Frame) → is_outside tally frame ≡ false → are_inside tally.size (runs_of frame) ≡ true
runs_inside tally (Group lengths bytes) inside = refl
runs_inside tally (Change runs bytes) inside = not-false (are_inside tally.size runs) inside
runs_inside tally (Shrink n) inside = refl
runs_inside tally (Fold count) inside = refl

-- one more of the runs that are left
pub replaced_next : (cells : List (List ℕ)) (runs : List Run) (k : ℕ) (run : Run) (new : List (List ℕ)) → slice_get runs k ≡ Some run
    → replaced cells (drop k runs) new ≡ replaced (take run.start cells ++ take run.count new ++ drop (run.start + run.count) cells) (drop (k + 1) runs) (drop run.count new)
replaced_next cells runs k run new told =
    let lt = slice_get_within runs k run told in
    let one : k + 1 ≡ suc k = omega arith in
    ap (λ (rs : List Run). replaced cells rs new) (drop-cons runs k run lt ∙ ap (λ r. r ∷ drop (suc k) runs) (get_or_from_slice_get runs k run run told))
    ∙ ap (λ n. replaced (take run.start cells ++ take run.count new ++ drop (run.start + run.count) cells) (drop n runs) (drop run.count new)) (sym one)

-- ---- what a run of a frame covers

some_or : (a b : Option ℕ) → IsSome b → IsSome (option_or a b)
some_or None b some = some
some_or (Some x) b some = refl

or_some : (a b : Option ℕ) → IsSome a → IsSome (option_or a b)
or_some None b some = absurd cc
or_some (Some x) b some = refl

-- each position of a run
pub covers_at : (p : ℕ) (runs : List Run) (k : ℕ) (run : Run) (j : ℕ) → slice_get runs k ≡ Some run → j < run.count → IsSome (place_in_runs 1 (run.start + j) p runs)
covers_at p [] k run j told lt = absurd cc
covers_at p (first ∷ runs) zero run j told lt =
    let same : first ≡ run = cc in
    some_or (place_in_runs 1 (run.start + j) (p + first.count * 1) runs) (place_among 1 p first.start first.count (run.start + j))
    (subst (λ o. IsSome o) (sym (place_among_inside 1 p first.start first.count (run.start + j) (omega (arith, ap (λ r. r.start) same)) (omega (
      arith,
      ap (λ r. r.start) same,
      ap
          (λ r. r.count) same,
      lt,
    )))) refl)
covers_at p (first ∷ runs) (suc k) run j told lt = or_some (place_in_runs 1 (run.start + j) (p + first.count * 1) runs) (place_among 1 p first.start first.count (run.start + j)) (covers_at
    (p + first.count * 1) runs k run j told lt)
