-- The pieces of a list, one after another.
use Rattle.std.proofs.Common.{◌≡◌, ℕ, zero, suc, ◌+◌, ◌-◌, ◌<◌, ◌≤◌, List, [], ◌∷◌, ◌++◌, length, map, take, drop, slice_get, Option, Some, None, MatchOption, option_map, refl, ap, sym, subst, ◌∙◌, zero-add, add_assoc, le_of_lt, arith}
use Rattle.std.specs.Prelude.{sum_by}
use Rattle.std.specs.Option.{unwrap_or}
use Rattle.std.proofs.lemmas.Grind.{flat_map-append}
use Rattle.std.proofs.lemmas.List.{drop_more, take-append-le, take_at, take-map, drop_at, drop_all, drop-drop, drop-append-le, length-append, length-drop}
use Rattle.std.proofs.lemmas.List.Concat.{length-flat_map}
use Rattle.std.proofs.lemmas.List.Folds.{flat_map-map}
use Rattle.std.proofs.lemmas.List.Sums.{sum_by-cons}
use Rattle.std.proofs.lemmas.Option.{get_or_from_slice_get, slice_get_within, slice_get-map}
use Rattle.block_core.specs.Growth.{Growth}
use Rattle.directory_core.specs.Chain.{total, grown_records}
use Rattle.directory_core.specs.Finding.{IsPieceAt, IsPlaceOf}
use Rattle.book_core.specs.Lists.{joined_pieces, IsPlaceIn, IsRestOfPiece}
use Rattle.book_core.specs.Pieces.{from_place}

pub joined_pieces-growths : {R : Type 0} (blocks : List (List R)) (es : List (Growth R)) → joined_pieces (blocks ++ map (λ e. e.records) es) ≡ joined_pieces blocks ++ grown_records es
joined_pieces-growths blocks es =
    flat_map-append (λ (p : List _). p) blocks (map (λ e. e.records) es)
    ∙ ap (λ (xs : List _). joined_pieces blocks ++ xs) (flat_map-map (λ (p : List _). p) (λ (e : Growth _). e.records) es)

pub length-joined_pieces : {R : Type 0} (pieces : List (List R)) → length (joined_pieces pieces) ≡ sum_by length pieces
length-joined_pieces pieces = length-flat_map (λ (p : List _). p) pieces

slice_get-append_left : {X : Type 0} (xs ys : List X) (k : ℕ) (x : X) → slice_get xs k ≡ Some x → slice_get (xs ++ ys) k ≡ Some x
slice_get-append_left [] ys k x is = grind arith
slice_get-append_left (z ∷ xs) ys zero x is = is
slice_get-append_left (z ∷ xs) ys (suc k) x is = slice_get-append_left xs ys k x is

-- in a list that goes on
pub place-append_left : {R : Type 0} (xs ys : List (List R)) (i number place : ℕ) → IsPlaceIn xs i number place → IsPlaceIn (xs ++ ys) i number place
place-append_left xs ys i number place at =
    let inside = slice_get_within xs number at.piece at.at in
    record {
      piece = at.piece;
      at = slice_get-append_left xs ys number at.piece at.at;
      inside = at.inside;
      before = ap (λ (ps : List (List _)). sum_by length ps + place) (take-append-le number xs ys (le_of_lt inside)) ∙ at.before;
    }

place-cons : {R : Type 0} (p : List R) (pieces : List (List R)) (i number place : ℕ) → IsPlaceIn pieces i number place → IsPlaceIn (p ∷ pieces) (length p + i) (suc number) place
place-cons p pieces i number place at = record {
  piece = at.piece;
  at = at.at;
  inside = at.inside;
  before = let sum = sum_by-cons length p (take number pieces) in let here = at.before in omega arith;
}

-- behind other pieces
pub place-append_right : {R : Type 0} (xs ys : List (List R)) (i number place : ℕ) → IsPlaceIn ys i number place → IsPlaceIn (xs ++ ys) (length (joined_pieces xs) + i) (length xs + number) place
place-append_right [] ys i number place at = rw (zero-add i, zero-add number) at
place-append_right (x ∷ xs) ys i number place at =
    let sum : length x + (length (joined_pieces xs) + i) ≡ length (joined_pieces (x ∷ xs)) + i = omega (arith, length-append x (joined_pieces xs)) in
    let count : suc (length xs + number) ≡ length (x ∷ xs) + number = omega arith in
    rw (← sum, ← count) (place-cons x (xs ++ ys) (length (joined_pieces xs) + i) (length xs + number) place (place-append_right xs ys i number place at))

sum_by-map : {X Y : Type 0} (f : Y → ℕ) (v : X → Y) (xs : List X) → sum_by f (map v xs) ≡ sum_by (λ x. f (v x)) xs
sum_by-map f v [] = refl
sum_by-map f v (x ∷ xs) = sum_by-cons f (v x) (map v xs) ∙ (ap (λ (n : ℕ). f (v x) + n) (sum_by-map f v xs) ∙ sym (sum_by-cons (λ (y : _). f (v y)) x xs))

-- of growths
pub place-growths : {R : Type 0} (es : List (Growth R)) (i number place : ℕ) → IsPlaceOf es i number place → IsPlaceIn (map (λ e. e.records) es) i number place
place-growths es i number place at = record {
  piece = at.growth.records;
  at = slice_get-map (λ (e : Growth _). e.records) es number ∙ ap (option_map (λ (e : Growth _). e.records)) at.is;
  inside = at.inside;
  before = ap (λ (n : ℕ). n + place) (ap (sum_by length) (take-map (λ (e : Growth _). e.records) number es) ∙ sum_by-map length (λ (e : Growth _). e.records) (take number es)) ∙ at.at;
}

drop_past : {X : Type 0} (xs ys : List X) (n : ℕ) → drop (length xs + n) (xs ++ ys) ≡ drop n ys
drop_past xs ys n = sym (drop-drop n (length xs) (xs ++ ys)) ∙ ap (drop n) (drop_at xs ys (length xs) refl)

run_at : {R : Type 0} (pieces : List (List R)) (number place : ℕ) (piece : List R) → slice_get pieces number ≡ Some piece → place < length piece
    → drop place piece ≡ take (length (drop place piece)) (drop (sum_by length (take number pieces) + place) (joined_pieces pieces))
run_at [] number place piece is lt = grind arith
run_at (p ∷ ps) zero place piece is lt =
    let same : p ≡ piece = grind arith in
    let at : drop (0 + place) (piece ++ joined_pieces ps) ≡ drop place piece ++ joined_pieces ps = rw zero-add (drop-append-le place piece (joined_pieces ps) (le_of_lt lt)) in
    rw (same, at) (sym (take_at (drop place piece) (joined_pieces ps) (length (drop place piece)) refl))
run_at (p ∷ ps) (suc number) place piece is lt =
    let sum : sum_by length (p ∷ take number ps) ≡ length p + sum_by length (take number ps) = sum_by-cons length p (take number ps) in
    let at : drop ((length p + sum_by length (take number ps)) + place) (p ++ joined_pieces ps)
    ≡ drop (sum_by length (take number ps) + place) (joined_pieces ps) = rw add_assoc (drop_past p (joined_pieces ps) (sum_by length (take number ps) + place)) in
    rw (sum, at) (run_at ps number place piece is lt)

-- the rest of a piece is a run of the records joined
pub IsPieceAt-rest : {R : Type 0} (pieces : List (List R)) (i : ℕ) (rest : List R) → IsRestOfPiece pieces i rest → IsPieceAt (joined_pieces pieces) i rest
IsPieceAt-rest pieces i rest at =
    let inside = at.inside in
    rw (at.is, ← at.before) (record {
      some = omega (arith, length-drop at.place at.piece);
      is = run_at pieces at.number at.place at.piece at.at at.inside;
    })

-- the list of blocks and growths
module _ {R : Type 0} (blocks : List (List R)) (es : List (Growth R)) where
  pub growths_rest : (i : ℕ) (rest : List R) → IsRestOfPiece (blocks ++ map (λ e. e.records) es) i rest → IsPieceAt (joined_pieces blocks ++ grown_records es) i rest
  growths_rest i rest at = subst (λ (xs : List R). IsPieceAt xs i rest) (joined_pieces-growths blocks es) (IsPieceAt-rest (blocks ++ map (λ e. e.records) es) i rest at)

  -- what is found of the growths, behind the blocks
  pub place_behind : (i before number place : ℕ) → before ≡ length (joined_pieces blocks) → before ≤ i → IsPlaceOf es (i - before) number place
      → IsPlaceIn (blocks ++ map (λ e. e.records) es) i (length blocks + number) place
  place_behind i before number place is le at =
      let sum : length (joined_pieces blocks) + (i - before) ≡ i = omega arith in
      rw (← sum) (place-append_right blocks (map (λ e. e.records) es) (i - before) number place (place-growths es (i - before) number place at))

  pub none_behind : (i before : ℕ) → before ≡ length (joined_pieces blocks) → before ≤ i → total es ≤ i - before → length (joined_pieces blocks ++ grown_records es) ≤ i
  none_behind i before is le told = omega (arith, length-append (joined_pieces blocks) (grown_records es), length-flat_map (λ (e : Growth R). e.records) es)

-- what stands at a place is the first of what is left there
pub drop_next : {X : Type 0} (xs : List X) (k : ℕ) (x : X) → slice_get xs k ≡ Some x → drop k xs ≡ x ∷ drop (k + 1) xs
drop_next xs k x is = drop_more xs k x (slice_get_within xs k x is) ∙ ap (λ (y : _). y ∷ drop (k + 1) xs) (get_or_from_slice_get xs k x x is)

-- pieces from a place of the first one on
pub from_place-zero : {R : Type 0} (pieces : List (List R)) → from_place 0 pieces ≡ pieces
from_place-zero [] = refl
from_place-zero (p ∷ pieces) = refl

pub length-from_place : {R : Type 0} (place : ℕ) (pieces : List (List R)) → length (from_place place pieces) ≡ length pieces
length-from_place place [] = refl
length-from_place place (p ∷ pieces) = refl

pub next_from : {R : Type 0} (pieces : List (List R)) (k place : ℕ) (p : List R) → slice_get pieces k ≡ Some p
    → from_place place (drop k pieces) ≡ drop place p ∷ from_place 0 (drop (k + 1) pieces)
next_from pieces k place p is =
    ap (from_place place) (drop_next pieces k p is)
    ∙ ap (λ (ps : List (List _)). drop place p ∷ ps) (sym (from_place-zero (drop (k + 1) pieces)))

joined_from : {R : Type 0} (pieces : List (List R)) (number place : ℕ) (piece : List R) → slice_get pieces number ≡ Some piece → place < length piece
    → joined_pieces (from_place place (drop number pieces)) ≡ drop (sum_by length (take number pieces) + place) (joined_pieces pieces)
joined_from [] number place piece is lt = grind arith
joined_from (p ∷ ps) zero place piece is lt =
    let same : p ≡ piece = grind arith in
    rw (same, zero-add) (sym (drop-append-le place piece (joined_pieces ps) (le_of_lt lt)))
joined_from (p ∷ ps) (suc number) place piece is lt =
    let sum : sum_by length (p ∷ take number ps) ≡ length p + sum_by length (take number ps) = sum_by-cons length p (take number ps) in
    let at : drop ((length p + sum_by length (take number ps)) + place) (p ++ joined_pieces ps)
    ≡ drop (sum_by length (take number ps) + place) (joined_pieces ps) = rw add_assoc (drop_past p (joined_pieces ps) (sum_by length (take number ps) + place)) in
    rw (sum, at) (joined_from ps number place piece is lt)

-- from where a position is found on, or, where it isn't, behind the last piece
pub left_from : {R : Type 0} (pieces : List (List R)) (list : List R) (i count : ℕ) (r : Option (ℕ × ℕ)) → joined_pieces pieces ≡ list
    → count ≡ length pieces → MatchOption r (length list ≤ i) (λ found. IsPlaceIn pieces i found.0 found.1)
    → joined_pieces (from_place ((unwrap_or r (count, 0)).1) (drop ((unwrap_or r (count, 0)).0) pieces)) ≡ drop i list
left_from pieces list i count None same all past = ap (λ (n : ℕ). joined_pieces (from_place 0 (drop n pieces))) all
    ∙ (ap (λ (ps : List (List _)). joined_pieces (from_place 0 ps)) (drop_all (length pieces) pieces (omega arith)) ∙ sym (drop_all i list past))
left_from pieces list i count (Some found) same all here =
    joined_from pieces found.0 found.1 here.piece here.at here.inside
    ∙ (λ k. drop (here.before k) (same k))
