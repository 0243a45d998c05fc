-- What a note that knows its cell reads there, and the records that are lent.
use Rattle.std.proofs.Common.{◌≡◌, ℕ, zero, suc, ◌+◌, ◌-◌, ◌<◌, ◌≤◌, List, [], ◌∷◌, ◌++◌, length, get_or, take, drop, slice_get}
use Rattle.std.proofs.Common.{Some, None, Option, refl, ap, sym, ◌∙◌, arith, MatchOption, Bor, zero-add, add_assoc, le_of_lt, map, ap₂}
use Rattle.std.proofs.lemmas.Option.{slice_get_past}
use Rattle.std.proofs.lemmas.List.{drop-append-le, take_at, take_rest, drop_at, drop-drop, map-append, map_more, take-map, length-drop}
use Rattle.std.proofs.lemmas.List.Sums.{sum_by-cons}
use Rattle.once_cell.specs.Once.{Agrees}
use Rattle.once_cell.specs.declared.race.note.Note.{Note}
use Rattle.block_core.specs.Growth.{Growth}
use Rattle.directory_core.specs.Chain.{total, grown_records}
use Rattle.directory_core.specs.Finding.{IsPlaceOf, IsPieceAt, IsRestAt}
use Rattle.directory_core.specs.Notes.{cell_in, cells_of}

pub found_cell : (known : Option (List ℕ)) (now : List ℕ) (place cell : ℕ) → cell_in known place ≡ Some cell → Agrees known now → slice_get now place ≡ Some cell
found_cell None now place cell is agree = grind arith
found_cell (Some names) now place cell is agree = ap (λ (ns : List ℕ). slice_get ns place) (sym agree) ∙ is

pub no_cell : (known : Option (List ℕ)) (place cell : ℕ) → cell_in known place ≡ Some cell → known ≡ None → ⊥
no_cell None place cell is none = grind arith
no_cell (Some names) place cell is none = grind arith

pub cell_inside : (names : List ℕ) (place cell : ℕ) → slice_get names place ≡ Some cell → length names ≤ place → ⊥
cell_inside names place cell is past = let none = slice_get_past names place past in grind arith

pub one_some : (o : Option ℕ) (x y : ℕ) → o ≡ Some x → o ≡ Some y → x ≡ y
one_some o x y p q = grind arith

pub get_none : {X : Type 0} (xs : List X) (i : ℕ) → slice_get xs i ≡ None → length xs ≤ i
get_none [] i is = omega arith
get_none (x ∷ xs) zero is = grind arith
get_none (x ∷ xs) (suc i) is = let h = get_none xs i is in omega arith

agrees_is : {X : Type 0} (o : Option X) (x : X) → Agrees o x → (o ≡ None → ⊥) → o ≡ Some x
agrees_is None x agree some = absurd (some refl)
agrees_is (Some y) x agree some = ap Some agree

pub reads : {X : Type 0} (xs : List X) (i : ℕ) (known new : Option X) (r : Option (Bor X)) → known ≡ slice_get xs i → i < length xs
    → MatchOption r ((known ≡ None) × (new ≡ None)) (λ b. (new ≡ Some b.now) × Agrees known b.now)
    → MatchOption r (length xs ≤ i) (λ b. slice_get xs i ≡ Some b.now)
reads xs i known new None is lt told = get_none xs i (sym is ∙ told.0)
reads xs i known new (Some b) is lt told = sym is ∙ agrees_is known b.now told.1 (λ none. let past = get_none xs i (sym is ∙ none) in omega arith)

drop_past : {X : Type 0} (xs ys : List X) (n : ℕ) → drop (length xs + n) (xs ++ ys) ≡ drop n ys
drop_past xs ys n = sym (drop-drop n (length xs) (xs ++ ys)) ∙ ap (drop n) (drop_at xs ys (length xs) refl)

-- the rest of a growth stands in the records joined
grown_records_rest : {R : Type 0} (es : List (Growth R)) (g : ℕ) (e : Growth R) (place : ℕ) → slice_get es g ≡ Some e → place < length e.records
    → drop place e.records ≡ take (length (drop place e.records)) (drop (total (take g es) + place) (grown_records es))
grown_records_rest [] g e place is lt = grind arith
grown_records_rest (f ∷ es) zero e place is lt =
    let same : f ≡ e = grind arith in
    let at : drop (0 + place) (e.records ++ grown_records es) ≡ drop place e.records ++ grown_records es = rw zero-add (drop-append-le place e.records (grown_records es) (le_of_lt lt)) in
    rw (same, at) (sym (take_at (drop place e.records) (grown_records es) (length (drop place e.records)) refl))
grown_records_rest (f ∷ es) (suc g) e place is lt =
    let sum : total (f ∷ take g es) ≡ length f.records + total (take g es) = sum_by-cons (λ (h : Growth _). length h.records) f (take g es) in
    let at : drop ((length f.records + total (take g es)) + place) (f.records ++ grown_records es) ≡ drop (total (take g es) + place) (grown_records es) =
    rw add_assoc (drop_past f.records (grown_records es) (total (take g es) + place)) in
    rw (sum, at) (grown_records_rest es g e place is lt)

-- the first record that is lent
pub piece_first : {R : Type 0} (records piece : List R) (i : ℕ) (r : R) → 0 < length piece → piece ≡ take (length piece) (drop i records) → r ≡ get_or piece 0 r
    → slice_get records i ≡ Some r
piece_first records [] i r some is at = absurd (omega arith)
piece_first [] (p ∷ ps) zero r some is at = absurd cc
piece_first [] (p ∷ ps) (suc i) r some is at = absurd cc
piece_first (x ∷ xs) (p ∷ ps) zero r some is at = let first : p ≡ x = cc in ap Some (sym (at ∙ first))
piece_first (x ∷ xs) (p ∷ ps) (suc i) r some is at = piece_first xs (p ∷ ps) i r some is at

-- one more note of a row of cells
pub cells_more : {C U : Type 0} (name : C → ℕ) (cells : List C) (i : ℕ) (cell : C) (notes : List (Note U)) (note : Note U) → i < length cells
    → cell ≡ get_or cells i cell → cells_of notes ≡ take i (map name cells) → note.cell ≡ name cell
    → cells_of (notes ++ note ∷ []) ≡ take (i + 1) (map name cells)
cells_more name cells i cell notes note lt is before names =
    map-append (λ (n : Note _). n.cell) notes (note ∷ [])
    ∙ (ap₂ (λ (xs : List ℕ) (n : ℕ). xs ++ n ∷ []) before (names ∙ ap name is)
    ∙ (ap (λ (xs : List ℕ). xs ++ name (get_or cells i cell) ∷ []) (take-map name i cells) ∙ (sym (map_more name cells i cell lt) ∙ sym (take-map name (i + 1) cells))))

-- the records that are lent are the rest of a growth, and a piece of the records joined
module _ {R : Type 0} (es : List (Growth R)) (i g place : ℕ) (e : Growth R) (records : List R) (found : IsPlaceOf es i g place) (is : slice_get es g ≡ Some e) (same : records ≡ e.records) where
  records_are : records ≡ found.growth.records
  records_are = let one : found.growth ≡ e = (let there = found.is in grind arith) in same ∙ ap (λ (f : Growth _). f.records) (sym one)

  pub rest_is : IsRestAt es i (take (length records - place) (drop place records))
  rest_is = rw (records_are, take_rest found.growth.records place) (record { number = g; place = place; found = found; is = refl })

  pub piece_is : IsPieceAt (grown_records es) i (take (length records - place) (drop place records))
  piece_is =
      let inside = found.inside in
      rw (records_are, take_rest found.growth.records place) (record {
        some = omega (arith, length-drop place found.growth.records);
        is = rw (← found.at) (grown_records_rest es g found.growth place found.is found.inside);
      })
