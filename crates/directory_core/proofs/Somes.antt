-- Notes of which each knows a value.
use Rattle.std.proofs.Common.{◌≡◌, ℕ, zero, suc, ◌<◌, List, [], ◌∷◌, ◌++◌, map, length, get_or, slice_get, option_to_list, Option, Some, None, refl, ap, sym, ◌∙◌, arith}
use Rattle.std.proofs.lemmas.List.{get_or-map, map-append, length-map}
use Rattle.once_cell.specs.declared.race.note.Note.{Note}
use Rattle.directory_core.specs.Notes.{somes, cells_of, known_of}

pub somes-append : {T : Type 0} (xs ys : List (Option T)) → somes (xs ++ ys) ≡ somes xs ++ somes ys
somes-append [] ys = refl
somes-append (None ∷ xs) ys = somes-append xs ys
somes-append (Some x ∷ xs) ys = ap (λ (zs : List _). x ∷ zs) (somes-append xs ys)

pub get_or-map-Some : {T : Type 0} (xs : List T) (i : ℕ) → get_or (map Some xs) i None ≡ slice_get xs i
get_or-map-Some [] i = refl
get_or-map-Some (x ∷ xs) zero = refl
get_or-map-Some (x ∷ xs) (suc i) = get_or-map-Some xs i

module _ {T : Type 0} (known : List (Option T)) (all_known : known ≡ map Some (somes known)) where
  pub as_many : length (somes known) ≡ length known
  as_many = sym (length-map (somes known) Some) ∙ ap length (sym all_known)

  pub known_at : (i : ℕ) → get_or known i None ≡ slice_get (somes known) i
  known_at i = ap (λ (ks : List (Option T)). get_or ks i None) all_known ∙ get_or-map-Some (somes known) i

  pub known_push : (x : T) → known ++ Some x ∷ [] ≡ map Some (somes (known ++ Some x ∷ []))
  known_push x =
      ap (λ (ks : List (Option T)). ks ++ Some x ∷ []) all_known
      ∙ (sym (map-append Some (somes known) (x ∷ [])) ∙ ap (map Some) (sym (somes-append known (Some x ∷ []))))

-- the note that stands at a place
pub note_known : {T : Type 0} (notes : List (Note T)) (i : ℕ) (n : Note T) → i < length notes → n ≡ get_or notes i n → n.known ≡ get_or (known_of notes) i None
note_known notes i n lt is = ap (λ (m : Note _). m.known) is ∙ sym (get_or-map (λ (m : Note _). m.known) notes i n None lt)

pub note_cell : {T : Type 0} (notes : List (Note T)) (i : ℕ) (n : Note T) → i < length notes → n ≡ get_or notes i n → n.cell ≡ get_or (cells_of notes) i 0
note_cell notes i n lt is = ap (λ (m : Note _). m.cell) is ∙ sym (get_or-map (λ (m : Note _). m.cell) notes i n 0 lt)

pub note_inside : {T : Type 0} (notes : List (Note T)) (i : ℕ) → known_of notes ≡ map Some (somes (known_of notes)) → i < length (somes (known_of notes)) → i < length notes
note_inside notes i all lt = let a = as_many (known_of notes) all in let b = length-map notes (λ (m : Note _). m.known) in omega arith

pub somes_one : {T : Type 0} (o : Option T) → somes (o ∷ []) ≡ option_to_list o
somes_one None = refl
somes_one (Some x) = refl
