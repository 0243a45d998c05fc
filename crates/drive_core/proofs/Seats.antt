-- A row of seats of which one is replaced.
use Rattle.std.proofs.Common.{◌≡◌, ◌⊎◌, inl, inr, ℕ, zero, suc, ◌≤◌, ◌<◌, Bool, true, false, nat_lt, List, [], ◌∷◌, ◌++◌, length, map, take, drop, length-append, Some, refl, sym, ap, subst, ◌∙◌, arith, ltb-true, ltb-false, get_or, slice_get, slice_index, slice_set}
use Rattle.std.proofs.lemmas.Option.{same_Some}
use Rattle.std.proofs.Math.Seq.{take-append_seam, take-length}
use Rattle.block_core.specs.Growth as block
use Rattle.directory_core.specs.Chain.{IsPrefix, Agree, IsLongerOf}
use Rattle.book_core.specs.Lists as book
use Rattle.book_core.specs.Lists.{Seated}
use Rattle.book_core.specs.Growing.{SeatLearns}
use Rattle.drive_core.specs.Ties.{IsSeat, AreSeatsOf, MeetsIn}

pub same_or_not : (a b : ℕ) → (a ≡ b) ⊎ (a ≡ b → ⊥)
same_or_not a b = at (nat_lt a b) refl
  where
    behind : (x : Bool) → nat_lt b a ≡ x → b ≤ a → (a ≡ b) ⊎ (a ≡ b → ⊥)
    behind true is le = inr (λ same. let less = ltb-true b a is in omega (arith, same, less))
    behind false is le = inl (let more = ltb-false b a is in omega (arith, le, more))

    at : (x : Bool) → nat_lt a b ≡ x → (a ≡ b) ⊎ (a ≡ b → ⊥)
    at true is = inr (λ same. let less = ltb-true a b is in omega (arith, same, less))
    at false is = behind (nat_lt b a) refl (ltb-false a b is)

module _ {X : Type 0} where
  pub get_set_same : (xs : List X) (k : ℕ) (old new : X) → slice_get xs k ≡ Some old → slice_get (slice_set xs k new) k ≡ Some new
  get_set_same [] k old new at = absurd cc
  get_set_same (x ∷ xs) zero old new at = refl
  get_set_same (x ∷ xs) (suc k) old new at = get_set_same xs k old new at

  pub get_set_other : (xs : List X) (k j : ℕ) (new : X) → (j ≡ k → ⊥) → slice_get (slice_set xs k new) j ≡ slice_get xs j
  get_set_other [] k j new other = refl
  get_set_other (x ∷ xs) zero zero new other = absurd (other refl)
  get_set_other (x ∷ xs) zero (suc j) new other = refl
  get_set_other (x ∷ xs) (suc k) zero new other = refl
  get_set_other (x ∷ xs) (suc k) (suc j) new other = get_set_other xs k j new (λ same. other (omega (arith, same)))

  pub get_set : (xs : List X) (k j : ℕ) (new y : X) → slice_get (slice_set xs k new) j ≡ Some y → ((j ≡ k) × (new ≡ y)) ⊎ (slice_get xs j ≡ Some y)
  get_set [] k j new y at = inr at
  get_set (x ∷ xs) zero zero new y at = inl (refl, same_Some new y at)
  get_set (x ∷ xs) zero (suc j) new y at = inr at
  get_set (x ∷ xs) (suc k) zero new y at = inr at
  get_set (x ∷ xs) (suc k) (suc j) new y at = elim (get_set xs k j new y at) [ inl here ↦ inl (let same = here.0 in omega (arith, same), here.1) | inr there ↦ inr there ]

  pub map_set : (f : X → ℕ) (xs : List X) (k : ℕ) (new : X) → map f (slice_set xs k new) ≡ slice_set (map f xs) k (f new)
  map_set f [] k new = refl
  map_set f (x ∷ xs) zero new = refl
  map_set f (x ∷ xs) (suc k) new = ap (λ rest. f x ∷ rest) (map_set f xs k new)

  pub map_kept : (f : X → ℕ) (xs : List X) (k : ℕ) (old new : X) → slice_get xs k ≡ Some old → f new ≡ f old → map f (slice_set xs k new) ≡ map f xs
  map_kept f [] k old new at same = refl
  map_kept f (x ∷ xs) zero old new at same = ap (λ n. n ∷ map f xs) (same ∙ ap f (sym (same_Some x old at)))
  map_kept f (x ∷ xs) (suc k) old new at same = ap (λ rest. f x ∷ rest) (map_kept f xs k old new at same)

  pub index_map : (f : X → ℕ) (xs : List X) (k : ℕ) (old : X) → slice_get xs k ≡ Some old → slice_index (map f xs) k ≡ f old
  index_map f [] k old at = absurd cc
  index_map f (x ∷ xs) zero old at = ap f (same_Some x old at)
  index_map f (x ∷ xs) (suc k) old at = index_map f xs k old at

  pub there_is : (xs : List X) (k : ℕ) → k < length xs → (x : X) × (slice_get xs k ≡ Some x)
  there_is [] k less = absurd (omega (arith, less))
  there_is (x ∷ xs) zero less = (x, refl)
  there_is (x ∷ xs) (suc k) less = there_is xs k (omega (arith, less))

  -- what a row lends by its place
  pub lent_at : (xs : List X) (k : ℕ) (x : X) → k < length xs → x ≡ get_or xs k x → slice_get xs k ≡ Some x
  lent_at [] k x less is = absurd (omega (arith, less))
  lent_at (y ∷ ys) zero x less is = ap Some (sym is)
  lent_at (y ∷ ys) (suc k) x less is = lent_at ys k x (omega (arith, less)) is

  pub there_at : (xs : List X) (k : ℕ) (d : X) → k < length xs → slice_get xs k ≡ Some (get_or xs k d)
  there_at [] k d less = absurd (omega (arith, less))
  there_at (x ∷ xs) zero d less = refl
  there_at (x ∷ xs) (suc k) d less = there_at xs k d (omega (arith, less))

  pub set_same : (xs : List X) (k : ℕ) (y : X) → slice_get xs k ≡ Some y → slice_set xs k y ≡ xs
  set_same [] k y at = refl
  set_same (x ∷ xs) zero y at = ap (λ z. z ∷ xs) (sym (same_Some x y at))
  set_same (x ∷ xs) (suc k) y at = ap (λ rest. x ∷ rest) (set_same xs k y at)

  set_front : (xs ys : List X) (k : ℕ) (new : X) → k < length xs → slice_set xs k new ++ ys ≡ slice_set (xs ++ ys) k new
  set_front [] ys k new less = absurd (omega (arith, less))
  set_front (x ∷ xs) ys zero new less = refl
  set_front (x ∷ xs) ys (suc k) new less = ap (λ rest. x ∷ rest) (set_front xs ys k new (omega (arith, less)))

  set_back : (xs ys : List X) (new : X) → xs ++ slice_set ys 0 new ≡ slice_set (xs ++ ys) (length xs) new
  set_back [] ys new = refl
  set_back (x ∷ xs) ys new = ap (λ rest. x ∷ rest) (set_back xs ys new)

  pub get_front : (xs ys : List X) (k : ℕ) (y : X) → slice_get xs k ≡ Some y → slice_get (xs ++ ys) k ≡ Some y
  get_front [] ys k y at = absurd cc
  get_front (x ∷ xs) ys zero y at = at
  get_front (x ∷ xs) ys (suc k) y at = get_front xs ys k y at

  pub get_back : (xs ys : List X) → slice_get (xs ++ ys) (length xs) ≡ slice_get ys 0
  get_back [] ys = refl
  get_back (x ∷ xs) ys = get_back xs ys

  pub length_set : (xs : List X) (k : ℕ) (new : X) → length (slice_set xs k new) ≡ length xs
  length_set [] k new = refl
  length_set (x ∷ xs) zero new = refl
  length_set (x ∷ xs) (suc k) new = let rest = length_set xs k new in omega (arith, rest)

  -- what a row is behind its parts
  row_back : (n : ℕ) (xs old : List X) → length xs ≡ n → take n (xs ++ drop (length xs) old) ≡ xs
  row_back n xs old long = ap (λ k. take k (xs ++ drop (length xs) old)) (sym long) ∙ take-append_seam xs (drop (length xs) old)

  pub begins-le : (xs ys : List X) → IsPrefix xs ys → length xs ≤ length ys
  begins-le [] ys begins = omega arith
  begins-le (x ∷ xs) [] begins = absurd cc
  begins-le (x ∷ xs) (y ∷ ys) begins = let rest = begins-le xs ys (ap tail begins) in omega (arith, rest)
    where
      tail : List X → List X
      tail [] = []
      tail (z ∷ zs) = zs

module _ {R : Type 0} (entries : List (block.Growth R)) (seats : List (Seated R)) (k : ℕ) (old new : Seated R) (at : slice_get seats k ≡ Some old) where
  pub each_replaced : ((j : ℕ) (seat : Seated R) → slice_get seats j ≡ Some seat → IsSeat entries j seat) → IsSeat entries k new → (j : ℕ) (seat : Seated R)
      → slice_get (slice_set seats k new) j ≡ Some seat → IsSeat entries j seat
  each_replaced each is j seat there = elim (get_set seats k j new seat there) [
    | inl here ↦ subst (λ (x : ℕ × Seated R). IsSeat entries x.0 x.1) (λ i. (sym here.0 i, here.1 i)) is
    | inr other ↦ each j seat other
  ]

  pub last_replaced : (last : ℕ) → (seat : Seated R) × (slice_get seats last ≡ Some seat) × (seat.pass.entries ≡ entries) → (old.pass.entries ≡ entries → new.pass.entries ≡ entries)
      → (seat : Seated R) × (slice_get (slice_set seats k new) last ≡ Some seat) × (seat.pass.entries ≡ entries)
  last_replaced last knows kept = elim (same_or_not last k) [
    | inl same ↦
        let is = same_Some old knows.0 (sym at ∙ ap (slice_get seats) (sym same) ∙ knows.1) in
        (new, ap (slice_get (slice_set seats k new)) same ∙ get_set_same seats k old new at, kept (ap (λ (s : Seated R). s.pass.entries) is ∙ knows.2))
    | inr other ↦ (knows.0, get_set_other seats k last new other ∙ knows.1, knows.2)
  ]

-- seats of a book
pub of_replaced : {R : Type 0} (seats : List (Seated R)) (k : ℕ) (new : Seated R) (live : book.Phase R) → AreSeatsOf live seats → book.IsSeatOf live new
    → AreSeatsOf live (slice_set seats k new)
of_replaced seats k new live are is j seat there = elim (get_set seats k j new seat there) [
  | inl here ↦ subst (book.IsSeatOf live) here.1 is
  | inr other ↦ are j seat other
]

-- ---- two seats that meet

module _ {R : Type 0} (items front back : List (Seated R)) (n k : ℕ) (items_are : items ≡ front ++ back) (long : length items ≡ n) (inside : k < length front) where
  abbrev row_of : Seated R → Seated R → List (Seated R)
  row_of f b = take n ((slice_set front k f ++ slice_set back 0 b) ++ drop (length (slice_set front k f ++ slice_set back 0 b)) items)

  whole_row : (f b : Seated R) → take n ((slice_set front k f ++ slice_set back 0 b) ++ drop (length (slice_set front k f ++ slice_set back 0 b)) items) ≡ slice_set front k f ++ slice_set back 0 b
  whole_row f b = row_back n (slice_set front k f ++ slice_set back 0 b) items
      (let all = length-append (slice_set front k f) (slice_set back 0 b) in
      let one = length_set front k f in
      let two = length_set back 0 b in
      let parts = ap length items_are ∙ length-append front back in
      omega (arith, all, one, two, parts, long))

  -- the first stands in front
  pub meets_front : (mine theirs mine' theirs' m t : Seated R) → slice_get front k ≡ Some mine → slice_get back 0 ≡ Some theirs → theirs' ≡ theirs → SeatLearns mine mine'
      → Agree mine.pass.entries theirs.pass.entries → IsLongerOf mine.pass.entries theirs.pass.entries mine'.pass.entries
      → slice_get items k ≡ Some m → slice_get items (length front) ≡ Some t
      → MeetsIn items (take n ((slice_set front k mine' ++ slice_set back 0 theirs') ++ drop (length (slice_set front k mine' ++ slice_set back 0 theirs')) items)) k m t
  meets_front mine theirs mine' theirs' m t at_mine at_theirs same learns agree meets at_m at_t =
      let is_m : m ≡ mine = same_Some m mine (sym at_m ∙ ap (λ xs. slice_get xs k) items_are ∙ get_front front back k mine at_mine) in
      let is_t : t ≡ theirs = same_Some t theirs (sym at_t ∙ ap (λ xs. slice_get xs (length front)) items_are ∙ get_back front back ∙ at_theirs) in
      subst (λ x. MeetsIn items (row_of mine' theirs') k x t) (sym is_m) (subst (λ x. MeetsIn items (row_of mine' theirs') k mine x) (sym is_t) (record {
        met = mine';
        row_is = whole_row mine' theirs' ∙ ap (λ b. slice_set front k mine' ++ slice_set back 0 b) same
            ∙ ap (λ ys. slice_set front k mine' ++ ys) (set_same back 0 theirs at_theirs) ∙ set_front front back k mine' inside ∙ ap (λ xs. slice_set xs k mine') (sym items_are);
        learns = learns;
        agree = agree;
        meets = meets;
      }))

  -- or behind
  pub meets_back : (mine theirs mine' theirs' m t : Seated R) → slice_get back 0 ≡ Some mine → slice_get front k ≡ Some theirs → theirs' ≡ theirs → SeatLearns mine mine'
      → Agree mine.pass.entries theirs.pass.entries → IsLongerOf mine.pass.entries theirs.pass.entries mine'.pass.entries
      → slice_get items (length front) ≡ Some m → slice_get items k ≡ Some t
      → MeetsIn items (take n ((slice_set front k theirs' ++ slice_set back 0 mine') ++ drop (length (slice_set front k theirs' ++ slice_set back 0 mine')) items)) (length front) m t
  meets_back mine theirs mine' theirs' m t at_mine at_theirs same learns agree meets at_m at_t =
      let is_t : t ≡ theirs = same_Some t theirs (sym at_t ∙ ap (λ xs. slice_get xs k) items_are ∙ get_front front back k theirs at_theirs) in
      let is_m : m ≡ mine = same_Some m mine (sym at_m ∙ ap (λ xs. slice_get xs (length front)) items_are ∙ get_back front back ∙ at_mine) in
      subst (λ x. MeetsIn items (row_of theirs' mine') (length front) x t) (sym is_m) (subst (λ x. MeetsIn items (row_of theirs' mine') (length front) mine x) (sym is_t) (record {
        met = mine';
        row_is = whole_row theirs' mine' ∙ ap (λ f. slice_set front k f ++ slice_set back 0 mine') same
            ∙ ap (λ xs. xs ++ slice_set back 0 mine') (set_same front k theirs at_theirs) ∙ set_back front back mine' ∙ ap (λ xs. slice_set xs (length front) mine') (sym items_are);
        learns = learns;
        agree = agree;
        meets = meets;
      }))

  pub meets_back_at : (j : ℕ) (mine theirs mine' theirs' m t : Seated R) → length front ≡ j → slice_get back 0 ≡ Some mine → slice_get front k ≡ Some theirs → theirs' ≡ theirs
      → SeatLearns mine mine' → Agree mine.pass.entries theirs.pass.entries → IsLongerOf mine.pass.entries theirs.pass.entries mine'.pass.entries
      → slice_get items j ≡ Some m → slice_get items k ≡ Some t
      → MeetsIn items (take n ((slice_set front k theirs' ++ slice_set back 0 mine') ++ drop (length (slice_set front k theirs' ++ slice_set back 0 mine')) items)) j m t
  meets_back_at j mine theirs mine' theirs' m t at at_mine at_theirs same learns agree meets at_m at_t =
      subst (λ i. MeetsIn items (row_of theirs' mine') i m t) at (meets_back mine theirs mine' theirs' m t at_mine at_theirs same learns agree meets (ap (slice_get items) at ∙ at_m) at_t)

-- a seat that meets itself
pub meets_self : {R : Type 0} (items : List (Seated R)) (k : ℕ) (m t : Seated R) → slice_get items k ≡ Some m → slice_get items k ≡ Some t → MeetsIn items items k m t
meets_self items k m t at_m at_t = subst (MeetsIn items items k m) (same_Some m t (sym at_m ∙ at_t)) (record {
  met = m;
  row_is = sym (set_same items k m at_m);
  learns = record { id = refl; mark = refl; of = refl; made = refl; begins = take-length m.pass.entries };
  agree = λ g mine theirs. refl;
  meets = record { begins_mine = take-length m.pass.entries; begins_theirs = take-length m.pass.entries; is_one = inl refl };
})

-- what has learnt is of the same book
pub of_learns : {R : Type 0} (live : book.Phase R) (old new : Seated R) → book.IsSeatOf live old → SeatLearns old new → book.IsSeatOf live new
of_learns live old new is learns = record { directory = learns.of ∙ is.directory; mark = ap (λ (m : _). m.of) learns.mark ∙ is.mark }

-- a row of seats of a book stays one
pub of_met : {R : Type 0} (live : book.Phase R) (items new : List (Seated R)) (k : ℕ) (m t : Seated R) → AreSeatsOf live items → slice_get items k ≡ Some m → MeetsIn items new k m t
    → AreSeatsOf live new
of_met live items new k m t are at_m met = subst (AreSeatsOf live) (sym met.row_is) (of_replaced items k met.met live are (of_learns live m met.met (are k m at_m) met.learns))
