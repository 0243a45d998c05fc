-- A row of seats one of which has grown, or was refused, and has then met the one that knew all.
use Rattle.std.proofs.Common.{◌≡◌, ◌⊎◌, inl, inr, ℕ, zero, suc, ◌≤◌, ◌<◌, List, [], ◌∷◌, ◌++◌, length, Some, refl, sym, ap, subst, ◌∙◌, arith, length-append, get_or, slice_get, slice_set}
use Rattle.std.proofs.lemmas.Option.{same_Some}
use Rattle.std.proofs.lemmas.List.{take-append-le}
use Rattle.block_core.specs.Growth as block
use Rattle.directory_core.specs.Chain.{IsPrefix}
use Rattle.book_core.specs.Lists.{Seated}
use Rattle.drive_core.specs.Medium.{Medium}
use Rattle.drive_core.specs.World.{World, GrowthPhase}
use Rattle.drive_core.specs.Ties.{GrowingOf, IsGrowing, MeetsIn}
use Rattle.drive_core.proofs.Looked.{same-front, none-or}
use Rattle.drive_core.proofs.Seats.{same_or_not, get_set_same, get_set_other, begins-le, length_set, lent_at, there_is}

-- ---- lists that begin one another

module _ {X : Type 0} where
  pub begins-more : (xs ys zs : List X) → IsPrefix xs ys → IsPrefix xs (ys ++ zs)
  begins-more xs ys zs begins = take-append-le (length xs) ys zs (begins-le xs ys begins) ∙ begins

  -- lists of one length that agree
  same-lists : (xs ys : List X) → length xs ≡ length ys → ((g : ℕ) → g < length xs → slice_get xs g ≡ slice_get ys g) → xs ≡ ys
  same-lists [] [] long each = refl
  same-lists [] (y ∷ ys) long each = absurd (omega (arith, long))
  same-lists (x ∷ xs) [] long each = absurd (omega (arith, long))
  same-lists (x ∷ xs) (y ∷ ys) long each =
      let first = same_Some x y (each 0 (omega arith)) in
      let rest = same-lists xs ys (omega (arith, long)) (λ g less. each (suc g) (omega (arith, less))) in
      λ i. first i ∷ rest i

  get-append : (xs ys : List X) (g : ℕ) → g < length xs → slice_get (xs ++ ys) g ≡ slice_get xs g
  get-append [] ys g less = absurd (omega (arith, less))
  get-append (x ∷ xs) ys zero less = refl
  get-append (x ∷ xs) ys (suc g) less = get-append xs ys g (omega (arith, less))

  set-twice : (xs : List X) (k : ℕ) (a b : X) → slice_set (slice_set xs k a) k b ≡ slice_set xs k b
  set-twice [] k a b = refl
  set-twice (x ∷ xs) zero a b = refl
  set-twice (x ∷ xs) (suc k) a b = ap (λ rest. x ∷ rest) (set-twice xs k a b)

-- The seat at this place was that one, is this one, and has met the last, which was another or is this one too.
pub record HasMet {R : Type 0} (seats : List (Seated R)) (last k : ℕ) (old new : Seated R) (row : List (Seated R)) : Type 0 where
  pub at : slice_get seats k ≡ Some old
  pub other : Seated R
  pub at_last : slice_get (slice_set seats k new) last ≡ Some other
  pub meets : MeetsIn (slice_set seats k new) row k new other

module _ {R D : Type 0} {m : Medium R D} {w : World R} {phase : GrowthPhase} {g : GrowingOf R D} (tie : IsGrowing m w phase g)
    {k : ℕ} {old new : Seated R} {row : List (Seated R)} (has_met : HasMet g.seats g.last k old new row) where
  abbrev seats : List (Seated R)
  seats = g.seats

  abbrev last : ℕ
  last = g.last

  abbrev entries : List (block.Growth R)
  entries = tie.entries

  abbrev other : Seated R
  other = has_met.other

  abbrev met : Seated R
  met = has_met.meets.met

  pub row_is : row ≡ slice_set seats k met
  row_is = has_met.meets.row_is ∙ set-twice seats k new met

  -- the last one is this seat, or another as it was
  same_seat : last ≡ k → other ≡ new
  same_seat same = same_Some other new (sym has_met.at_last ∙ ap (slice_get (slice_set seats k new)) same ∙ get_set_same seats k old new has_met.at)

  other_seat : (last ≡ k → ⊥) → slice_get seats last ≡ Some other
  other_seat not_same = sym (get_set_other seats k last new not_same) ∙ has_met.at_last

  -- who knows all is this seat or another, which knows all still
  knows_all : 0 < length entries → ((old.pass.entries ≡ entries) × (other ≡ new)) ⊎ (other.pass.entries ≡ entries)
  knows_all some = let knew = tie.seats.last_knows some in elim (same_or_not last k) [
    | inl same ↦ inl (ap (λ (s : Seated R). s.pass.entries) (same_Some old knew.0 (sym has_met.at ∙ ap (slice_get seats) (sym same) ∙ knew.1)) ∙ knew.2, same_seat same)
    | inr not_same ↦ inr (ap (λ (s : Seated R). s.pass.entries) (same_Some other knew.0 (sym (other_seat not_same) ∙ knew.1)) ∙ knew.2)
  ]

  -- the lists that a seat knew before are the first ones
  pub first_are : (known more : List (block.Growth R)) → IsPrefix old.pass.entries known → new.pass.entries ≡ known ++ more → length known ≡ length entries → known ≡ entries
  first_are known more begins is long = elim (none-or entries) [
    | inl none ↦ same-lists known entries long (λ g less. absurd (omega (arith, less, long, none)))
    | inr some ↦ elim (knows_all some) [
      | inl mine ↦ same-front entries known (subst (λ xs. IsPrefix xs known) mine.0 begins) (omega (arith, long))
      | inr theirs ↦ same-lists known entries long (λ j less.
          let mine : j < length new.pass.entries = (let all = ap length is ∙ length-append known more in omega (arith, all, less)) in
          let there : j < length other.pass.entries = (let all = ap length theirs in omega (arith, all, less, long)) in
          sym (ap (λ xs. slice_get xs j) is ∙ get-append known more j less) ∙ has_met.meets.agree j mine there ∙ ap (λ xs. slice_get xs j) theirs)
    ]
  ]

  -- a seat that knows all learns nothing
  pub learns_nothing : length entries ≤ length new.pass.entries → met.pass.entries ≡ new.pass.entries
  learns_nothing all = elim has_met.meets.meets.is_one [
    | inl mine ↦ mine
    | inr theirs ↦ elim (same_or_not last k) [
      | inl same ↦ theirs ∙ ap (λ (s : Seated R). s.pass.entries) (same_seat same)
      | inr not_same ↦
          let few = begins-le other.pass.entries entries (tie.seats.each last other (other_seat not_same)).knows in
          let same = ap length theirs in
          same-front new.pass.entries met.pass.entries has_met.meets.meets.begins_mine (omega (arith, few, all, same))
    ]
  ]

-- what is lent of a row whose seat was replaced
pub lent_new : {R : Type 0} (seats : List (Seated R)) (k : ℕ) (old new lent : Seated R) → k < length seats → slice_get seats k ≡ Some old
    → lent ≡ get_or (slice_set seats k new) k lent → lent ≡ new
lent_new seats k old new lent less at is =
    let long = length_set seats k new in
    same_Some lent new (sym (lent_at (slice_set seats k new) k lent (omega (arith, less, long)) is) ∙ get_set_same seats k old new at)

-- the last of the row is some seat
pub find_met : {R : Type 0} {seats row : List (Seated R)} {k last : ℕ} {old : Seated R} (new : Seated R) → slice_get seats k ≡ Some old → last < length seats
    → ((mine theirs : Seated R) → slice_get (slice_set seats k new) k ≡ Some mine → slice_get (slice_set seats k new) last ≡ Some theirs
    → MeetsIn (slice_set seats k new) row k mine theirs)
    → HasMet seats last k old new row
find_met {seats = seats} {k = k} {last = last} {old = old} new at last_inside meets =
    let long = length_set seats k new in
    let other = there_is (slice_set seats k new) last (omega (arith, long, last_inside)) in
    record { at = at; other = other.0; at_last = other.1; meets = meets new other.0 (get_set_same seats k old new at) other.1 }

-- the row keeps its length
pub met_inside : {R : Type 0} {seats row : List (Seated R)} {last k : ℕ} {old new : Seated R} (n : ℕ) → HasMet seats last k old new row → n < length seats → n < length row
met_inside {seats = seats} {k = k} {new = new} n has_met less =
    let one = length_set seats k new in
    let all = ap length has_met.meets.row_is ∙ length_set (slice_set seats k new) k has_met.meets.met in
    omega (arith, all, one, less)
