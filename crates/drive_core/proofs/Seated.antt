-- What is counted of a row of seats of which one is replaced.
use Rattle.std.proofs.Common.{◌≡◌, ℕ, ◌≤◌, List, length, map, Some, sym, ap, subst, ◌∙◌, slice_get, slice_index, slice_set}
use Rattle.block_core.specs.Growth as block
use Rattle.book_core.specs.Lists.{Seated}
use Rattle.drive_core.specs.Ties.{AreSeated, IsSeat}
use Rattle.drive_core.proofs.Seats.{map_set, map_kept, index_map, each_replaced, last_replaced, begins-le}

module _ {X : Type 0} (f : X → ℕ) (xs : List X) {ns : List ℕ} (are : ns ≡ map f xs) (k : ℕ) (new : X) where
  pub counts_set : {n : ℕ} → n ≡ f new → slice_set ns k n ≡ map f (slice_set xs k new)
  counts_set {n} is = ap (λ ms. slice_set ms k n) are ∙ ap (slice_set (map f xs) k) is ∙ sym (map_set f xs k new)

  pub counts_kept : {old : X} → slice_get xs k ≡ Some old → f new ≡ f old → ns ≡ map f (slice_set xs k new)
  counts_kept {old} at same = are ∙ sym (map_kept f xs k old new at same)

-- what is counted of a seat
abbrev pub knows : {R : Type 0} → Seated R → ℕ
knows s = length s.pass.entries

abbrev pub makes : {R : Type 0} → Seated R → ℕ
makes s = length s.made

abbrev pub hears : {R : Type 0} → Seated R → ℕ
hears s = s.mark.told.count

module _ {R : Type 0} {known made told : List ℕ} {seats : List (Seated R)} {count last : ℕ} {entries : List (block.Growth R)} (seated : AreSeated known made told seats count last entries)
    (k : ℕ) {old : Seated R} (at : slice_get seats k ≡ Some old) where
  pub known_at : slice_index known k ≡ length old.pass.entries
  known_at = ap (λ ns. slice_index ns k) seated.known_are ∙ index_map knows seats k old at

  pub made_at : slice_index made k ≡ length old.made
  made_at = ap (λ ns. slice_index ns k) seated.made_are ∙ index_map makes seats k old at

  pub told_at : slice_index told k ≡ old.mark.told.count
  told_at = ap (λ ns. slice_index ns k) seated.told_are ∙ index_map hears seats k old at

  pub knows_few : length old.pass.entries ≤ length entries
  knows_few = begins-le old.pass.entries entries (seated.each k old at).knows

  -- a seat that has made no growth more, in a row that counts so
  pub replaced : {known' told' : List ℕ} {row : List (Seated R)} (new : Seated R) → row ≡ slice_set seats k new → known' ≡ map knows (slice_set seats k new)
      → told' ≡ map hears (slice_set seats k new)
      → length new.made ≡ length old.made → IsSeat entries k new → (old.pass.entries ≡ entries → new.pass.entries ≡ entries) → AreSeated known' made told' row count last entries
  replaced {known'} {told'} new row_is known_is told_is made_same seat all = subst (λ row. AreSeated known' made told' row count last entries) (sym row_is) (record {
    known_are = known_is;
    made_are = counts_kept makes seats seated.made_are k new at made_same;
    told_are = told_is;
    seats_are = seated.seats_are;
    made_sum = seated.made_sum;
    each = each_replaced entries seats k old new at seated.each seat;
    last_knows = λ some. last_replaced entries seats k old new at last (seated.last_knows some) all;
  })
