-- A grower that comes home.
use Rattle.std.proofs.Common.{◌≡◌, ◌⊎◌, ℕ, ◌<◌, inl, inr, List, length, map, Some, None, Option, All, subst, sym, ap, ◌∙◌, arith}
use Rattle.std.proofs.lemmas.List.{length-map}
use Rattle.book_core.specs.declared.fault.GrowFault.{GrowFault}
use Rattle.book_core.specs.declared.seat.Receipt.{Receipt}
use Rattle.book_core.specs.Lists.{Phase, Seated, opening_of}
use Rattle.crew_core.specs.Crewing.{HasGrown, HasCome, receipt_of}

-- it has as many receipts as growths
pub as_many_receipts : {R : Type 0} {width : ℕ} {live : Phase R} {count : ℕ} {block : ℕ → List R} {id : ℕ} {seat : Seated R} {receipts : List Receipt} {fault : Option GrowFault}
    → HasGrown width live count block id seat receipts fault → length receipts ≡ length seat.made
as_many_receipts {live = live} {seat = seat} grown = ap length grown.receipts_are ∙ length-map seat.made (receipt_of (length (opening_of live)))

-- its gate let it make so many growths, and was told of them
module _ {R : Type 0} {width : ℕ} {live : Phase R} {count : ℕ} {block : ℕ → List R} (may_stop has_let : ℕ → Type 0) {was_told : Receipt → Type 0} {id : ℕ}
    {seat : Seated R} {receipts : List Receipt} where
  -- and it has no fault
  pub comes : HasGrown width live count block id seat receipts None → ((j : ℕ) → j < length seat.made → has_let j) → All was_told receipts
      → (length seat.made ≡ count) ⊎ may_stop (length seat.made) → HasCome width live count block may_stop has_let was_told id seat receipts None
  comes grown lets told made = record {
    grown = grown;
    all_made = λ _. made;
    heeds = record { each_let = λ j lt. lets j (let long = as_many_receipts grown in omega (arith, lt, long)); each_told = told; stop_let = tt };
  }

  -- or it has one, and was let make the next growth too
  pub comes_with : (fault : GrowFault) → HasGrown width live count block id seat receipts (Some fault) → ((j : ℕ) → j < length seat.made → has_let j)
      → All was_told receipts → has_let (length receipts) → HasCome width live count block may_stop has_let was_told id seat receipts (Some fault)
  comes_with fault grown lets told next = record {
    grown = grown;
    all_made = λ none. absurd cc;
    heeds = record { each_let = λ j lt. lets j (let long = as_many_receipts grown in omega (arith, lt, long)); each_told = told; stop_let = inl next };
  }

-- it came by the same phase, source and gate
pub HasCome_same : {R S G : Type 0} {width : ℕ} (count_of : S → ℕ → ℕ) (block_of : S → ℕ → ℕ → List R) (may_stop has_let : G → ℕ → ℕ → Type 0)
    (was_told : G → ℕ → Receipt → Type 0) {live live' : Phase R} {source source' : S} {gate gate' : G} {id id' : ℕ} {seat : Seated R} {receipts : List Receipt}
    {fault : Option GrowFault} → live' ≡ live → source' ≡ source → gate' ≡ gate → id' ≡ id
    → HasCome width live (count_of source id) (block_of source id) (may_stop gate id) (has_let gate id) (was_told gate id) id seat receipts fault
    → HasCome width live' (count_of source' id') (block_of source' id') (may_stop gate' id') (has_let gate' id') (was_told gate' id') id' seat receipts fault
HasCome_same count_of block_of may_stop has_let was_told of by at is come = rw (of, by, at, is) come
