-- What is left of a crew whose phase wasn't ended.
use Rattle.std.proofs.Common.{◌≡◌, ℕ, zero, suc, ◌+◌, ◌<◌, ◌≤◌, inl, inr, List, [], ◌∷◌, ◌++◌, length, take, max, get_or, slice_get, Some, Option, All, refl, sym, ap, subst, ◌∙◌, eq-or-lt_of_le, arith}
use Rattle.std.specs.List.{AllWithin}
use Rattle.std.proofs.lemmas.List.{take_more}
use Rattle.std.proofs.lemmas.Option.{get_or_from_slice_get}
use Rattle.pen_core.specs.PenOf.{PenOf}
use Rattle.pen_core.specs.declared.fault.PenFault.TheVariants as faults
use Rattle.block_core.specs.Growth.{Growth}
use Rattle.directory_core.specs.Chain.{IsPrefix, IsLongerOf}
use Rattle.book_core.specs.declared.fault.GrowFault.{GrowFault}
use Rattle.book_core.specs.declared.seat.Receipt.{Receipt}
use Rattle.book_core.specs.Lists.{Phase, Seated, StandInList}
use Rattle.book_core.proofs.Steps.{begins-trans}
use Rattle.flush_core.specs.Flusher.{FlusherOf, FlusherLearns}
use Rattle.vault_core.specs.declared.fault.VaultFault.{VaultFault}
use Rattle.vault_core.specs.declared.fault.VaultFault.TheVariants.{Pen, Unsettled, WrongPhase}
use Rattle.vault_core.specs.Gathering.{AreAll, IsGatherFault, made_by, most_known}
use Rattle.vault_core.specs.Leaving.{AreOfGrowers}
use Rattle.vault_core.proofs.Prefixes.{begins-le}
use Rattle.vault_core.proofs.Endings.{most-flusher}
use Rattle.vault_core.proofs.Owners as owners
use Rattle.crew_core.specs.Crewing.{AreHome}
use Rattle.crew_core.specs.Leaving.{IsLeftSeat}

pub get_or_any : {X : Type 0} (xs : List X) (k : ℕ) (d e : X) → k < length xs → get_or xs k d ≡ get_or xs k e
get_or_any [] k d e lt = absurd (omega arith)
get_or_any (x ∷ xs) zero d e lt = refl
get_or_any (x ∷ xs) (suc k) d e lt = get_or_any xs k d e (omega arith)

-- nobody knows more than one that knows what all know
most-top : {R : Type 0} (seats : List (Seated R)) (m x : ℕ) → most_known seats m ≤ x → most_known seats x ≡ x
most-top [] m x le = refl
most-top (s ∷ ss) m x le =
    let under = most-flusher ss (max m (length s.pass.entries)) in
    let same : max x (length s.pass.entries) ≡ x = omega arith in
    ap (most_known ss) same ∙ most-top ss (max m (length s.pass.entries)) x le

most-push : {R : Type 0} (seats : List (Seated R)) (s : Seated R) (m : ℕ) → most_known (seats ++ s ∷ []) m ≡ max (most_known seats m) (length s.pass.entries)
most-push [] s m = refl
most-push (x ∷ seats) s m = most-push seats s (max m (length x.pass.entries))

longer-length : {X : Type 0} (mine theirs both : List X) → IsLongerOf mine theirs both → length both ≡ max (length mine) (length theirs)
longer-length mine theirs both longer =
    let more = begins-le mine both longer.begins_mine in
    let more' = begins-le theirs both longer.begins_theirs in
    elim longer.is_one [ inl same ↦ (let n = ap length same in omega arith) | inr same ↦ (let n = ap length same in omega arith) ]

-- one that knows what the first k seats know meets the next one
module _ {R : Type 0} (seats : List (Seated R)) (k m : ℕ) (lt : k < length seats) (old new : List (Growth R)) (d : Seated R)
    (longer : IsLongerOf old (get_or seats k d).pass.entries new) where
  pub known_more : length old ≡ most_known (take k seats) m → length new ≡ most_known (take (k + 1) seats) m
  known_more known =
      longer-length old (get_or seats k d).pass.entries new longer
      ∙ ap (λ (n : ℕ). max n (length (get_or seats k d).pass.entries)) known
      ∙ sym (most-push (take k seats) (get_or seats k d) m)
      ∙ ap (λ (ss : List (Seated R)). most_known ss m) (sym (take_more seats k d lt))

  at-last : (j : ℕ) (e : Seated R) → j ≡ k → get_or seats k d ≡ get_or seats j e
  at-last j e same = get_or_any seats k d e lt ∙ ap (λ (i : ℕ). get_or seats i e) (sym same)

  no-later : (j : ℕ) → j < k + 1 → j ≤ k
  no-later j within = omega arith

  pub begin_more : AllWithin (λ s. IsPrefix s.pass.entries old) seats 0 k → AllWithin (λ s. IsPrefix s.pass.entries new) seats 0 (k + 1)
  begin_more begin j e le within =
      elim (eq-or-lt_of_le (no-later j within)) [
        | inl same ↦ subst (λ (s : Seated R). IsPrefix s.pass.entries new) (at-last j e same) longer.begins_theirs
        | inr less ↦ begins-trans (get_or seats j e).pass.entries old new (begin j e le less) longer.begins_mine
      ]

  pub stand_more : StandInList (get_or seats k d) → AllWithin StandInList seats 0 k → AllWithin StandInList seats 0 (k + 1)
  stand_more here stand j e le within =
      elim (eq-or-lt_of_le (no-later j within)) [ inl same ↦ subst StandInList (at-last j e same) here | inr less ↦ stand j e le less ]

-- A flusher that has learnt what the seats know changes nothing of why the phase isn't ended.
module _ {R D : Type 0} (live : Phase R) (seats : List (Seated R)) (old new : FlusherOf R D) (learns : FlusherLearns old new)
    (known : length new.pass.entries ≡ most_known seats (length old.pass.entries)) where
  same_most : most_known seats (length new.pass.entries) ≡ most_known seats (length old.pass.entries)
  same_most = most-top seats (length old.pass.entries) (length new.pass.entries) (omega arith) ∙ known

  all_still : AreAll live seats old → AreAll live seats new
  all_still all = record { as_many = all.as_many; distinct = all.distinct; add_up = all.add_up ∙ sym same_most }

  all_before : AreAll live seats new → AreAll live seats old
  all_before all = record { as_many = all.as_many; distinct = all.distinct; add_up = all.add_up ∙ same_most }

  broken-same : new.pen.broken ≡ old.pen.broken
  broken-same = ap (λ (p : PenOf D). p.broken) learns.pen_same

  pub refused_still : (fault : VaultFault) → IsGatherFault live seats old fault → IsGatherFault live seats new fault
  refused_still (Pen faults.Broken) why = broken-same ∙ why
  refused_still (Pen faults.Busy) why = why
  refused_still (Pen faults.OldFormat) why = why
  refused_still (Pen faults.Runs) why = why
  refused_still (Pen faults.OutOfRange) why = why
  refused_still (Pen faults.TooLarge) why = why
  refused_still (Pen faults.Unfolded) why = why
  refused_still (Pen faults.FileFull) why = why
  refused_still (Pen faults.Memory) why = record {
    whole = broken-same ∙ why.whole;
    all = all_still why.all;
    known = same_most ∙ sym known;
    settled = learns.settled_same ∙ why.settled ∙ sym (known ∙ why.known);
  }
  refused_still (Pen faults.Exists) why = why
  refused_still (Pen (faults.Disk cause)) why = why
  refused_still WrongPhase why = (broken-same ∙ why.0, λ all. why.1 (all_before all))
  refused_still (Unsettled number) why =
      (broken-same ∙ why.0, all_still why.1, why.2 ∙ sym learns.settled_same, subst (λ (m : ℕ). number < m) (sym same_most) why.3)

-- The seat of the grower of that id is in its place, and made growths of the first of its blocks.
pub record HasItsSeat {R : Type 0} (count : ℕ) (block : ℕ → List R) (id : ℕ) (seats : List (Seated R)) : Type 0 where
  pub seat : Seated R
  pub seat_is : slice_get seats id ≡ Some seat
  pub id_is : seat.id ≡ id
  pub few : length seat.made ≤ count
  pub blocks_are : (k : ℕ) (growth : Growth R) → slice_get seat.made k ≡ Some growth → growth.records ≡ block k

-- so it is for each of n growers
pub record HaveTheirSeats {R : Type 0} (count : ℕ → ℕ) (block : ℕ → ℕ → List R) (n : ℕ) (seats : List (Seated R)) : Type 0 where
  pub as_many : length seats ≡ n
  pub each : (k : ℕ) → k < n → HasItsSeat (count k) (block k) k seats

-- growers that are home have brought their seats
pub home_seats : {R : Type 0} {width : ℕ} {live : Phase R} {count : ℕ → ℕ} {block : ℕ → ℕ → List R} {may_stop : ℕ → ℕ → Type 0} {has_let : ℕ → ℕ → Type 0}
    {was_told : ℕ → Receipt → Type 0} {n : ℕ} {seats : List (Seated R)} {receipts : List (List Receipt)} {faults : List (Option GrowFault)}
    → AreHome width live count block may_stop has_let was_told n seats receipts faults → HaveTheirSeats count block n seats
home_seats home = record {
  as_many = home.as_many_seats;
  each = λ k lt.
      let there = home.each k lt in
      let grown = there.come.grown in
      record { seat = there.seat; seat_is = there.seat_is; id_is = grown.id_is; few = grown.few; blocks_are = grown.blocks_are };
}

module _ {R : Type 0} {count : ℕ → ℕ} {block : ℕ → ℕ → List R} {n : ℕ} {seats : List (Seated R)} (have : HaveTheirSeats count block n seats) where
  id-at : (k : ℕ) (d : Seated R) → k < length seats → (get_or seats k d).id ≡ k
  id-at k d lt =
      let there = have.each k (let many = have.as_many in omega arith) in
      ap (λ (s : Seated R). s.id) (get_or_from_slice_get seats k there.seat d there.seat_is) ∙ there.id_is

  -- the lists of the seats begin one that is known
  module _ {es : List (Growth R)} (stand : All StandInList seats) (begin : All (λ s. IsPrefix s.pass.entries es) seats) where
    pub left_seat : (k : ℕ) → k < n → (seat : Seated R) × (slice_get seats k ≡ Some seat) × IsLeftSeat (count k) (block k) k es seat
    left_seat k lt =
        let there = have.each k lt in (
          there.seat,
          there.seat_is,
          record { id_is = there.id_is; few = there.few; blocks_are = there.blocks_are; stands = owners.stand_among seats id-at stand begin k there.seat there.seat_is },
        )

    pub of_growers : made_by seats ≡ length es → AreOfGrowers n seats es
    of_growers as_many = owners.of_growers seats id-at stand begin as_many n have.as_many
