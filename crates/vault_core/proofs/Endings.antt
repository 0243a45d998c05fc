-- The end of a phase.
use Rattle.std.proofs.Common.{◌≡◌, ◌≢◌, ℕ, zero, suc, ◌≤◌, inl, inr, List, [], ◌∷◌, length, get_or, max, All, sym, ◌∙◌, rules, arith}
use Rattle.std.specs.List.{AllByRecursion}
use Rattle.std.proofs.lemmas.List.Elements.{All-from_recursion, recursion_from_All}
use Rattle.block_core.specs.Growth.{Growth}
use Rattle.directory_core.specs.Chain.{IsPrefix, IsChained}
use Rattle.book_core.specs.Lists.{Phase, Seated, own_of, StandInList}
use Rattle.flush_core.specs.Flusher.{FlusherOf}
use Rattle.vault_core.specs.Gathering.{AreDistinct, HasId, IsWhole, MayGather, made_by, most_known}
use Rattle.vault_core.proofs.Accounts.{AreApart, MadeFew, MadeAll, IsOneOf, exact}
use Rattle.vault_core.proofs.Prefixes.{made_few, made_all}

module _ {R : Type 0} where
  -- the one that knows most knows no less than the flusher, and than each seat
  pub most-flusher : (seats : List (Seated R)) (most : ℕ) → most ≤ most_known seats most
  most-flusher [] most = omega arith
  most-flusher (s ∷ ss) most = let rest = most-flusher ss (max most (length s.pass.entries)) in omega arith

  most-more : (seats : List (Seated R)) (a b : ℕ) → a ≤ b → most_known seats a ≤ most_known seats b
  most-more [] a b le = le
  most-more (s ∷ ss) a b le = most-more ss (max a (length s.pass.entries)) (max b (length s.pass.entries)) (omega arith)

  most-each : (seats : List (Seated R)) (most : ℕ) → AllByRecursion (λ s. length s.pass.entries ≤ most_known seats most) seats
  most-each [] most = search rules
  most-each (s ∷ ss) most =
      let next = max most (length s.pass.entries) in
      let rest = most-flusher ss next in
      (omega arith, most-each ss next)

  all_known : (seats : List (Seated R)) (most : ℕ) → All (λ s. length s.pass.entries ≤ most_known seats most) seats
  all_known seats most = All-from_recursion (λ (s : Seated R). length s.pass.entries ≤ most_known seats most) seats (most-each seats most)

  -- so where nothing is in the way of the end, no seat knows more than the flusher
  pub none_more : {D : Type 0} (live : Phase R) (seats : List (Seated R)) (f : FlusherOf R D) → MayGather live seats f → All (λ s. length s.pass.entries ≤ length f.pass.entries) seats
  none_more live seats f may k d lt = let le = all_known seats (length f.pass.entries) k d lt in let known = may.known in omega (arith, le, known)

  apart : (ss : List (Seated R)) → AreDistinct ss → AreApart ss
  apart [] distinct = tt
  apart (s ∷ ss) distinct = (
    recursion_from_All (λ (t : Seated R). s.id ≢ t.id) ss (λ k d lt. distinct zero (suc k) d (omega arith) (omega arith)),
    apart ss (λ i j d lt within. distinct (suc i) (suc j) d (omega arith) (omega arith)),
  )

  has-id : (ss : List (Seated R)) (id : ℕ) → IsOneOf ss id → HasId id ss
  has-id [] id is = absurd is
  has-id (s ∷ ss) id (inl same) = (zero, omega arith, sym same)
  has-id (s ∷ ss) id (inr rest) = let there = has-id ss id rest in (suc there.0, (let lt = there.1 in omega arith), there.2)

  -- all growths were made by the seats, each once, where they made as many as there are
  module _ (seats : List (Seated R)) (es : List (Growth R)) (distinct : AreDistinct seats) (as_many : made_by seats ≡ length es)
      (stand : All StandInList seats) (begin : All (λ s. IsPrefix s.pass.entries es) seats) where
    few : AllByRecursion (MadeFew es) seats
    few = recursion_from_All (MadeFew es) seats (λ k d lt. made_few es (get_or seats k d) (begin k d lt) (stand k d lt))

    exactly : AllByRecursion (MadeAll es) seats × AllByRecursion (λ e. IsOneOf seats e.seat) es
    exactly = exact seats es (apart seats distinct) few as_many

    pub by_seats : All (λ growth. HasId growth.seat seats) es
    by_seats k d lt = has-id seats (get_or es k d).seat (All-from_recursion (λ (e : Growth R). IsOneOf seats e.seat) es exactly.1 k d lt)

    pub made_once : All (λ seat. own_of seat.id es ≡ seat.made) seats
    made_once k d lt = made_all es (get_or seats k d) (begin k d lt) (stand k d lt) (All-from_recursion (MadeAll es) seats exactly.0 k d lt)

  module _ {D : Type 0} (live : Phase R) (seats : List (Seated R)) (f : FlusherOf R D) (may : MayGather live seats f)
      (stand : All StandInList seats) (begin : All (λ s. IsPrefix s.pass.entries f.pass.entries) seats) (chained : IsChained f.pass.entries) where
    pub whole : IsWhole live seats f
    whole = record {
      pen_whole = may.whole;
      all = may.all;
      settled = may.settled;
      longest = begin;
      chained = chained;
      by_seats = by_seats seats f.pass.entries may.all.distinct (may.all.add_up ∙ may.known) stand begin;
      made_once = made_once seats f.pass.entries may.all.distinct (may.all.add_up ∙ may.known) stand begin;
    }
