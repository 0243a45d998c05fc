-- A growth phase begins.
use Rattle.std.proofs.Common.{◌≡◌, ◌⊎◌, inl, inr, ℕ, zero, suc, ◌≤◌, ◌<◌, ◌==◌, ◌||◌, Bool, true, false, nat_lt, List, [], ◌∷◌, length, map, Some, None, refl, sym, ap, subst, ◌∙◌, arith, lt-ltb, slice_get, ne_eqb}
use Rattle.std.specs.Prelude.{replicate, sum}
use Rattle.std.proofs.lemmas.List.{append-nil, length-replicate}
use Rattle.std.proofs.lemmas.List.Sums.{sum_by-cons}
use Rattle.segment_core.specs.Written.{joined}
use Rattle.pen_core.specs.PenOf.{PenOf}
use Rattle.pen_core.specs.Refusals.{first_refusal, ready_lines}
use Rattle.pen_core.specs.declared.fault.PenFault.{PenFault}
use Rattle.pen_core.specs.declared.fault.PenFault.TheVariants as pen
use Rattle.directory_core.specs.Chain.{IsPrefix}
use Rattle.directory_core.specs.Limits.{growth_limit}
use Rattle.book_core.specs.Beginning.{AreNewSeats, MayBegin, seat_limit}
use Rattle.book_core.specs.Lists.{Phase, Seated}
use Rattle.flush_core.specs.Flusher.{FlusherOf}
use Rattle.vault_core.specs.declared.fault.VaultFault.{VaultFault}
use Rattle.vault_core.specs.declared.fault.VaultFault.TheVariants as vault
use Rattle.vault_core.specs.Vault.{VaultOf}
use Rattle.vault_core.specs.Sharing.{Shares, MayShare, IsShareFault, IsTooLarge}
use Rattle.drive_core.specs.declared.fault.StepFault.TheVariants.{Vault}
use Rattle.drive_core.specs.declared.phase.DrivePhase.TheVariants as hands
use Rattle.drive_core.specs.Line.{Line, Allows, When, Might, is_vault_memory}
use Rattle.drive_core.specs.Medium.{Medium}
use Rattle.drive_core.specs.Step.{Answer}
use Rattle.drive_core.specs.Step as step
use Rattle.drive_core.specs.World.{World, GrowthPhase, Hand, hand_of, as_pen}
use Rattle.drive_core.specs.World as worlds
use Rattle.drive_core.specs.GrowthRows.{within}
use Rattle.drive_core.specs.ExclusiveRows.{share_lines, is_outside_limits, first_growth}
use Rattle.drive_core.specs.Ties.{GrowingOf, IsGrowing, growths_in_hand, disk_of}
use Rattle.drive_core.specs.VaultTies.{IsExclusive}
use Rattle.drive_core.specs.Phases.{PhaseStep}
use Rattle.drive_core.proofs.PenFolds.{not_lt}
use Rattle.drive_core.proofs.PenTests.{all_false}
use Rattle.drive_core.proofs.PhaseEvents.{left_exclusive, left_growth, still_left}
use Rattle.drive_core.proofs.Quiet.{idle_job}
use Rattle.drive_core.proofs.Seated.{knows, makes, hears}
use Rattle.drive_core.proofs.Steps.{answered}
use Rattle.drive_core.proofs.Tables.{passes, stops, pen_passes, pen_stops}
use Rattle.drive_core.proofs.Ties.{behind_of}

-- where a log job may be begun no call has failed
ready_whole : {D : Type 0} (p : PenOf D) → first_refusal (ready_lines p) ≡ None → p.broken ≡ false
ready_whole p is = (all_false (ready_lines p) is).0

-- ---- a growth phase begins

none_sum : (n : ℕ) → sum (replicate n 0) ≡ 0
none_sum zero = refl
none_sum (suc n) = let more = sum_by-cons (λ x. x) 0 (replicate n 0) in let rest = none_sum n in omega (arith, more, rest)

zeros : {X : Type 0} (f : X → ℕ) (xs : List X) → ((k : ℕ) (x : X) → slice_get xs k ≡ Some x → f x ≡ 0) → replicate (length xs) 0 ≡ map f xs
zeros f [] each = refl
zeros f (x ∷ xs) each = λ i. sym (each 0 x refl) i ∷ zeros f xs (λ k y at. each (suc k) y at) i

-- ---- the limits

or_none : (a b : Bool) → a ≡ false → b ≡ false → (a || b) ≡ false
or_none true b p q = absurd cc
or_none false b p q = q

or_left : (a b : Bool) → a ≡ true → (a || b) ≡ true
or_left true b is = refl
or_left false b is = absurd cc

or_right : (a b : Bool) → b ≡ true → (a || b) ≡ true
or_right true b is = refl
or_right false b is = is

-- none, or more than the limit
abbrev is_outside : ℕ → ℕ → Bool
is_outside limit n = n == 0 || nat_lt limit n

is_inside : (limit n : ℕ) → 0 < n → n ≤ limit → is_outside limit n ≡ false
is_inside limit n some most = or_none (n == 0) (nat_lt limit n) (ne_eqb n 0 (λ none. absurd (omega (arith, some, none)))) (not_lt limit n most)

is_none : (limit n : ℕ) → n ≡ 0 → is_outside limit n ≡ true
is_none limit n none = or_left (n == 0) (nat_lt limit n) (ap (λ k. k == 0) none)

is_much : (limit n : ℕ) → limit < n → is_outside limit n ≡ true
is_much limit n much = or_right (n == 0) (nat_lt limit n) (lt-ltb limit n much)

module _ {R D : Type 0} {m : Medium R D} {w : World R} {v : VaultOf R D} (tie : IsExclusive m w v) (room : ℕ)
    {seats count : ℕ} (clamped : (count ≡ seats) ⊎ ((65535 ≤ seats) × (count ≡ 65535))) where
  ready_same : first_refusal (ready_lines (as_pen w.hand 0)) ≡ first_refusal (ready_lines v.pen)
  ready_same = ap (λ (h : Hand). first_refusal (ready_lines (as_pen h 0))) tie.hand_is

  as_many : MayBegin room count → count ≡ seats
  as_many may = elim clamped [ inl is ↦ is | inr cut ↦ absurd (let is = cut.1 in let le = may.seats_in.1 in omega (arith, is, le)) ]

  inside_limits : MayBegin room count → is_outside_limits room seats ≡ false
  inside_limits may =
      let same = as_many may in
      let some = may.seats_in.0 in
      let most = may.seats_in.1 in
      or_none (is_outside growth_limit room) (is_outside seat_limit seats) (is_inside growth_limit room may.room_in.0 may.room_in.1)
      (is_inside seat_limit seats (omega (arith, same, some)) (omega (arith, same, most)))

  outside_limits : IsTooLarge room count → is_outside_limits room seats ≡ true
  outside_limits why = elim why [
    | inl none ↦ or_left (is_outside growth_limit room) (is_outside seat_limit seats) (is_none growth_limit room none)
    | inr other ↦ elim other [
      | inl much ↦ or_left (is_outside growth_limit room) (is_outside seat_limit seats) (is_much growth_limit room much)
      | inr of_seats ↦ or_right (is_outside growth_limit room) (is_outside seat_limit seats) (elim of_seats [
        | inl none ↦ is_none seat_limit seats (elim clamped [ inl is ↦ sym is ∙ none | inr cut ↦ absurd (let is = cut.1 in omega (arith, is, none)) ])
        | inr many ↦ is_much seat_limit seats (elim clamped [ inl is ↦ omega (arith, is, many) | inr cut ↦ let le = cut.0 in omega (arith, le) ])
      ])
    ]
  ]

  -- ---- begun

  module _ (row : List (Seated R)) {live : Phase R} {f : FlusherOf R D} (shares : Shares (m.keeps v.pen.disk) v room count live f)
      (long : length row ≡ count) (new : AreNewSeats live.directory live.mark row) (may : MayShare v room count) where
    abbrev begun_hand : GrowingOf R D
    begun_hand = record { live = live; seats = row; flusher = f; puts = 0; last = 0; mark = 0; closed = false }

    all_zero : (count_of : Seated R → ℕ) → ((k : ℕ) (s : Seated R) → slice_get row k ≡ Some s → count_of s ≡ 0) → replicate seats 0 ≡ map count_of row
    all_zero count_of each = ap (λ n. replicate n 0) (sym (long ∙ as_many may.bounds)) ∙ zeros count_of row each

    begun_tie : IsGrowing m (within w (first_growth w room seats)) (first_growth w room seats) begun_hand
    begun_tie = record {
      phase_is = refl;
      calm = tie.calm;
      entries = [];
      growths = record {
        first = w.history;
        history_is = sym (append-nil w.history);
        before_is = refl;
        opening_is = tie.list_is ∙ ap joined (sym shares.blocks);
      };
      puts_is = refl;
      room_is = shares.room_is;
      closed_is = refl;
      mark_is = refl;
      seats = record {
        known_are = all_zero knows (λ k s at. ap length (new k s at).knows);
        made_are = all_zero makes (λ k s at. ap length (new k s at).made);
        told_are = all_zero hears (λ k s at. ap (λ (m : _). m.told.count) (new k s at).marked);
        seats_are = length-replicate seats 0 ∙ sym (as_many may.bounds) ∙ sym shares.seats_are;
        made_sum = none_sum seats;
        each = λ k s at. record { id_is = (new k s at).id_is; knows = subst (λ es. IsPrefix es []) (sym (new k s at).knows) refl };
        last_knows = λ some. absurd (omega (arith, some));
      };
      flusher = record {
        knows = subst (λ es. IsPrefix es []) (sym shares.knows) refl;
        known_is = sym (ap length shares.knows);
        taken_is = sym shares.counts.0;
        taken_within = omega arith;
        job_brings = (
            let taken = shares.counts.0 in
            let settled = shares.counts.1 in
            let none : growths_in_hand f.pen.job ≡ 0 = ap (λ (p : PenOf D). growths_in_hand p.job) shares.pen ∙ ap growths_in_hand (idle_job v.pen may.ready) in
            omega (arith, taken, settled, none));
        settled_is = (let all = tie.whole (ready_whole v.pen may.ready) in let settled = shares.counts.1 in omega (arith, all, settled));
      };
      hand_is = tie.hand_is ∙ ap hand_of (sym shares.pen);
      disk_is = tie.disk_is ∙ ap (λ (p : PenOf D). disk_of m.states m.faults p.disk) (sym shares.pen);
    }

    begun : PhaseStep m w v.pen.disk (hands.Growth begun_hand) (step.Share room seats) step.Fine
    begun = still_left worlds.Exclusive (within w (first_growth w room seats)) tie.calm tie.phase_is
        (inl (pen_passes (ready_lines (as_pen w.hand 0)) _ None (ready_same ∙ may.ready) (passes (is_outside_limits room seats) _ _ None (inside_limits may.bounds) (inr refl)), (refl, refl)))
        refl refl (ap (λ (p : PenOf D). p.disk) shares.pen) tie.calm (left_growth (behind_of begun_tie))

    pub share_answers : {g : GrowingOf R D} {answer : Answer R} → g ≡ begun_hand → answer ≡ step.Fine → PhaseStep m w v.pen.disk (hands.Growth g) (step.Share room seats) answer
    share_answers is told = answered told (subst (λ (g : GrowingOf R D). PhaseStep m w v.pen.disk (hands.Growth g) (step.Share room seats) step.Fine) (sym is) begun)

  -- ---- refused

  abbrev limit_lines : List Line
  limit_lines = When (is_outside_limits room seats) (Vault (vault.Pen pen.TooLarge)) ∷ Might is_vault_memory ∷ []

  share_table : (fault : PenFault) → IsShareFault v room count (vault.Pen fault) → Allows (share_lines w.hand room seats) (Some (Vault (vault.Pen fault)))
  share_table fault why = elim why [
    | inl ready ↦ pen_stops (ready_lines (as_pen w.hand 0)) _ fault (ready_same ∙ ready)
    | inr other ↦ pen_passes (ready_lines (as_pen w.hand 0)) _ (Some (Vault (vault.Pen fault))) (ready_same ∙ other.0) (elim other.1 [
      | inl large ↦ subst (λ x. Allows limit_lines (Some (Vault (vault.Pen x)))) (sym large.0) (stops (is_outside_limits room seats) _ _ (outside_limits large.1))
      | inr memory ↦ subst (λ x. Allows limit_lines (Some (Vault (vault.Pen x)))) (sym memory.0)
          (passes (is_outside_limits room seats) _ _ (Some (Vault (vault.Pen pen.Memory))) (inside_limits memory.1) (inl (Vault (vault.Pen pen.Memory), refl, refl)))
    ])
  ]

  pub share_refuses : {new : VaultOf R D} {answer : Answer R} (fault : VaultFault) → new ≡ v → answer ≡ step.Refused (Vault fault) → IsShareFault v room count fault
      → PhaseStep m w v.pen.disk (hands.Exclusive new) (step.Share room seats) answer
  share_refuses (vault.Unsettled number) same is why = absurd why
  share_refuses vault.WrongPhase same is why = absurd why
  share_refuses (vault.Pen fault) same is why = answered is (still_left worlds.Exclusive w tie.calm tie.phase_is (inr (Vault (vault.Pen fault), share_table fault why, refl, refl))
      refl refl (ap (λ (x : VaultOf R D). x.pen.disk) same) tie.calm (left_exclusive (subst (IsExclusive m w) (sym same) tie)))
