-- A growth phase ends.
use Rattle.std.proofs.Common.{◌≡◌, ◌⊎◌, inl, inr, ℕ, zero, suc, ◌-◌, ◌≤◌, ◌<◌, false, nat_lt, List, [], ◌∷◌, ◌++◌, length, map, take, Option, Some, None, refl, sym, ap, subst, ◌∙◌, arith, lt-ltb, slice_get}
use Rattle.std.specs.Prelude.{sum, All, max}
use Rattle.std.proofs.lemmas.List.{length-map}
use Rattle.std.proofs.lemmas.List.Sums.{sum_by-cons}
use Rattle.std.proofs.lemmas.Option.{slice_get-get_or, get_or_from_slice_get, slice_get_within, same_Some}
use Rattle.std.proofs.Math.Seq.{take-length}
use Rattle.segment_core.specs.Command.{content}
use Rattle.pen_core.specs.PenOf.{PenOf}
use Rattle.pen_core.specs.declared.fault.PenFault.TheVariants as pen
use Rattle.directory_core.specs.Chain as chains
use Rattle.directory_core.specs.Chain.{IsPrefix}
use Rattle.book_core.specs.Lists.{Seated, opening_of}
use Rattle.vault_core.specs.declared.fault.VaultFault.{VaultFault}
use Rattle.vault_core.specs.declared.fault.VaultFault.TheVariants as vault
use Rattle.vault_core.specs.Vault.{VaultOf, list_of}
use Rattle.vault_core.specs.Gathering.{IsWhole, IsGatherFault, AreAll, AreDistinct, made_by, most_known}
use Rattle.drive_core.specs.declared.fault.StepFault.{StepFault}
use Rattle.drive_core.specs.declared.fault.StepFault.TheVariants.{Vault}
use Rattle.drive_core.specs.declared.phase.DrivePhase.TheVariants as hands
use Rattle.drive_core.specs.Line.{Allows, When, Might, is_vault_memory}
use Rattle.drive_core.specs.Medium.{Medium}
use Rattle.drive_core.specs.Step.{Answer}
use Rattle.drive_core.specs.Step as step
use Rattle.drive_core.specs.World.{World, GrowthPhase, Hand, hand_of, vector}
use Rattle.drive_core.specs.World as worlds
use Rattle.drive_core.specs.Ties.{GrowingOf, IsGrowing, IsBehindStep, growths_in_hand, disk_of}
use Rattle.drive_core.specs.VaultTies.{IsExclusive}
use Rattle.drive_core.specs.Phases.{PhaseStep}
use Rattle.drive_core.proofs.Looked.{same-front}
use Rattle.drive_core.proofs.PenFolds.{not_lt}
use Rattle.drive_core.proofs.PhaseEvents.{left_exclusive, left_growth, still_left}
use Rattle.drive_core.proofs.Seats.{begins-le}
use Rattle.drive_core.proofs.Steps.{answered}
use Rattle.drive_core.proofs.Tables.{passes, stops}
use Rattle.drive_core.proofs.Ties.{vector_is, history_long, behind_of}

all_most : {R : Type 0} (seats : List (Seated R)) (n : ℕ) → ((k : ℕ) (s : Seated R) → slice_get seats k ≡ Some s → length s.pass.entries ≤ n) → most_known seats n ≡ n
all_most [] n each = refl
all_most (s ∷ seats) n each = ap (most_known seats) (max_is n (length s.pass.entries) (each 0 s refl)) ∙ all_most seats n (λ k t at. each (suc k) t at)
  where
    max_is : (a b : ℕ) → b ≤ a → max a b ≡ a
    max_is a b le = omega (arith, le)

most_at : {R : Type 0} (seats : List (Seated R)) (n m : ℕ) (k : ℕ) (s : Seated R) → slice_get seats k ≡ Some s → length s.pass.entries ≡ m → n ≤ m
    → ((k : ℕ) (s : Seated R) → slice_get seats k ≡ Some s → length s.pass.entries ≤ m) → most_known seats n ≡ m
most_at [] n m k s at is le each = absurd cc
most_at (s ∷ seats) n m zero t at is le each =
    let here : length s.pass.entries ≡ m = ap (λ (x : Seated _). length x.pass.entries) (same_Some s t at) ∙ is in
    ap (most_known seats) (max_to n (length s.pass.entries) m here le) ∙ all_most seats m (λ k x there. each (suc k) x there)
  where
    max_to : (a b c : ℕ) → b ≡ c → a ≤ c → max a b ≡ c
    max_to a b c is le = omega (arith, is, le)
most_at (s ∷ seats) n m (suc k) t at is le each =
    most_at seats (max n (length s.pass.entries)) m k t at is (max_le n (length s.pass.entries) m le (each 0 s refl)) (λ k x there. each (suc k) x there)
  where
    max_le : (a b c : ℕ) → a ≤ c → b ≤ c → max a b ≤ c
    max_le a b c p q = omega (arith, p, q)

made_is : {R : Type 0} (seats : List (Seated R)) → made_by seats ≡ sum (map (λ (s : Seated R). length s.made) seats)
made_is [] = refl
made_is (s ∷ seats) =
    let one = sum_by-cons (λ (x : Seated _). length x.made) s seats in
    let all = sum_by-cons (λ x. x) (length s.made) (map (λ (x : Seated _). length x.made) seats) in
    let rest = made_is seats in
    omega (arith, one, all, rest)

module _ {R D : Type 0} {m : Medium R D} {w : World R} {phase : GrowthPhase} {g : GrowingOf R D} (tie : IsGrowing m w phase g) where
  each_le : (k : ℕ) (s : Seated R) → slice_get g.seats k ≡ Some s → length s.pass.entries ≤ length tie.entries
  each_le k s at = begins-le s.pass.entries tie.entries (tie.seats.each k s at).knows

  few : length g.flusher.pass.entries ≤ length tie.entries
  few = begins-le g.flusher.pass.entries tie.entries tie.flusher.knows

  -- all growths are known
  all_there : most_known g.seats (length g.flusher.pass.entries) ≡ length tie.entries
  all_there = elim (none_or_some (length tie.entries)) [
    | inl none ↦
        let zero_known : length g.flusher.pass.entries ≡ length tie.entries = omega (arith, few, none) in
        all_most g.seats (length g.flusher.pass.entries) (λ k s at. let le = each_le k s at in omega (arith, le, none)) ∙ zero_known
    | inr some ↦
        let last = tie.seats.last_knows some in
        most_at g.seats (length g.flusher.pass.entries) (length tie.entries) g.last last.0 last.1 (ap length last.2) few each_le
  ]
    where
      none_or_some : (n : ℕ) → (n ≡ 0) ⊎ (0 < n)
      none_or_some zero = inl refl
      none_or_some (suc n) = inr (omega arith)

  are_all : AreAll g.live g.seats g.flusher
  are_all = record {
    as_many = sym (length-map g.seats (λ (s : Seated R). length s.made)) ∙ ap length (sym tie.seats.made_are) ∙ tie.seats.seats_are;
    distinct = distinct;
    add_up = made_is g.seats ∙ ap sum (sym tie.seats.made_are) ∙ tie.seats.made_sum ∙ sym all_there;
  }
    where
      distinct : AreDistinct g.seats
      distinct = λ i j d less inside same. absurd (
          let first = (tie.seats.each i _ (slice_get-get_or g.seats i d (omega (arith, less, inside)))).id_is in
          let second = (tie.seats.each j _ (slice_get-get_or g.seats j d inside)).id_is in
          omega (arith, less, first, second, same))

  abbrev gather_lines : Option StepFault → Type 0
  gather_lines answer = Allows (
      When w.hand.broken (Vault (vault.Pen pen.Broken))
      ∷ When (nat_lt w.settled (length w.history)) (Vault (vault.Unsettled (w.settled - phase.before)))
      ∷ Might is_vault_memory
      ∷ []) answer

  whole_hand : g.flusher.pen.broken ≡ false → w.hand.broken ≡ false
  whole_hand whole = ap (λ (h : Hand). h.broken) tie.hand_is ∙ whole

  -- ---- ended

  module _ (v : VaultOf R D) (pen_is : v.pen ≡ g.flusher.pen) (list : list_of v ≡ opening_of g.live ++ chains.grown_records g.flusher.pass.entries) (whole : IsWhole g.live g.seats g.flusher)
      (sure : m.keeps v.pen.disk → v.pen.broken ≡ false → v.sure ≡ list_of v) where
    at_all : (P : Seated R → Type 0) (seats : List (Seated R)) (k : ℕ) (s : Seated R) → slice_get seats k ≡ Some s → All P seats → P s
    at_all P seats k s at all = subst P (get_or_from_slice_get seats k s s at) (all k s (slice_get_within seats k s at))

    all_known : length g.flusher.pass.entries ≡ length tie.entries
    all_known = sym (all_most g.seats (length g.flusher.pass.entries) (λ k s at.
        begins-le s.pass.entries g.flusher.pass.entries (at_all (λ (s : Seated R). IsPrefix s.pass.entries g.flusher.pass.entries) g.seats k s at whole.longest))) ∙ all_there

    same_list : vector w ≡ list_of v
    same_list =
        let known = all_known in
        let same = same-front g.flusher.pass.entries tie.entries tie.flusher.knows (omega (arith, known)) in
        vector_is tie ∙ ap (λ es. opening_of g.live ++ chains.grown_records es) same ∙ sym list

    all_settled : w.settled ≡ length w.history
    all_settled =
        let settled = tie.flusher.settled_is in
        let known = all_known in
        let same = whole.settled in
        let long = history_long tie in
        omega (arith, settled, known, same, long)

    ended_tie : IsExclusive m (record w { phase = worlds.Exclusive }) v
    ended_tie = record {
      phase_is = refl;
      calm = tie.calm;
      list_is = same_list;
      sure_is = λ kept. ap (λ n. content w.base (take n w.history)) all_settled ∙ ap (content w.base) (take-length w.history) ∙ same_list
          ∙ sym (sure kept (ap (λ (p : PenOf D). p.broken) pen_is ∙ whole.pen_whole));
      settled_within = (let all = all_settled in omega (arith, all));
      whole = λ on. all_settled;
      brings_none = λ on. (
          let brings = tie.flusher.job_brings in
          let taken = tie.flusher.taken_is in
          let most = tie.flusher.taken_within in
          let known = all_known in
          let same = whole.settled in
          let job : growths_in_hand v.pen.job ≡ growths_in_hand g.flusher.pen.job = ap (λ (p : PenOf D). growths_in_hand p.job) pen_is in
          omega (arith, brings, taken, most, known, same, job));
      hand_is = tie.hand_is ∙ ap hand_of (sym pen_is);
      disk_is = tie.disk_is ∙ ap (λ (p : PenOf D). disk_of m.states m.faults p.disk) (sym pen_is);
    }

    pub gather_answers : {answer : Answer R} (size : ℕ) → answer ≡ step.Size size → size ≡ length (list_of v) → PhaseStep m w g.flusher.pen.disk (hands.Exclusive v) step.Gather answer
    gather_answers size is long =
        let settled = not_lt w.settled (length w.history) (let all = all_settled in omega (arith, all)) in
        answered is (still_left (worlds.Growing phase) (record w { phase = worlds.Exclusive }) tie.calm tie.phase_is
        (inl (
          passes w.hand.broken _ _ None (whole_hand whole.pen_whole) (passes (nat_lt w.settled (length w.history)) _ _ None settled (inr refl)),
          (ap step.Size (long ∙ sym (ap length same_list)), refl),
        ))
        refl refl (ap (λ (p : PenOf D). p.disk) pen_is) tie.calm (left_exclusive ended_tie))

  -- ---- refused

  gather_table : (fault : VaultFault) → IsGatherFault g.live g.seats g.flusher fault → gather_lines (Some (Vault fault))
  gather_table (vault.Pen pen.Broken) why = stops w.hand.broken _ _ (ap (λ (h : Hand). h.broken) tie.hand_is ∙ why)
  gather_table (vault.Pen pen.Busy) why = absurd why
  gather_table (vault.Pen pen.OldFormat) why = absurd why
  gather_table (vault.Pen pen.Runs) why = absurd why
  gather_table (vault.Pen pen.OutOfRange) why = absurd why
  gather_table (vault.Pen pen.TooLarge) why = absurd why
  gather_table (vault.Pen pen.Unfolded) why = absurd why
  gather_table (vault.Pen pen.FileFull) why = absurd why
  gather_table (vault.Pen pen.Exists) why = absurd why
  gather_table (vault.Pen (pen.Disk cause)) why = absurd why
  gather_table (vault.Pen pen.Memory) why =
      let settled = tie.flusher.settled_is in
      let known = why.known in
      let all = all_there in
      let same = why.settled in
      let long = history_long tie in
      passes w.hand.broken _ _ (Some (Vault (vault.Pen pen.Memory))) (whole_hand why.whole)
      (passes (nat_lt w.settled (length w.history)) _ _ (Some (Vault (vault.Pen pen.Memory))) (not_lt w.settled (length w.history) (omega (arith, settled, known, all, same, long)))
      (inl (Vault (vault.Pen pen.Memory), refl, refl)))
  gather_table (vault.Unsettled number) why =
      let settled = tie.flusher.settled_is in
      let is = why.2 in
      let less = why.3 in
      let all = all_there in
      let long = history_long tie in
      let number_is : number ≡ w.settled - phase.before = omega (arith, settled, is) in
      subst (λ n. gather_lines (Some (Vault (vault.Unsettled n)))) (sym number_is)
      (passes w.hand.broken _ _ (Some (Vault (vault.Unsettled (w.settled - phase.before)))) (whole_hand why.0)
      (stops (nat_lt w.settled (length w.history)) _ _ (lt-ltb w.settled (length w.history) (omega (arith, settled, is, less, all, long)))))
  gather_table vault.WrongPhase why = absurd (why.1 are_all)

  pub gather_refuses : {new : GrowingOf R D} {answer : Answer R} (fault : VaultFault) → new ≡ g → answer ≡ step.Refused (Vault fault) → IsGatherFault g.live g.seats g.flusher fault
      → PhaseStep m w g.flusher.pen.disk (hands.Growth new) step.Gather answer
  gather_refuses fault same is why = answered is (still_left (worlds.Growing phase) w tie.calm tie.phase_is (inr (Vault fault, gather_table fault why, refl, refl))
      refl refl (ap (λ (x : GrowingOf R D). x.flusher.pen.disk) same) tie.calm (left_growth (subst (IsBehindStep m w) (sym same) (behind_of tie))))
