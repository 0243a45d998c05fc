-- What a seat finds.
use Rattle.std.proofs.Common.{◌≡◌, ◌⊎◌, inl, inr, ℕ, ◌≤◌, ◌<◌, List, length, Some, refl, sym, ap, subst, ◌∙◌, arith, slice_get, slice_set}
use Rattle.std.proofs.lemmas.Option.{same_Some}
use Rattle.directory_core.specs.Chain.{IsPrefix}
use Rattle.book_core.specs.Lists.{Seated}
use Rattle.book_core.specs.Growing.{SeatLearns, size_of}
use Rattle.book_core.specs.declared.fault.GrowFault.TheVariants as grow
use Rattle.drive_core.specs.declared.fault.StepFault.TheVariants as told
use Rattle.drive_core.specs.Medium.{Medium}
use Rattle.drive_core.specs.Step.{Answer}
use Rattle.drive_core.specs.Step as step
use Rattle.drive_core.specs.World.{World, GrowthPhase}
use Rattle.drive_core.specs.Outcome.{struck}
use Rattle.drive_core.specs.GrowthRows.{within, IsLook}
use Rattle.drive_core.specs.Ties.{GrowingOf, IsGrowing, AreSeated, MeetsIn}
use Rattle.drive_core.specs.GrowthTies.{GrowthStep}
use Rattle.drive_core.proofs.Looked.{agree-begins, same-front, none-or}
use Rattle.drive_core.proofs.Quiet.{quiet_steps, seat_row}
use Rattle.drive_core.proofs.Seated.{counts_set, counts_kept, knows, hears, known_at, replaced}
use Rattle.drive_core.proofs.Seats.{same_or_not, get_set_same, get_set_other, begins-le, length_set, there_is}
use Rattle.drive_core.proofs.Steps.{answered}
use Rattle.drive_core.proofs.Ties.{growths_count, known_long, other_seats, behind_of, strayed_behind}

module _ {R D : Type 0} {m : Medium R D} {w : World R} {phase : GrowthPhase} {g : GrowingOf R D} (tie : IsGrowing m w phase g)
    {k : ℕ} {m0 : Seated R} (inside : k < length g.seats) (at0 : slice_get g.seats k ≡ Some m0) (row : List (Seated R)) where
  pub seat_strays : {answer : Answer R} (n : ℕ) → answer ≡ step.Refused (told.Grow (grow.Strayed n)) → GrowthStep m w (record g { seats = row }) (step.Look (Some k)) answer 0
  seat_strays n is =
      let refused : Answer R = step.Refused (told.Grow (grow.Strayed n)) in
      let w' : World R = struck w (told.Grow (grow.Strayed n)) in
      answered is (quiet_steps tie w' (seat_row tie inside w' refused (IsLook w phase (Some k) refused w')
      (inr (told.Grow (grow.Strayed n), inl (told.Grow (grow.Strayed n), refl, refl), refl, refl))) refl refl refl (strayed_behind tie w' n refl refl refl))

  module _ (m1 t : Seated R) (learns : SeatLearns m0 m1) (few : length m1.pass.entries ≤ g.puts)
      (at_t : slice_get (slice_set g.seats k m1) g.last ≡ Some t) (met : MeetsIn (slice_set g.seats k m1) row g.last t m1) where
    within_all : length m1.pass.entries ≤ length tie.entries
    within_all = let puts = tie.puts_is in omega (arith, few, puts)

    -- the last one is this seat, or another as it was
    same_seat : g.last ≡ k → t ≡ m1
    same_seat same = same_Some t m1 (sym at_t ∙ ap (slice_get (slice_set g.seats k m1)) same ∙ get_set_same g.seats k m0 m1 at0)

    other_seat : (g.last ≡ k → ⊥) → slice_get g.seats g.last ≡ Some t
    other_seat other = sym (get_set_other g.seats k g.last m1 other) ∙ at_t

    -- who knew all is this seat or another
    knew : 0 < length tie.entries → ((m1.pass.entries ≡ tie.entries) × (t ≡ m1)) ⊎ (t.pass.entries ≡ tie.entries)
    knew some = let last = tie.seats.last_knows some in elim (same_or_not g.last k) [
      | inl same ↦
          let all : m0.pass.entries ≡ tie.entries = ap (λ (s : Seated R). s.pass.entries) (same_Some m0 last.0 (sym at0 ∙ ap (slice_get g.seats) (sym same) ∙ last.1)) ∙ last.2 in
          inl (same-front tie.entries m1.pass.entries (subst (λ xs. IsPrefix xs m1.pass.entries) all learns.begins) within_all, same_seat same)
      | inr other ↦ inr (ap (λ (s : Seated R). s.pass.entries) (same_Some t last.0 (sym (other_seat other) ∙ last.1)) ∙ last.2)
    ]

    found : IsPrefix m1.pass.entries tie.entries
    found = agree-begins m1.pass.entries tie.entries within_all (λ n less. elim (none-or tie.entries) [
      | inl none ↦ absurd (omega (arith, none, less, within_all))
      | inr some ↦ elim (knew some) [
        | inl mine ↦ ap (λ xs. slice_get xs n) mine.0
        | inr theirs ↦ let long = ap length theirs in sym (met.agree n (omega (arith, long, less, within_all)) less) ∙ ap (λ xs. slice_get xs n) theirs
      ]
    ])

    t_begins : IsPrefix t.pass.entries tie.entries
    t_begins = elim (same_or_not g.last k) [
      | inl same ↦ subst (λ (s : Seated R). IsPrefix s.pass.entries tie.entries) (sym (same_seat same)) found
      | inr other ↦ (tie.seats.each g.last t (other_seat other)).knows
    ]

    met_same : met.met.pass.entries ≡ t.pass.entries
    met_same = elim met.meets.is_one [
      | inl mine ↦ mine
      | inr theirs ↦ let same = ap length theirs in elim (none-or tie.entries) [
        | inl none ↦ same-front t.pass.entries met.met.pass.entries met.meets.begins_mine (omega (arith, same, none, within_all))
        | inr some ↦ elim (knew some) [
          | inl mine ↦ theirs ∙ ap (λ (s : Seated R). s.pass.entries) (sym mine.1)
          | inr all ↦ let long = ap length all in same-front t.pass.entries met.met.pass.entries met.meets.begins_mine (omega (arith, long, same, within_all))
        ]
      ]
    ]

    -- the seat has learnt, and then the last one has met it
    learnt_row : AreSeated (slice_set phase.known k (length m1.pass.entries)) phase.made phase.told (slice_set g.seats k m1) g.live.seat_count g.last tie.entries
    learnt_row = replaced tie.seats k at0 m1 refl (counts_set knows g.seats tie.seats.known_are k m1 refl)
        (counts_kept hears g.seats tie.seats.told_are k m1 at0 (ap (λ (m : _). m.told.count) learns.mark))
        (ap length learns.made) (record { id_is = learns.id ∙ (tie.seats.each k m0 at0).id_is; knows = found })
        (λ all. same-front tie.entries m1.pass.entries (subst (λ xs. IsPrefix xs m1.pass.entries) all learns.begins) within_all)

    met_row : AreSeated (slice_set phase.known k (length m1.pass.entries)) phase.made phase.told row g.live.seat_count g.last tie.entries
    met_row = replaced learnt_row g.last at_t met.met met.row_is (counts_kept knows (slice_set g.seats k m1) learnt_row.known_are g.last met.met at_t (ap length met_same))
        (counts_kept hears (slice_set g.seats k m1) learnt_row.told_are g.last met.met at_t (ap (λ (m : _). m.told.count) met.learns.mark)) (ap length met.learns.made)
        (record { id_is = met.learns.id ∙ (learnt_row.each g.last t at_t).id_is; knows = subst (λ xs. IsPrefix xs tie.entries) (sym met_same) t_begins })
        (λ all. met_same ∙ all)

    abbrev found_phase : GrowthPhase
    found_phase = record phase { known = slice_set phase.known k (length m1.pass.entries) }

    look_tie : IsGrowing m (within w found_phase) found_phase (record g { seats = row })
    look_tie = other_seats tie (slice_set phase.known k (length m1.pass.entries)) phase.told met_row

    pub seat_answers : {answer : Answer R} (size : ℕ) → answer ≡ step.Size size → size ≡ size_of g.live m1 → GrowthStep m w (record g { seats = row }) (step.Look (Some k)) answer 0
    seat_answers size is sized =
        let n : ℕ = length m1.pass.entries in
        let longer = begins-le m0.pass.entries m1.pass.entries learns.begins in
        let was = known_at tie.seats k at0 in
        let count = growths_count tie in
        let w' : World R = within w found_phase in
        answered is (quiet_steps tie w' (seat_row tie inside w' (step.Size size) (IsLook w phase (Some k) (step.Size size) w')
        (inl (inr refl, (n, (omega (arith, longer, was), omega (arith, count, within_all)), ap step.Size (sized ∙ sym (known_long tie m1.pass.entries found)), refl))))
        refl refl tie.calm (behind_of look_tie))

-- the row keeps its length
pub look_inside : {R : Type 0} (seats row : List (Seated R)) (k last : ℕ) (m0 m1 : Seated R) → k < length seats → slice_get seats k ≡ Some m0 → last < length seats
    → ((m t : Seated R) → slice_get (slice_set seats k m1) last ≡ Some m → slice_get (slice_set seats k m1) k ≡ Some t → MeetsIn (slice_set seats k m1) row last m t) → last < length row
look_inside seats row k last m0 m1 less at0 last_inside meets =
    let long = length_set seats k m1 in
    let t = there_is (slice_set seats k m1) last (omega (arith, long, last_inside)) in
    let met = meets t.0 m1 t.1 (get_set_same seats k m0 m1 at0) in
    let all = ap length met.row_is ∙ length_set (slice_set seats k m1) last met.met in
    omega (arith, all, long, last_inside)
