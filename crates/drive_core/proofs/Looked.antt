-- What a flusher finds.
use Rattle.std.proofs.Common.{◌≡◌, ◌⊎◌, inl, inr, ℕ, suc, ◌+◌, ◌≤◌, ◌<◌, List, [], ◌∷◌, length, take, Some, None, refl, sym, ap, subst, ◌∙◌, arith, slice_get, slice_set}
use Rattle.std.proofs.lemmas.List.{take_all}
use Rattle.std.proofs.lemmas.Option.{same_Some}
use Rattle.pen_core.specs.PenOf.{PenOf}
use Rattle.directory_core.specs.Chain.{IsPrefix, Agree, IsLongerOf, total}
use Rattle.book_core.specs.Lists.{Seated, opening_of}
use Rattle.book_core.specs.Growing as growing
use Rattle.book_core.specs.declared.fault.GrowFault.TheVariants as grow
use Rattle.flush_core.specs.Flusher.{FlusherOf, FlusherLearns, IsFlusherOf}
use Rattle.book_core.specs.Lists as book
use Rattle.drive_core.specs.declared.fault.StepFault.TheVariants as told
use Rattle.drive_core.specs.Medium.{Medium}
use Rattle.drive_core.specs.Step.{Answer}
use Rattle.drive_core.specs.Step as step
use Rattle.drive_core.specs.World.{World, GrowthPhase, Growing, hand_of}
use Rattle.drive_core.specs.Outcome.{struck}
use Rattle.drive_core.specs.GrowthRows.{within}
use Rattle.drive_core.specs.Ties.{GrowingOf, IsGrowing, AreSeated, IsFlushing, growths_in_hand, disk_of}
use Rattle.drive_core.specs.GrowthTies.{GrowthStep}
use Rattle.drive_core.proofs.Quiet.{quiet_steps}
use Rattle.drive_core.proofs.Seated.{counts_kept, knows, hears, replaced}
use Rattle.drive_core.proofs.Seats.{begins-le}
use Rattle.drive_core.proofs.Steps.{answered}
use Rattle.drive_core.proofs.Ties.{growths_count, known_long, other_seats, other_flusher, behind_of, strayed_behind}

module _ {X : Type 0} where
  -- a list that agrees with a longer one begins it
  pub agree-begins : (xs ys : List X) → length xs ≤ length ys → ((g : ℕ) → g < length xs → slice_get xs g ≡ slice_get ys g) → take (length xs) ys ≡ xs
  agree-begins [] ys le each = refl
  agree-begins (x ∷ xs) [] le each = absurd (omega (arith, le))
  agree-begins (x ∷ xs) (y ∷ ys) le each =
      let first = same_Some x y (each 0 (omega arith)) in
      let rest = agree-begins xs ys (omega (arith, le)) (λ g less. each (suc g) (omega (arith, less))) in
      ap (λ z. z ∷ take (length xs) ys) (sym first) ∙ ap (λ zs. x ∷ zs) rest

  pub same-front : (xs ys : List X) → IsPrefix xs ys → length ys ≤ length xs → ys ≡ xs
  same-front xs ys begins le = sym (take_all (length xs) ys le) ∙ begins

  pub none-or : (xs : List X) → (length xs ≡ 0) ⊎ (0 < length xs)
  none-or [] = inl refl
  none-or (x ∷ xs) = inr (omega arith)

module _ {R D : Type 0} {m : Medium R D} {w : World R} {phase : GrowthPhase} {g : GrowingOf R D} (tie : IsGrowing m w phase g) (new : FlusherOf R D) (row : List (Seated R)) where
  -- something that no step made
  pub look_strays : {answer : Answer R} (n : ℕ) → answer ≡ step.Refused (told.Grow (grow.Strayed n)) → new.pen ≡ g.flusher.pen
      → GrowthStep m w (record g { flusher = new; seats = row }) (step.Look None) answer 0
  look_strays n is pen =
      let w' : World R = struck w (told.Grow (grow.Strayed n)) in
      answered is (quiet_steps tie w' (inr (told.Grow (grow.Strayed n), inl (told.Grow (grow.Strayed n), refl, refl), refl, refl)) refl refl refl
      (strayed_behind tie w' n (ap (λ (p : PenOf D). p.disk) pen) refl refl))

  module _ {t t' : Seated R} (at : slice_get g.seats g.last ≡ Some t) (row_is : row ≡ slice_set g.seats g.last t')
      (learns : FlusherLearns g.flusher new) (few : length new.pass.entries ≤ g.puts) (learnt : growing.SeatLearns t t')
      (agree : Agree t.pass.entries new.pass.entries) (meets : IsLongerOf t.pass.entries new.pass.entries t'.pass.entries) where
    within_all : length new.pass.entries ≤ length tie.entries
    within_all = let puts = tie.puts_is in omega (arith, few, puts)

    -- the seat that put the last growth knows all
    knew : 0 < length tie.entries → t.pass.entries ≡ tie.entries
    knew some = let last = tie.seats.last_knows some in ap (λ (s : Seated R). s.pass.entries) (same_Some t last.0 (sym at ∙ last.1)) ∙ last.2

    found : IsPrefix new.pass.entries tie.entries
    found = agree-begins new.pass.entries tie.entries within_all (λ n less. elim (none-or tie.entries) [
      | inl none ↦ absurd (omega (arith, none, less, within_all))
      | inr some ↦ let long = ap length (knew some) in sym (agree n (omega (arith, long, less, within_all)) less) ∙ ap (λ xs. slice_get xs n) (knew some)
    ])

    t_same : t'.pass.entries ≡ t.pass.entries
    t_same = elim meets.is_one [
      | inl mine ↦ mine
      | inr theirs ↦ same-front t.pass.entries t'.pass.entries meets.begins_mine (let all = ap length theirs in elim (none-or tie.entries) [
        | inl none ↦ omega (arith, all, none, within_all)
        | inr some ↦ let long = ap length (knew some) in omega (arith, all, long, within_all)
      ])
    ]

    abbrev found_phase : GrowthPhase
    found_phase = record phase { flusher = length new.pass.entries }

    met_row : AreSeated phase.known phase.made phase.told row g.live.seat_count g.last tie.entries
    met_row = replaced tie.seats g.last at t' row_is
        (counts_kept knows g.seats tie.seats.known_are g.last t' at (ap length t_same))
        (counts_kept hears g.seats tie.seats.told_are g.last t' at (ap (λ (m : _). m.told.count) learnt.mark))
        (ap length learnt.made)
        (let was = tie.seats.each g.last t at in record { id_is = learnt.id ∙ was.id_is; knows = subst (λ xs. IsPrefix xs tie.entries) (sym t_same) was.knows })
        (λ all. t_same ∙ all)

    flushing : IsFlushing (length new.pass.entries) phase.taken phase.before w.settled tie.entries new
    flushing = record {
      knows = found;
      known_is = refl;
      taken_is = tie.flusher.taken_is ∙ sym learns.taken_same;
      taken_within = tie.flusher.taken_within;
      job_brings = (
          let was = tie.flusher.job_brings in
          let taken = learns.taken_same in
          let settled = learns.settled_same in
          let job = ap (λ (p : PenOf D). growths_in_hand p.job) learns.pen_same in
          omega (arith, was, taken, settled, job));
      settled_is = tie.flusher.settled_is ∙ ap (λ n. phase.before + n) (sym learns.settled_same);
    }

    look_tie : IsGrowing m (within w found_phase) found_phase (record g { flusher = new; seats = row })
    look_tie = other_flusher (other_seats tie phase.known phase.told met_row) (Growing found_phase) (length new.pass.entries) phase.taken w.settled w.hand w.disk new refl flushing
        (tie.hand_is ∙ ap hand_of (sym learns.pen_same)) (tie.disk_is ∙ ap (λ (p : PenOf D). disk_of m.states m.faults p.disk) (sym learns.pen_same))

    pub look_answers : {answer : Answer R} (size : ℕ) → answer ≡ step.Size size → size ≡ length (opening_of g.live) + total new.pass.entries
        → GrowthStep m w (record g { flusher = new; seats = row }) (step.Look None) answer 0
    look_answers size is sized =
        let n : ℕ = length new.pass.entries in
        let longer = begins-le g.flusher.pass.entries new.pass.entries learns.begins in
        let was = tie.flusher.known_is in
        let count = growths_count tie in
        answered is (quiet_steps tie (within w found_phase)
        (inl (inr refl, (n, (omega (arith, longer, was), omega (arith, count, within_all)), ap step.Size (sized ∙ sym (known_long tie new.pass.entries found)), refl)))
        refl refl tie.calm (behind_of look_tie))

-- what is of a phase stays of it
pub IsFlusherOf-learns : {R D : Type 0} (keeps : D → Type 0) (live : book.Phase R) (old new : FlusherOf R D) → FlusherLearns old new → IsFlusherOf (keeps old.pen.disk) live old
    → IsFlusherOf (keeps new.pen.disk) live new
IsFlusherOf-learns {D = D} keeps live old new learns is = record {
  directory = learns.of_same ∙ is.directory;
  mark = ap (λ (m : _). m.of) learns.mark_same ∙ is.mark;
  before = learns.before_same ∙ is.before;
  opening = λ kept. learns.opening_same ∙ is.opening (subst (λ (p : PenOf D). keeps p.disk) learns.pen_same kept);
}
