-- A put that the book refuses, or that finds something astray.
use Rattle.std.proofs.Common.{◌≡◌, inl, inr, ℕ, ◌+◌, ◌<◌, Bool, true, false, nat_le, List, [], length, Some, None, refl, sym, ap, subst, ◌∙◌, arith, le-leb, lt-ltb, slice_index, slice_set}
use Rattle.std.proofs.lemmas.List.{append-nil}
use Rattle.std.proofs.lemmas.Option.{slice_get_within}
use Rattle.std.proofs.Math.Seq.{take-length}
use Rattle.record_core.specs.Limits.{record_limit}
use Rattle.directory_core.specs.Chain.{IsPrefix, total}
use Rattle.book_core.specs.declared.fault.GrowFault.{GrowFault}
use Rattle.book_core.specs.declared.fault.GrowFault.TheVariants as grow
use Rattle.book_core.specs.Lists.{Seated, opening_of}
use Rattle.book_core.specs.Growing.{SeatLearns, IsBookRefusal, size_of}
use Rattle.drive_core.specs.declared.fault.StepFault.TheVariants as told
use Rattle.drive_core.specs.Line.{put_fault_of, Allows}
use Rattle.drive_core.specs.Medium.{Medium}
use Rattle.drive_core.specs.Step.{Answer}
use Rattle.drive_core.specs.Step as step
use Rattle.drive_core.specs.World.{World, GrowthPhase, phase_growths, vector}
use Rattle.drive_core.specs.Outcome.{struck, stray_in}
use Rattle.drive_core.specs.GrowthRows.{IsPut, knowing, within}
use Rattle.drive_core.specs.Ties.{GrowingOf, IsGrowing}
use Rattle.drive_core.specs.GrowthTies.{GrowthStep}
use Rattle.drive_core.proofs.PenFolds.{not_lt, not_le}
use Rattle.drive_core.proofs.PutAsked.{IsAskedPut}
use Rattle.drive_core.proofs.PutRow.{row_is, first_are, learns_nothing}
use Rattle.drive_core.proofs.PutTable.{book_lines, book_decides, may_stray}
use Rattle.drive_core.proofs.Quiet.{quiet_steps, seat_row}
use Rattle.drive_core.proofs.Seated.{counts_set, counts_kept, knows, hears, known_at, knows_few, replaced}
use Rattle.drive_core.proofs.Steps.{answered}
use Rattle.drive_core.proofs.Tables.{passes, stops}
use Rattle.drive_core.proofs.Ties.{growths_count, vector_is, opening_long, other_seats, behind_of, strayed_behind}

module _ {R D : Type 0} {m : Medium R D} {w : World R} {phase : GrowthPhase} {g : GrowingOf R D} (tie : IsGrowing m w phase g)
    {k : ℕ} {records : List R} {new : Seated R} {row : List (Seated R)} (asked : IsAskedPut m.form.width g k records new row) where
  inside : k < length g.seats
  inside = slice_get_within g.seats k asked.old asked.met.at

  open_ : phase.closed ≡ false
  open_ = sym tie.closed_is ∙ asked.not_closed

  -- something that no step made
  pub put_strays : {answer : Answer R} (g' : GrowingOf R D) (n : ℕ) → answer ≡ step.Refused (told.Grow (grow.Strayed n)) → g'.flusher.pen.disk ≡ g.flusher.pen.disk
      → GrowthStep m w g' (step.Put k records) answer 0
  put_strays g' n is disk =
      let refused : Answer R = step.Refused (told.Grow (grow.Strayed n)) in
      let w' : World R = struck (within w (knowing phase (Some k) (slice_index phase.known k))) (told.Grow (grow.Strayed n)) in
      let known = known_at tie.seats k asked.met.at in
      let few = knows_few tie.seats k asked.met.at in
      let count = growths_count tie in
      answered is (quiet_steps tie w' (seat_row tie inside w' refused (IsPut m.form.width w phase k records refused w')
      (inr (told.Grow (grow.Strayed n), may_stray w phase records asked.block open_ n, refl, (slice_index phase.known k, (omega arith, omega (arith, known, few, count)), refl)))) refl refl refl
      (strayed_behind tie w' n disk refl refl))

  knows_all : SeatLearns asked.old new → length new.pass.entries ≡ g.puts → new.pass.entries ≡ tie.entries
  knows_all learns all =
      first_are tie asked.met new.pass.entries [] learns.begins (sym (append-nil new.pass.entries)) (let puts = tie.puts_is in omega (arith, all, puts))

  -- the seat knows all, and so does what it is when it has met the last
  module _ (learns : SeatLearns asked.old new) (all_known : new.pass.entries ≡ tie.entries) where
    abbrev met : Seated R
    met = asked.met.meets.met

    met_all : met.pass.entries ≡ tie.entries
    met_all = learns_nothing tie asked.met (let same = ap length all_known in omega (arith, same)) ∙ all_known

    abbrev kept_hand : GrowingOf R D
    kept_hand = record g { seats = row }

    abbrev kept_phase : GrowthPhase
    kept_phase = record phase { known = slice_set phase.known k (length tie.entries) }

    kept_tie : IsGrowing m (within w kept_phase) kept_phase kept_hand
    kept_tie = other_seats tie (slice_set phase.known k (length tie.entries)) phase.told (replaced tie.seats k asked.met.at met (row_is tie asked.met)
        (counts_set knows g.seats tie.seats.known_are k met (sym (ap length met_all)))
        (counts_kept hears g.seats tie.seats.told_are k met asked.met.at (ap (λ (m : _). m.told.count) (asked.met.meets.learns.mark ∙ learns.mark)))
        (ap length (asked.met.meets.learns.made ∙ learns.made))
        (record {
          id_is = asked.met.meets.learns.id ∙ learns.id ∙ (tie.seats.each k asked.old asked.met.at).id_is;
          knows = subst (λ xs. IsPrefix xs tie.entries) (sym met_all) (take-length tie.entries);
        })
        (λ was. met_all))

    -- refused by a rule, or for want of memory, where the seat knows all
    refused_by : {answer : Answer R} (fault : GrowFault) → answer ≡ step.Refused (told.Grow fault) → None ≡ stray_in {R = R} (step.Refused (told.Grow fault))
        → Allows (book_lines w phase records asked.block open_) (Some (told.Grow fault)) → within w kept_phase ≡ struck (within w kept_phase) (told.Grow fault)
        → GrowthStep m w kept_hand (step.Put k records) answer 0
    refused_by fault is calm allows same =
        let refused : Answer R = step.Refused (told.Grow fault) in
        let w' : World R = within w kept_phase in
        let known = known_at tie.seats k asked.met.at in
        let few = knows_few tie.seats k asked.met.at in
        let count = growths_count tie in
        answered is (quiet_steps tie w' (seat_row tie inside w' refused (IsPut m.form.width w phase k records refused w')
        (inr (
          told.Grow fault,
          book_decides w phase records asked.block open_ (Some (told.Grow fault)) allows,
          refl,
          (length tie.entries, (omega (arith, known, few), omega (arith, count)), same),
        ))) refl refl (tie.calm ∙ calm)
        (behind_of kept_tie))

    calm_same : within w kept_phase ≡ struck (within w kept_phase) (told.Grow grow.Full)
    calm_same i = record (within w kept_phase) { strayed = tie.calm i }

    -- what the book knows of the list, of which the seat knows all
    long : length new.pass.entries ≡ length (phase_growths w phase)
    long = ap length all_known ∙ sym (growths_count tie)

    size : size_of g.live new ≡ length (vector w)
    size = ap (λ es. length (opening_of g.live) + total es) all_known ∙ sym (ap length (vector_is tie) ∙ opening_long tie tie.entries)

    has_room : length new.pass.entries < g.live.directory.room → nat_le phase.room (length (phase_growths w phase)) ≡ false
    has_room less = not_le phase.room (length (phase_growths w phase)) (let room = tie.room_is in omega (arith, less, long, room))

    -- as the function answers: of a seat that knows all, or something strayed
    put_told : {answer : Answer R} (fault : GrowFault) → answer ≡ step.Refused (told.Grow (put_fault_of fault true g.puts)) → IsBookRefusal g.live new (length records) fault
        → GrowthStep m w kept_hand (step.Put k records) answer 0
    put_told grow.Closed is why = put_strays kept_hand g.puts is refl
    put_told (grow.Strayed n) is why = put_strays kept_hand n is refl
    put_told grow.Full is why =
        let no_room = le-leb phase.room (length (phase_growths w phase)) (let le = why.1 in let room = tie.room_is in omega (arith, le, long, room)) in
        refused_by grow.Full is refl (stops _ (told.Grow grow.Full) _ no_room) calm_same
    put_told grow.TooLong is why =
        let much = lt-ltb record_limit (length (vector w) + length records) (let more = why.2 in omega (arith, more, size)) in
        refused_by grow.TooLong is refl (passes _ (told.Grow grow.Full) _ _ (has_room why.1) (stops _ (told.Grow grow.TooLong) _ much)) calm_same
    put_told grow.Memory is why =
        let short = not_lt record_limit (length (vector w) + length records) (let le = why.2 in omega (arith, le, size)) in
        refused_by grow.Memory is refl (passes _ (told.Grow grow.Full) _ _ (has_room why.1) (passes _ (told.Grow grow.TooLong) _ _ short (inl (told.Grow grow.Memory, refl, refl)))) calm_same
    put_told grow.Empty is why = absurd why
    put_told grow.TooLarge is why = absurd why

  stray_fault : (fault : GrowFault) → (n : ℕ) × (put_fault_of fault false g.puts ≡ grow.Strayed n)
  stray_fault grow.Closed = (g.puts, refl)
  stray_fault (grow.Strayed n) = (n, refl)
  stray_fault other = (g.puts, refl)

  pub put_errs : {answer : Answer R} (fault : GrowFault) (all : Bool) {known : ℕ} → answer ≡ step.Refused (told.Grow (put_fault_of fault all g.puts)) → SeatLearns asked.old new
      → IsBookRefusal g.live new (length records) fault → known ≡ length new.pass.entries → (all ≡ true → known ≡ g.puts)
      → GrowthStep m w (record g { seats = row }) (step.Put k records) answer 0
  put_errs fault true is learns why known_is all = put_told learns (knows_all learns (sym known_is ∙ all refl)) fault is why
  put_errs fault false is learns why known_is all =
      let stray = stray_fault fault in
      put_strays (record g { seats = row }) stray.0 (is ∙ ap (λ f. step.Refused (told.Grow f)) stray.1) refl
