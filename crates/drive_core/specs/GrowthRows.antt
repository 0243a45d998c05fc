-- The rows of the growth phase.
use Rattle.std.specs.Prelude.{◌≡◌, ℕ, ◌+◌, ◌-◌, ◌*◌, ◌≤◌, true, ◌==◌, nat_lt, nat_le, List, [], ◌∷◌, ◌++◌, length, Option, Some, None, slice_index, slice_set}
use Rattle.record_core.specs.Bytes.{Encoding}
use Rattle.record_core.specs.Limits.{payload_limit, record_limit}
use Rattle.segment_core.specs.Command.{Grow}
use Rattle.segment_core.specs.Written.{group_frame, payload_len}
use Rattle.pen_core.specs.Refusals.{ready_lines, is_full}
use Rattle.pen_core.specs.declared.step.PenStep.TheVariants.{Body}
use Rattle.book_core.specs.declared.fault.GrowFault.TheVariants as grow
use Rattle.book_core.specs.declared.mark.MarkState.TheVariants.{Running}
use Rattle.pen_core.specs.declared.fault.PenFault.TheVariants as pen_fault
use Rattle.drive_core.specs.declared.fault.StepFault.TheVariants.{Vault, Grow as InGrow}
use Rattle.vault_core.specs.declared.fault.VaultFault.TheVariants as vault
use Rattle.drive_core.specs.Line.{Line, When, Might, pen_table, is_grow_memory, is_vault_memory, is_strayed}
use Rattle.drive_core.specs.Step.{Step, Answer}
use Rattle.drive_core.specs.Step as step
use Rattle.drive_core.specs.World.{World, Hand, as_pen, GrowthPhase, Exclusive, Growing, vector, vector_at, phase_growths, next_group}
use Rattle.drive_core.specs.Outcome.{Outcome, struck}

abbrev pub known_by : GrowthPhase → Option ℕ → ℕ
known_by phase None = phase.flusher
known_by phase (Some seat) = slice_index phase.known seat

abbrev pub knowing : GrowthPhase → Option ℕ → ℕ → GrowthPhase
knowing phase None n = record phase { flusher = n }
knowing phase (Some seat) n = record phase { known = slice_set phase.known seat n }

abbrev pub within : {R : Type 0} → World R → GrowthPhase → World R
within w phase = record w { phase = Growing phase }

-- a look may find any growth that was put
abbrev pub MayKnow : {R : Type 0} → World R → GrowthPhase → Option ℕ → ℕ → Type 0
MayKnow w phase pass n = (known_by phase pass ≤ n) × (n ≤ length (phase_growths w phase))

module _ {R : Type 0} (width : ℕ) where
  abbrev pub put_lines : World R → GrowthPhase → List R → List Line
  put_lines w phase records =
      When (length records == 0) (InGrow grow.Empty)
      ∷ When (nat_lt payload_limit (8 + length records * width)) (InGrow grow.TooLarge)
      ∷ Might is_grow_memory
      ∷ When phase.closed (InGrow grow.Closed)
      ∷ Might is_strayed
      ∷ When (nat_le phase.room (length (phase_growths w phase))) (InGrow grow.Full)
      ∷ When (nat_lt record_limit (length (vector w) + length records)) (InGrow grow.TooLong)
      ∷ Might is_grow_memory
      ∷ []

  -- what refuses a group that isn't empty
  abbrev pub room_for_group : Hand → List (List R) → List Line
  room_for_group hand [] = []
  room_for_group hand (growth ∷ growths) = When (is_full (as_pen hand 0) (payload_len width (growth ∷ growths))) (Vault (vault.Pen pen_fault.FileFull)) ∷ Might is_vault_memory ∷ []

  abbrev pub take_lines : Hand → List (List R) → List Line
  take_lines hand growths = pen_table (ready_lines (as_pen hand 0)) (room_for_group hand growths)

module _ {R : Type 0} where
  abbrev pub with_growth : World R → GrowthPhase → ℕ → List R → World R
  with_growth w phase seat records = record w {
    phase = Growing (record phase {
      known = slice_set phase.known seat (length (phase_growths w phase) + 1);
      made = slice_set phase.made seat (slice_index phase.made seat + 1);
    });
    history = w.history ++ Grow records ∷ [];
  }

  abbrev pub put_answer : World R → GrowthPhase → ℕ → List R → Answer R
  put_answer w phase seat records = step.Grown (record {
    number = length (phase_growths w phase);
    start = length (vector w);
    len = length records;
    seat = seat;
    serial = slice_index phase.made seat;
  })

module _ {R : Type 0} (width : ℕ) where
  abbrev pub IsPut : World R → GrowthPhase → ℕ → List R → Answer R → World R → Type 0
  IsPut w phase seat records answer w' = Outcome (put_lines width w phase records) answer
      ((answer ≡ put_answer w phase seat records) × (w' ≡ with_growth w phase seat records))
      (λ fault. (n : ℕ) × MayKnow w phase (Some seat) n × (w' ≡ struck (within w (knowing phase (Some seat) n)) fault))

module _ {R : Type 0} where
  abbrev pub IsLook : World R → GrowthPhase → Option ℕ → Answer R → World R → Type 0
  IsLook w phase pass answer w' = Outcome (Might is_strayed ∷ []) answer
      ((n : ℕ) × MayKnow w phase pass n × (answer ≡ step.Size (length (vector_at w phase n))) × (w' ≡ within w (knowing phase pass n)))
      (λ fault. w' ≡ struck w fault)

  abbrev pub IsView : World R → GrowthPhase → ℕ → Answer R → World R → Type 0
  IsView w phase seat answer w' = Outcome (Might is_vault_memory ∷ []) answer
      ((answer ≡ step.Listed (vector_at w phase (slice_index phase.known seat))) × (w' ≡ w))
      (λ fault. w' ≡ w)

  abbrev pub IsMarkRead : World R → GrowthPhase → ℕ → Answer R → World R → Type 0
  IsMarkRead w phase seat answer w' = Outcome (Might is_strayed ∷ []) answer
      ((n : ℕ) × (slice_index phase.told seat ≤ n) × (n ≤ phase.mark) × (answer ≡ step.Told n Running) × (w' ≡ within w (record phase { told = slice_set phase.told seat n })))
      (λ fault. w' ≡ struck w fault)

module _ {R : Type 0} (form : Encoding R) where
  -- nothing to take: nothing changes
  abbrev pub with_group : World R → GrowthPhase → List (List R) → World R
  with_group w phase [] = w
  with_group w phase (growth ∷ growths) = record w {
    phase = Growing (record phase { taken = phase.taken + length (growth ∷ growths) });
    hand = record w.hand { job = Some (record { frame = group_frame form (growth ∷ growths); step = Body }) };
  }

  abbrev pub IsTake : World R → GrowthPhase → Answer R → World R → Type 0
  IsTake w phase answer w' = Outcome
      (take_lines form.width w.hand (next_group form.width w phase)) answer
      ((answer ≡ step.Took (length (next_group form.width w phase))) × (w' ≡ with_group w phase (next_group form.width w phase)))
      (λ fault. w' ≡ w)

module _ {R : Type 0} where
  abbrev pub IsRaise : World R → GrowthPhase → Answer R → World R → Type 0
  IsRaise w phase answer w' =
      (answer ≡ step.Raised (w.settled - phase.before)) × (w' ≡ within w (record phase { mark = w.settled - phase.before }))

  abbrev pub IsClose : World R → GrowthPhase → Answer R → World R → Type 0
  IsClose w phase answer w' = (answer ≡ step.Fine) × (w' ≡ within w (record phase { closed = true }))

  abbrev pub IsGather : World R → GrowthPhase → Answer R → World R → Type 0
  IsGather w phase answer w' = Outcome
      (When w.hand.broken (Vault (vault.Pen pen_fault.Broken))
      ∷ When (nat_lt w.settled (length w.history)) (Vault (vault.Unsettled (w.settled - phase.before)))
      ∷ Might is_vault_memory
      ∷ []) answer
      ((answer ≡ step.Size (length (vector w))) × (w' ≡ record w { phase = Exclusive }))
      (λ fault. w' ≡ w)
