-- What the words of ticks and folds say of a small file: one record of 8 bytes, and a change of it.
use Rattle.std.proofs.Common.{◌≡◌, ℕ, zero, suc, ◌+◌, ◌≤◌, ◌<◌, inl, inr, true, false, cond, List, [], ◌∷◌, length, Option, Some, None, refl, ap, ◌∙◌, arith}
use Rattle.std.specs.Prelude.{nat_le, nat_lt, ◌-◌, ◌*◌, ◌&&◌}
use Rattle.std.proofs.lemmas.Bool.{cases_Bool, ltb-true, and_parts}
use Rattle.std.proofs.lemmas.List.{length-append}
use Rattle.disk_core.specs.State.{State}
use Rattle.disk_core.specs.Calls.{Writes, Settles, TearsWrite, Stays}
use Rattle.segment_core.specs.declared.format.Format.TheVariants.{One}
use Rattle.segment_core.specs.declared.format.Shape.{Shape}
use Rattle.segment_core.specs.Frame.{Frame, Group, Change, Shrink, Fold, frame_text}
use Rattle.segment_core.specs.Blanked.{blanked}
use Rattle.segment_core.specs.Tally.{after, tally_of}
use Rattle.segment_core.specs.Vector.{home_of}
use Rattle.pen_core.specs.declared.step.PenStep.{PenStep}
use Rattle.pen_core.specs.declared.step.PenStep.TheVariants.{Body, BodySync, Gate, GateSync}
use Rattle.pen_core.specs.declared.stage.FoldStage.{FoldStage}
use Rattle.pen_core.specs.declared.stage.FoldStage.TheVariants.{Home, Sync, Ready, Filed}
use Rattle.pen_core.specs.declared.stage.Ticked.TheVariants as ticks
use Rattle.pen_core.specs.declared.stage.HomeTicked.TheVariants as home_ticks
use Rattle.pen_core.specs.Held.{IsBeingFolded, early_of}
use Rattle.pen_core.specs.PenOf.{PenOf, JobOf, FoldOf, HomeWrite}
use Rattle.pen_core.specs.Pen.{MayBePending, LogTickCalls, LogTickFails, HomeTickCalls, HomesCalled, FilesFold, IsWaiting, CountsDone, FileGains, fold_stage}
use Rattle.pen_core.proofs.Pens.{tally_with}

abbrev shape : Shape
shape = record { format = One; width = 8 }

abbrev zeros : List ℕ
zeros = 0 ∷ 0 ∷ 0 ∷ 0 ∷ 0 ∷ 0 ∷ 0 ∷ 0 ∷ []

-- the record's home bytes stand from 25 on, and the gate behind the change at 55
abbrev frames : List Frame
frames = Group (1 ∷ []) zeros ∷ Change (record { start = 0; count = 1 } ∷ []) zeros ∷ []

abbrev home_write : HomeWrite
home_write = record { place = 25; bytes = zeros }

abbrev a_fold : ℕ → FoldStage → FoldOf
a_fold count stage = record { count = count; left = home_write ∷ []; stage = stage }

abbrev shrink : PenStep → JobOf
shrink step = record { frame = Shrink 1; step = step }

abbrev pen : Option JobOf → Option FoldOf → PenOf (Unit {0})
pen job fold =
    record {
      disk = tt;
      shape = shape;
      frames = frames;
      vector = zeros ∷ [];
      job = job;
      fold = fold;
      broken = false;
      tally = tally_of frames;
      gate = 55;
      room = 0;
      places = 0;
    }

-- ---- the device calls of a commit

-- the frame without its gate, and 0x00 behind it, in one write
writes_the_body : (old new : List State) → LogTickCalls (pen (Some (shrink Body)) None) ticks.Step old new
    → Writes 56 (3 ∷ 8 ∷ 0 ∷ 0 ∷ 0 ∷ 1 ∷ 0 ∷ 0 ∷ 0 ∷ 0 ∷ 0 ∷ 0 ∷ 0 ∷ 0 ∷ []) old new
writes_the_body old new is = is

syncs_the_body : (old new : List State) → LogTickCalls (pen (Some (shrink BodySync)) None) ticks.Step old new → Settles old new
syncs_the_body old new is = is

opens_the_gate : (old new : List State) → LogTickCalls (pen (Some (shrink Gate)) None) ticks.Step old new → Writes 55 (1 ∷ []) old new
opens_the_gate old new is = is

syncs_the_gate : (old new : List State) → LogTickCalls (pen (Some (shrink GateSync)) None) ticks.Done old new → Settles old new
syncs_the_gate old new is = is

calls_nothing : (old new : List State) → LogTickCalls (pen None None) ticks.Idle old new → new ≡ old
calls_nothing old new is = is

tears_the_body : (old new : List State) → LogTickFails false (pen (Some (shrink Body)) None) old new → TearsWrite 56 14 old new
tears_the_body old new is = is

leaves_the_body_unsynced : (old new : List State) → LogTickFails false (pen (Some (shrink BodySync)) None) old new → Stays old new
leaves_the_body_unsynced old new is = is

tears_the_gate : (old new : List State) → LogTickFails false (pen (Some (shrink Gate)) None) old new → TearsWrite 55 1 old new
tears_the_gate old new is = is

broken_calls_nothing : (old new : List State) → LogTickFails true (pen (Some (shrink Gate)) None) old new → new ≡ old
broken_calls_nothing old new is = is

-- ---- those of the homes

writes_the_home : (old new : List State) → HomeTickCalls (Some (a_fold 1 (Home 1))) home_ticks.Step old new → Writes 25 zeros old new
writes_the_home old new is = is

syncs_the_homes : (old new : List State) → HomeTickCalls (Some (a_fold 1 Sync)) home_ticks.Step old new → Settles old new
syncs_the_homes old new is = is

-- ---- what may be pending

being_folded : (j : ℕ) → 25 ≤ j → j < 33 → IsBeingFolded shape 1 frames j
being_folded j from upto = record { position = 0; place = 25; told = 47; home_is = refl; covered = refl; from = from; before = upto }

first_home_byte : MayBePending (pen None (Some (a_fold 1 (Home 1)))) 25
first_home_byte = inr (inr (being_folded 25 (omega arith) (omega arith)))

last_home_byte : MayBePending (pen None (Some (a_fold 1 Sync))) 32
last_home_byte = inr (inr (being_folded 32 (omega arith) (omega arith)))

past_the_gate : MayBePending (pen None None) 56
past_the_gate = inl (omega arith)

gate_at_its_write : MayBePending (pen (Some (shrink Gate)) (Some (a_fold 1 (Home 1)))) 55
gate_at_its_write = inr (inl (refl, inl refl))

-- only position 0 has a home, which begins at 25
home_place : (i place : ℕ) → home_of shape frames i ≡ Some place → place ≡ 25
home_place zero place is = let same : Some 25 ≡ Some place = is in cc
home_place (suc i) place is = elim (cases_Bool (nat_le 0 (suc i) && nat_lt (suc i) 1)) [
  | inl here ↦ (let low = ltb-true (suc i) 1 ((and_parts (nat_le 0 (suc i)) (nat_lt (suc i) 1) here).1) in absurd (omega (arith, low)))
  | inr none ↦ (let no_home : home_of shape frames (suc i) ≡ None = ap (λ b. cond b (Some (25 + (suc i - 0) * 8)) None) none in absurd cc)
]

none_elsewhere : (count j : ℕ) → IsBeingFolded shape count frames j → (25 ≤ j) × (j < 33)
none_elsewhere count j is =
    let at = home_place is.position is.place is.home_is in
    let from = is.from in
    let before = is.before in
    (omega arith, omega arith)

not_before_the_home : MayBePending (pen None (Some (a_fold 1 (Home 1)))) 24 → ⊥
not_before_the_home may = elim may [
  | inl past ↦ absurd (omega (arith, past))
  | inr (inl at) ↦ at.1
  | inr (inr folded) ↦ absurd (omega (arith, (none_elsewhere 1 24 folded).0))
]

not_behind_the_home : MayBePending (pen None (Some (a_fold 1 (Home 1)))) 33 → ⊥
not_behind_the_home may = elim may [
  | inl past ↦ absurd (omega (arith, past))
  | inr (inl at) ↦ at.1
  | inr (inr folded) ↦ absurd (omega (arith, (none_elsewhere 1 33 folded).1))
]

-- behind their sync the homes stand
not_behind_their_sync : MayBePending (pen None (Some (a_fold 1 Ready))) 25 → ⊥
not_behind_their_sync may = elim may [
  | inl past ↦ absurd (omega (arith, past))
  | inr (inl at) ↦ at.1
  | inr (inr folded) ↦ uncovered folded
]
  where
    told : (i place : ℕ) → early_of shape 0 frames i ≡ Some place → ⊥
    told i place is = absurd cc

    uncovered : IsBeingFolded shape 0 frames 25 → ⊥
    uncovered is = told is.position is.told is.covered

-- ---- what ticks make of a fold

one_write_less : (old new : PenOf (Unit {0})) → HomesCalled (a_fold 1 (Home 2)) old new
    → (fold_stage old.fold ≡ Home 2) × (fold_stage new.fold ≡ Home 1)
one_write_less old new is = (ap fold_stage is.fold_was, ap fold_stage is.fold_is)

the_last_write : (old new : PenOf (Unit {0})) → HomesCalled (a_fold 1 (Home 1)) old new → new.fold ≡ Some (record { count = 1; left = []; stage = Sync })
the_last_write old new is = is.fold_is

the_sync : (old new : PenOf (Unit {0})) → HomesCalled (a_fold 1 Sync) old new → fold_stage new.fold ≡ Ready
the_sync old new is = ap fold_stage is.fold_is

filed : (old new : PenOf (Unit {0})) (fold : FoldOf) → FilesFold fold old new → (fold_stage old.fold ≡ Ready) × (fold_stage new.fold ≡ Filed)
filed old new fold is = (ap fold_stage is.fold_was ∙ is.ready, ap fold_stage is.fold_is)

-- where a fold waits, there is a job
waits_for_a_job : (old new : PenOf (Unit {0})) (fold : FoldOf) → IsWaiting fold old new → (old.job ≡ None → ⊥) × (old.fold ≡ Some fold)
waits_for_a_job old new fold is = (λ none. (let busy = is.busy in absurd cc), is.fold_was)

-- ---- what a frame that is done leaves

-- a fold ends with its own frame, and with no other
ends_with_its_own : (old new : PenOf (Unit {0})) (count : ℕ) → CountsDone (Fold count) old new → new.fold ≡ None
ends_with_its_own old new count is = is.fold_is

stays_beside_others : (old new : PenOf (Unit {0})) (n : ℕ) → CountsDone (Shrink n) old new → new.fold ≡ old.fold
stays_beside_others old new n is = is.fold_is

-- the frame of one record has 22 bytes
one_record_more : (old new : PenOf (Unit {0})) → old.shape ≡ shape → CountsDone (Group (1 ∷ []) zeros) old new
    → (new.gate ≡ old.gate + 22) × (new.tally.size ≡ old.tally.size + 1)
one_record_more old new at is = (
  is.gate_is ∙ ap (λ s. old.gate + length (frame_text s.format (Group (1 ∷ []) zeros))) at,
  ap (λ t. t.size) is.tally_is ∙ omega arith,
)

-- one frame more, which counts as the pen counts it
one_frame_more : (old new : PenOf (Unit {0})) (frame : Frame) → FileGains frame old new
    → (length new.frames ≡ length old.frames + 1) × (tally_of new.frames ≡ after (tally_of old.frames) frame)
one_frame_more old new frame is = (
  ap length is.frames_more ∙ length-append old.frames (blanked frame ∷ []),
  ap tally_of is.frames_more ∙ tally_with old.frames frame,
)
