-- A pen's hand behind each of its calls.
use Rattle.std.proofs.Common.{◌≡◌, ◌+◌, true, false, length, Option, Some, None, refl, sym, ap, ◌∙◌}
use Rattle.record_core.specs.Bytes.{Encoding}
use Rattle.segment_core.specs.Command.{Command, Grow, Shrink, Change}
use Rattle.segment_core.specs.Frame as frames
use Rattle.segment_core.specs.Frame.{Frame, frame_text}
use Rattle.segment_core.specs.Tally.{after}
use Rattle.segment_core.specs.declared.tally.Tally.{Tally}
use Rattle.pen_core.specs.PenOf.{PenOf, FoldOf}
use Rattle.pen_core.specs.Pen.{IsUnchanged, BeginsFold, BeginsFrame, CountsSame, CountsDone, IsBrokenBy, HomesCalled, FilesFold, fold_behind}
use Rattle.pen_core.specs.InHand.{called}
use Rattle.pen_core.specs.declared.step.PenStep as pen_step
use Rattle.pen_core.specs.declared.step.PenStep.TheVariants.{Body}
use Rattle.pen_core.specs.declared.stage.FoldStage.TheVariants as stages
use Rattle.vault_core.specs.Commands.{IsCommitted, IsStopped}
use Rattle.drive_core.specs.World.{hand_of, file_with, frame_of}

-- the length of the vector is none of what the hand counts
abbrev counted : Tally → Tally
counted tally = record { size = 0; changes = tally.changes; folded = tally.folded }

tally_counts : (tally : Tally) (frame : Frame) → ((after tally frame).changes ≡ (after (counted tally) frame).changes) × ((after tally frame).folded ≡ (after (counted tally) frame).folded)
tally_counts tally (frames.Group lengths bytes) = (refl, refl)
tally_counts tally (frames.Change runs bytes) = (refl, refl)
tally_counts tally (frames.Shrink n) = (refl, refl)
tally_counts tally (frames.Fold count) = (refl, refl)

fold_stays : {R : Type 0} (form : Encoding R) (command : Command R) (fold : Option FoldOf) → fold_behind (frame_of form command) fold ≡ fold
fold_stays form (Grow records) fold = refl
fold_stays form (Shrink n) fold = refl
fold_stays form (Change runs records) fold = refl

module _ {D : Type 0} (old new : PenOf D) where
  file_same : new.shape ≡ old.shape → new.gate ≡ old.gate → new.tally ≡ old.tally → (hand_of new).file ≡ (hand_of old).file
  file_same shape gate tally i = record { shape = shape i; gate = gate i; changes = (tally i).changes; folded = (tally i).folded }

  file_more : (frame : Frame) → new.shape ≡ old.shape → new.gate ≡ old.gate + length (frame_text old.shape.format frame) → new.tally ≡ after old.tally frame
      → (hand_of new).file ≡ file_with (hand_of old).file frame
  file_more frame shape gate tally i = record { shape = shape i; gate = gate i; changes = changes i; folded = folded i }
    where
      changes : new.tally.changes ≡ (file_with (hand_of old).file frame).changes
      changes = ap (λ (t : Tally). t.changes) tally ∙ (tally_counts old.tally frame).0

      folded : new.tally.folded ≡ (file_with (hand_of old).file frame).folded
      folded = ap (λ (t : Tally). t.folded) tally ∙ (tally_counts old.tally frame).1

  -- ---- a begin

  pub hand_unchanged : IsUnchanged old new → hand_of new ≡ hand_of old
  hand_unchanged same i = record {
    file = file_same same.shape_same same.gate_same same.tally_same i;
    job = same.job_same i;
    fold = same.fold_same i;
    broken = same.broken_same i;
  }

  pub hand_taken : (frame : Frame) → BeginsFrame frame old new → hand_of new ≡ record (hand_of old) { job = Some (record { frame = frame; step = Body }) }
  hand_taken frame by i = record {
    file = file_same by.shape_same by.gate_same by.tally_same i;
    job = by.job_is i;
    fold = by.fold_same i;
    broken = by.broken_same i;
  }

  pub hand_begun : (by : BeginsFold old new) → hand_of new ≡ record (hand_of old) { fold = Some (record { count = old.tally.changes; left = by.left; stage = stages.Home (length by.left) }) }
  hand_begun by i = record {
    file = file_same by.shape_same by.gate_same by.tally_same i;
    job = by.job_same i;
    fold = by.fold_is i;
    broken = by.broken_same i;
  }

  -- ---- a tick

  pub hand_stepped : CountsSame old new → new.broken ≡ old.broken → hand_of new ≡ record (hand_of old) { job = new.job }
  hand_stepped same broken i = record {
    file = file_same same.shape_same same.gate_same same.tally_same i;
    job = new.job;
    fold = same.fold_same i;
    broken = broken i;
  }

  pub hand_broken : IsBrokenBy old new → hand_of new ≡ record (hand_of old) { broken = true }
  hand_broken by i = record {
    file = file_same by.counts_same.shape_same by.counts_same.gate_same by.counts_same.tally_same i;
    job = by.job_same i;
    fold = by.counts_same.fold_same i;
    broken = by.broken i;
  }

  pub hand_done : (frame : Frame) → CountsDone frame old new → new.broken ≡ old.broken
      → hand_of new ≡ record (hand_of old) { file = file_with (hand_of old).file frame; job = None; fold = fold_behind frame old.fold }
  hand_done frame by broken i = record {
    file = file_more frame by.shape_same by.gate_is by.tally_is i;
    job = by.job_done i;
    fold = by.fold_is i;
    broken = broken i;
  }

  pub hand_homed : (fold : FoldOf) → HomesCalled fold old new → new.broken ≡ old.broken → hand_of new ≡ record (hand_of old) { fold = Some (called fold) }
  hand_homed fold by broken i = record {
    file = file_same by.shape_same by.gate_same by.tally_same i;
    job = by.job_same i;
    fold = by.fold_is i;
    broken = broken i;
  }

  pub hand_filed : (fold : FoldOf) → FilesFold fold old new → new.broken ≡ old.broken
      → hand_of new ≡ record (hand_of old) { fold = Some (record fold { stage = stages.Filed }); job = Some (record { frame = frames.Fold fold.count; step = Body }) }
  hand_filed fold by broken i = record {
    file = file_same by.shape_same by.gate_same by.tally_same i;
    job = by.job_is i;
    fold = by.fold_is i;
    broken = broken i;
  }

  -- ---- an exclusive command

  pub hand_committed : {R : Type 0} (form : Encoding R) (command : Command R) → IsCommitted (frame_of form command) old new → old.broken ≡ false → old.job ≡ None
      → hand_of new ≡ record (hand_of old) { file = file_with (hand_of old).file (frame_of form command) }
  hand_committed form command by whole idle i = record {
    file = file_more (frame_of form command) by.shape_same by.gate_is by.tally_is i;
    job = (by.idle ∙ sym idle) i;
    fold = (by.fold_is ∙ fold_stays form command old.fold) i;
    broken = (by.whole ∙ sym whole) i;
  }

  pub hand_stopped : (frame : Frame) (at : pen_step.PenStep) → IsStopped frame at old new
      → hand_of new ≡ record (hand_of old) { job = Some (record { frame = frame; step = at }); broken = true }
  hand_stopped frame at by i = record {
    file = file_same by.shape_same by.gate_same by.tally_same i;
    job = by.job_is i;
    fold = by.fold_same i;
    broken = by.broken i;
  }
