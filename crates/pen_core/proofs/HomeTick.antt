-- What is known of the disk behind a home write, and behind the sync behind the last one.
use Rattle.std.proofs.Common.{◌≡◌, ℕ, ◌+◌, ◌-◌, ◌≤◌, ◌<◌, inl, inr, Bool, true, false, cond, List, length, Option, Some, None, sym, ap, subst, arith}
use Rattle.std.specs.Prelude.{nat_lt}
use Rattle.std.proofs.lemmas.Bool.{cases_Bool, both_ways}
use Rattle.disk_core.specs.State.{State, settled, touched, written, has_place, is_within, IsImage, IsTornWrite}
use Rattle.disk_core.proofs.ImageLemmas.{settled_image, touched_more, torn_images}
use Rattle.segment_core.specs.declared.format.Shape.{Shape}
use Rattle.segment_core.specs.declared.tally.Tally.{Tally}
use Rattle.segment_core.specs.Frame.{Frame}
use Rattle.segment_core.specs.Raw.{after_frame}
use Rattle.pen_core.specs.declared.fold.Fold.{Fold}
use Rattle.pen_core.specs.declared.step.PenStep.{PenStep}
use Rattle.pen_core.specs.declared.stage.FoldStage.{FoldStage}
use Rattle.pen_core.specs.declared.stage.FoldStage.TheVariants.{Home, Sync, Ready, Filed}
use Rattle.pen_core.specs.declared.stage.FoldStage.TheVariants as stages
use Rattle.pen_core.specs.Held.{IsBeingFolded, gate_of}
use Rattle.pen_core.specs.Known.{IsFileOf, IsShut}
use Rattle.pen_core.specs.PenLog.{PenLog}
use Rattle.pen_core.specs.Vectors.{frame_at, frames_with}
use Rattle.pen_core.specs.InHand.{has_call, stage_after, CanCall, IsAtStage}
use Rattle.pen_core.specs.Inside.{job_of, IsAtStep, Knows}
use Rattle.pen_core.specs.Pen.{OpensWith, open_count}
use Rattle.pen_core.proofs.Calls.{IsFileOf-touched, file_after_sync, shut_after_sync}
use Rattle.pen_core.proofs.Held.{image_holds, covered_inside}
use Rattle.pen_core.proofs.HomeTicks.{settled_file, step_after_sync, step_after_home, home_images}
use Rattle.pen_core.proofs.HomeWrites.{file_after_home, shut_after_home, images_of_home_shut}
use Rattle.pen_core.proofs.Pens.{knows_rest, knows_at}

-- ---- what is known of the disk

module _ (count : ℕ) (log : PenLog) (frames : List Frame) (vector : List (List ℕ)) (s : State) (readable : IsImage s s.seen) where
  abbrev following : List Frame
  following = frames_with frames (frame_at log.shape log.bytes)

  abbrev then : List (List ℕ)
  then = after_frame log.shape.width vector (frame_at log.shape log.bytes)

  abbrev KnowsAs : ℕ → Option PenStep → Bool → State → Type 0
  KnowsAs n o broken t = Knows n (record log { step = o; broken = broken }) frames vector t

  shut : {n : ℕ} (broken : Bool) → KnowsAs n None broken s → broken ≡ false → IsShut (gate_of log.shape frames) s
  shut broken k whole = subst (λ g. IsShut g s) k.gate_is (k.stands whole)

  at_step : {n : ℕ} (step : PenStep) (broken : Bool) → KnowsAs n (Some step) broken s → broken ≡ false
      → IsAtStep log.shape n (gate_of log.shape frames) frames following then log.bytes step s
  at_step {n} step broken k whole = subst (λ g. IsAtStep log.shape n g frames following then log.bytes step s) k.gate_is (k.stands whole)

  -- ---- a home write

  module _ (at : ℕ) (ws : List ℕ) (below : at + length ws ≤ gate_of log.shape frames)
      (folded : (j : ℕ) → at ≤ j → j < at + length ws → IsBeingFolded log.shape count frames j) where
    -- also once a job in hand is done
    abbrev pub Later : Option PenStep → Type 0
    Later None = Unit {0}
    Later (Some step) = (j : ℕ) → at ≤ j → j < at + length ws → IsBeingFolded log.shape count following j

    pub write_images : (o : Option PenStep) (broken : Bool) → Later o → KnowsAs count o broken s → broken ≡ false
        → (image : List ℕ) → IsImage (touched s at (length ws) s.seen) image
        → OpensWith log.shape frames vector (job_of log.shape log.bytes o) image
    write_images None broken later k whole image is =
        images_of_home_shut log.shape count frames vector s at ws k.file readable below folded (shut broken k whole) image is
    write_images (Some step) broken later k whole image is =
        home_images log.shape count frames following vector then log.bytes s at ws k.file readable below folded later step
        (at_step step broken k whole) image is

    pub written_knows : (o : Option PenStep) (broken : Bool) → Later o → KnowsAs count o broken s → broken ≡ false
        → IsImage (written s at ws) (written s at ws).seen → KnowsAs count o broken (written s at ws)
    written_knows None broken later k whole readable' =
        knows_rest (record log { broken = broken }) frames vector (written s at ws) k.gate_is k.tally_is
        (file_after_home log.shape count frames vector s at ws k.file readable below folded)
        (subst (λ g. IsShut g (written s at ws)) (sym k.gate_is)
        (shut_after_home log.shape count frames vector s at ws k.file readable below folded (shut broken k whole)))
        readable'
    written_knows (Some step) broken later k whole readable' =
        knows_at (record log { broken = broken }) frames vector (written s at ws) k.gate_is k.tally_is step
        (file_after_home log.shape count frames vector s at ws k.file readable below folded)
        (subst (λ g. IsAtStep log.shape count g frames following then log.bytes step (written s at ws)) (sym k.gate_is)
        (step_after_home log.shape count frames following vector then log.bytes s at ws k.file readable below folded later step
        (at_step step broken k whole)))
        readable'

    torn_file : IsFileOf log.shape count frames vector s → (left : State) → IsTornWrite at (length ws) s left
        → IsImage left left.seen → IsFileOf log.shape count frames vector left
    torn_file file left torn readable' = record {
      holds =
          image_holds log.shape count frames vector (touched s at (length ws) s.seen)
          (IsFileOf-touched log.shape count frames vector s at (length ws) s.seen file file.holds
          (λ j lt from upto. folded j from upto))
          (touched_more s at (length ws) s.seen s.seen readable) left.seen (torn_images at (length ws) s left s.seen left.seen torn readable');
      gate_synced = subst (λ bs. gate_of log.shape frames < length bs) (sym torn.synced) file.gate_synced;
      pending_is_folded = λ j lt is. elim (cases_Bool (is_within s.pending j)) [
        | inl old ↦ file.pending_is_folded j lt old
        | inr out ↦ elim (cases_Bool (has_place (record { at = at; len = length ws }) j)) [
          | inl new ↦ (let i = covered_inside at (length ws) j new in folded j i.0 i.1)
          | inr apart ↦ absurd (both_ways (is_within left.pending j) (torn.pending j out apart) is)
        ]
      ];
    }

    -- it failed
    pub torn_knows : (o : Option PenStep) (broken : Bool) → Later o → KnowsAs count o broken s → broken ≡ false → (left : State)
        → IsTornWrite at (length ws) s left → IsImage left left.seen → KnowsAs count o true left
    torn_knows o broken later k whole left torn readable' =
        let at_gate = k.gate_is in
        record {
          gate_is = k.gate_is;
          tally_is = k.tally_is;
          file = torn_file k.file left torn readable';
          images_open = λ image is. write_images o broken later k whole image (torn_images at (length ws) s left s.seen image torn is);
          gate_pending = λ is. elim (cases_Bool (is_within s.pending log.gate)) [
            | inl old ↦ k.gate_pending old
            | inr out ↦ elim (cases_Bool (has_place (record { at = at; len = length ws }) log.gate)) [
              | inl new ↦ (let i = covered_inside at (length ws) log.gate new in absurd (omega (arith, i.0, i.1)))
              | inr apart ↦ absurd (both_ways (is_within left.pending log.gate) (torn.pending log.gate out apart) is)
            ]
          ];
          stands = λ none. absurd cc;
        }

  -- ---- their sync

  pub synced_knows : (n : ℕ) (o : Option PenStep) (broken : Bool) → KnowsAs n o broken s → broken ≡ false → KnowsAs 0 o broken (settled s.seen)
  synced_knows n None broken k whole =
      knows_rest (record log { broken = broken }) frames vector (settled s.seen) k.gate_is k.tally_is
      (settled_file log.shape n frames frames vector vector log.bytes s.seen
      (file_after_sync log.shape n frames frames vector vector s readable k.file))
      (shut_after_sync log.shape n frames frames vector vector s readable log.gate (k.stands whole)) (settled_image s.seen)
  synced_knows n (Some step) broken k whole =
      knows_at (record log { broken = broken }) frames vector (settled s.seen) k.gate_is k.tally_is step
      (settled_file log.shape n frames following vector then log.bytes s.seen
      (file_after_sync log.shape n frames following vector then s readable k.file))
      (subst (λ g. IsAtStep log.shape 0 g frames following then log.bytes step (settled s.seen)) (sym k.gate_is)
      (step_after_sync log.shape n frames following vector then log.bytes step s readable (at_step step broken k whole)))
      (settled_image s.seen)

  -- it failed
  pub same_knows : (n : ℕ) (o : Option PenStep) (broken : Bool) → KnowsAs n o broken s → KnowsAs n o true s
  same_knows n o broken k =
      record {
        gate_is = k.gate_is;
        tally_is = k.tally_is;
        file = k.file;
        images_open = k.images_open;
        gate_pending = k.gate_pending;
        stands = λ none. absurd cc;
      }

-- ---- on a pen's fields

pub home_count : (n count : ℕ) → open_count (stage_after (Home n)) count ≡ count
home_count n count =
    elim (cases_Bool (nat_lt 1 n)) [
      | inl more ↦ ap (λ b. open_count (cond b (Home (n - 1)) Sync) count) more
      | inr last ↦ ap (λ b. open_count (cond b (Home (n - 1)) Sync) count) last
    ]

-- ---- what is asked of the call

pub can_call : (shape : Shape) (gate : ℕ) (tally : Tally) (bytes : List ℕ) (o : Option PenStep) (fold : Fold)
    (stage : FoldStage)
    → has_call stage ≡ true → IsAtStage shape gate tally bytes o fold stage → CanCall gate fold stage
can_call shape gate tally bytes o fold stages.None calls at = absurd cc
can_call shape gate tally bytes o fold Ready calls at = absurd cc
can_call shape gate tally bytes o fold Filed calls at = absurd cc
can_call shape gate tally bytes o fold (Home n) calls at = (omega (arith, at.1, at.2), at.0.planned)
can_call shape gate tally bytes o fold Sync calls at = tt
