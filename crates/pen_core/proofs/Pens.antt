-- What a pen knows, at rest, at each step of a commit, and behind a fault.
use Rattle.std.proofs.Common.{◌≡◌, ℕ, ◌+◌, ◌≤◌, ◌<◌, ◌⊎◌, inl, inr, true, List, length, Some, None, sym, ap, subst, ◌∙◌, arith}
use Rattle.std.specs.Prelude.{nat_le}
use Rattle.std.proofs.lemmas.Bool.{cases_order, or_cases, both_ways, leb-true}
use Rattle.std.proofs.lemmas.List.{length-append}
use Rattle.disk_core.specs.State.{State, is_within, IsImage}
use Rattle.disk_core.specs.Choice.{is_pending}
use Rattle.segment_core.specs.declared.format.Shape.{Shape}
use Rattle.segment_core.specs.Frame.{Frame, frame_text, text}
use Rattle.segment_core.specs.Tally.{nothing, after, tally_of}
use Rattle.segment_core.specs.Blanked.{blanked}
use Rattle.segment_core.proofs.Push.{text_push, tally_from_push}
use Rattle.segment_core.proofs.Blanked.{length-frame_text-blanked, after-blanked, tally_from-blanked}
use Rattle.pen_core.specs.declared.step.PenStep.{PenStep}
use Rattle.pen_core.specs.Held.{HoldsFrames, IsBeingFolded, gate_of}
use Rattle.pen_core.specs.Known.{IsFileOf, IsShut}
use Rattle.pen_core.specs.Vectors.{frame_at, frames_with}
use Rattle.segment_core.specs.Raw.{after_frame}
use Rattle.pen_core.specs.Pen.{MayBeOpening}
use Rattle.pen_core.specs.Inside.{job_of, job_in, IsAtStep, Knows}
use Rattle.pen_core.specs.PenLog.{PenLog}
use Rattle.pen_core.proofs.Held.{images_shut}
use Rattle.pen_core.proofs.Ticks.{IsOpening, images_at, gate_at, Failed}

-- ---- one frame more

pub tally_with : (frames : List Frame) (frame : Frame) → tally_of (frames_with frames frame) ≡ after (tally_of frames) frame
tally_with frames frame = tally_from_push nothing frames (blanked frame) ∙ after-blanked (tally_of frames) frame

pub gate_with : (shape : Shape) (frames : List Frame) (frame : Frame)
    → gate_of shape (frames_with frames frame) ≡ gate_of shape frames + length (frame_text shape.format frame)
gate_with shape frames frame =
    ap length (text_push shape frames (blanked frame))
    ∙ length-append (text shape frames) (frame_text shape.format (blanked frame))
    ∙ ap (λ n. gate_of shape frames + n) (length-frame_text-blanked shape.format frame)

-- what holds the frames holds as many records
pub held_size : (shape : Shape) (frames : List Frame) (vector : List (List ℕ)) (bytes : List ℕ)
    → HoldsFrames shape frames vector bytes → (tally_of frames).size ≡ length vector
held_size shape frames vector bytes has =
    ap (λ fs. (tally_of fs).size) (sym has.alike) ∙ ap (λ t. t.size) (tally_from-blanked nothing has.found)
    ∙ sym has.read.size

-- ---- what is known

module _ (log : PenLog) (frames : List Frame) (vector : List (List ℕ)) (s : State)
    (gate_is : log.gate ≡ gate_of log.shape frames) (tally_is : log.tally ≡ tally_of frames) where
  -- no job is in hand
  pub knows_rest : {count : ℕ} → IsFileOf log.shape count frames vector s → IsShut log.gate s → IsImage s s.seen
      → Knows count (record log { step = None }) frames vector s
  knows_rest {count} file shut readable = record {
    gate_is = gate_is;
    tally_is = tally_is;
    file = file;
    images_open = λ image is.
        images_shut log.shape count frames vector s file readable image is (subst (λ g. IsShut g s) gate_is shut);
    gate_pending = λ is. absurd (both_ways (is_within s.pending log.gate) shut.kept is);
    stands = λ whole. shut;
  }

  abbrev pub frame : Frame
  frame = frame_at log.shape log.bytes

  abbrev pub following : List Frame
  following = frames_with frames frame

  abbrev pub then : List (List ℕ)
  then = after_frame log.shape.width vector frame

  opening : (step : PenStep) → IsOpening step → MayBeOpening (job_of log.shape log.bytes (Some step))
  opening step is = is

  -- the next call is this one
  pub knows_at : {count : ℕ} (step : PenStep) → IsFileOf log.shape count frames vector s
      → IsAtStep log.shape count log.gate frames following then log.bytes step s → IsImage s s.seen
      → Knows count (record log { step = Some step }) frames vector s
  knows_at {count} step file at readable =
      let at' : IsAtStep log.shape count (gate_of log.shape frames) frames following then log.bytes step s =
      subst (λ g. IsAtStep log.shape count g frames following then log.bytes step s) gate_is at in
      record {
        gate_is = gate_is;
        tally_is = tally_is;
        file = file;
        images_open = images_at log.shape count frames following vector then log.bytes step s file at' readable;
        gate_pending = λ is.
            gate_at log.shape count frames following vector then log.bytes step s at'
            (subst (λ g. is_within s.pending g ≡ true) gate_is is);
        stands = λ whole. at;
      }

  -- and it has failed
  pub knows_broken : {count : ℕ} (step : PenStep) → Failed log.shape count frames following vector then log.bytes step s
      → Knows count (record log { step = Some step; broken = true }) frames vector s
  knows_broken {count} step failed = record {
    gate_is = gate_is;
    tally_is = tally_is;
    file = failed.file;
    images_open = failed.images;
    gate_pending = λ is. failed.gate_pending (subst (λ g. is_within s.pending g ≡ true) gate_is is);
    stands = λ whole. absurd cc;
  }

-- what may be pending
pub told_pending : {count : ℕ} {log : PenLog} {frames : List Frame} {vector : List (List ℕ)} {s : State}
    → Knows count log frames vector s → (j : ℕ) → is_pending s j ≡ true
    → (log.gate < j) ⊎ (((j ≡ log.gate) × MayBeOpening (job_in log)) ⊎ IsBeingFolded log.shape count frames j)
told_pending {log = log} {s = s} knows j is =
    let synced = knows.file.gate_synced in
    let at = knows.gate_is in
    let inside : j ≤ log.gate → is_within s.pending j ≡ true = λ le. elim (or_cases (nat_le (length s.synced) j) (is_within s.pending j) is) [
      | inl past ↦ (let p = leb-true (length s.synced) j past in absurd (omega arith))
      | inr within ↦ within
    ] in
    elim (cases_order j log.gate) [
      | inl here ↦ inr (inl (here, knows.gate_pending (subst (λ k. is_within s.pending k ≡ true) here (inside (omega arith)))))
      | inr (inl below) ↦ inr (inr (knows.file.pending_is_folded j (omega arith) (inside (omega arith))))
      | inr (inr above) ↦ inl above
    ]
