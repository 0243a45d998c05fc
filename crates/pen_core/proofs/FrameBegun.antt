-- A job is begun: its frame is in hand, and nothing of it is written yet.
use Rattle.std.proofs.Common.{◌≡◌, ℕ, ◌+◌, ◌^◌, ◌<◌, false, List, [], ◌∷◌, ◌++◌, length, Some, None, refl, sym, ap, subst, ◌∙◌, arith}
use Rattle.std.proofs.lemmas.List.{length-append}
use Rattle.disk_core.specs.State.{State, now, IsImage}
use Rattle.disk_core.specs.Calls.{bytes_of}
use Rattle.segment_core.specs.Frame.{Frame, Fold, frame_text}
use Rattle.segment_core.specs.Layout.{IsFrame}
use Rattle.segment_core.specs.Tally.{after, MayFollow}
use Rattle.pen_core.specs.declared.step.PenStep.TheVariants.{Body}
use Rattle.pen_core.specs.Step.{body_of}
use Rattle.pen_core.specs.PenLog.{PenLog, frames_read, vector_read}
use Rattle.pen_core.specs.Vectors.{frame_at, frames_with}
use Rattle.segment_core.specs.Raw.{after_frame}
use Rattle.pen_core.specs.Inside.{IsBodyOf, IsAtStep, Knows, IsPen}
use Rattle.pen_core.proofs.BeingFolded.{IsBeingFolded_push}
use Rattle.pen_core.proofs.Parsed.{frame_at-text}
use Rattle.pen_core.proofs.Pens.{knows_at}
use Rattle.pen_core.specs.declared.pen.Pen.TheInside.{Inside}
use Rattle.pen_core.specs.Fields.{log_of, seen_as, count_open, IsSoundPen}
use Rattle.pen_core.specs.InHand.{fold_of}
use Rattle.pen_core.specs.Listed.{homes_entered, runs_entered}
use Rattle.pen_core.specs.Pen.{BeginsFrame, IsUnchanged}
use Rattle.pen_core.specs.PenOf.{PenOf}
use Rattle.pen_core.specs.Refusals.{fold_len}
use Rattle.pen_core.proofs.Begins.{no_job_same}
use Rattle.pen_core.proofs.Begun.{body_is, held_legal}
use Rattle.pen_core.proofs.InHand.{fold_begun}
use Rattle.pen_core.proofs.Listed.{listed_begun}

-- What a begin rests on: then the pen has the frame's bytes, and lists that tell of it. Each disk that keeps the model
-- reads as an image.
pub record Begins {D : Type 0} (keeps : D → Type 0) (states : D → List State) (pen then : Inside D) (frame : Frame) : Type 0 where
  pub sound : IsSoundPen keeps states pen
  pub going : pen.broken ≡ false
  pub idle : pen.step ≡ None
  pub reads : (disk : D) → keeps disk → IsImage (now (states disk)) (bytes_of (states disk))
  pub spelled : then.bytes.items ≡ frame_text pen.shape.format frame ++ 0 ∷ []
  pub framed : IsFrame pen.shape frame
  pub follows : MayFollow pen.tally frame
  pub counted : then.next ≡ after pen.tally frame
  pub no_fold : (count : ℕ) → frame ≡ Fold count → ⊥
  pub room : pen.gate + length (frame_text pen.shape.format frame) + fold_len (fold_of pen.fold) < 2 ^ 48
  pub homes_more : then.homes.homes.items ≡ pen.homes.homes.items ++ homes_entered pen.gate pen.tally.size frame
  pub runs_more : then.homes.live.items ≡ pen.homes.live.items ++ runs_entered frame

module _ {D : Type 0} {keeps : D → Type 0} {states : D → List State} {pen then : Inside D} {frame : Frame} (begins : Begins keeps states pen then frame) where
  abbrev old : List State
  old = states pen.disk

  abbrev frames : List Frame
  frames = frames_read old (log_of pen)

  abbrev vector : List (List ℕ)
  vector = vector_read old (log_of pen)

  -- then
  abbrev log : PenLog
  log = record (log_of pen) { bytes = then.bytes.items; step = Some Body }

  pub begun_frame : frame_at pen.shape then.bytes.items ≡ frame
  begun_frame = ap (frame_at pen.shape) begins.spelled ∙ frame_at-text pen.shape frame (0 ∷ []) begins.framed

  knows : keeps pen.disk → Knows (count_open pen) (record (log_of pen) { step = None }) frames vector (now old)
  knows model =
      subst (λ step. Knows (count_open pen) (record (log_of pen) { step = step }) frames vector (now old)) begins.idle
      (begins.sound.job.knows model)

  at_body : (model : keeps pen.disk)
      → IsAtStep pen.shape (count_open pen) pen.gate frames (frames_with frames (frame_at pen.shape then.bytes.items))
      (after_frame pen.shape.width vector (frame_at pen.shape then.bytes.items)) then.bytes.items Body (now old)
  at_body model =
      let k = knows model in
      let s = now old in
      let there = begins.reads pen.disk model in
      let made =
      body_is (count_open pen) pen.shape frames vector s frame k.file.holds (omega (arith, k.file.gate_synced, there.no_shorter)) begins.framed
      (subst (λ t. MayFollow t frame) k.tally_is begins.follows) (λ fold is. absurd (begins.no_fold fold is))
      (λ j lt pending.
      IsBeingFolded_push pen.shape (count_open pen) frames frame j (held_legal pen.shape frames vector (now old).seen k.file.holds) begins.no_fold
      (k.file.pending_is_folded j lt pending)) in
      subst (λ g. IsAtStep pen.shape (count_open pen) pen.gate frames (frames_with frames g) (after_frame pen.shape.width vector g) then.bytes.items Body s) (sym begun_frame)
      (subst (λ bs. IsAtStep pen.shape (count_open pen) pen.gate frames (frames_with frames frame) (after_frame pen.shape.width vector frame) bs Body s) (sym begins.spelled) (
        k.stands begins.going,
        subst
            (λ g.
            IsBodyOf pen.shape (count_open pen) g frames (frames_with frames frame) (after_frame pen.shape.width vector frame)
            (body_of (frame_text pen.shape.format frame ++ 0 ∷ [])) s)
            (sym k.gate_is) made,
      ))

  begun_job : IsPen (count_open pen) (keeps pen.disk) old log then.next
  begun_job = record {
    wide = begins.sound.job.wide;
    gate_fits = begins.sound.job.gate_fits;
    size_fits = begins.sound.job.size_fits;
    changes_fit = begins.sound.job.changes_fit;
    folded_counted = begins.sound.job.folded_counted;
    job = record {
      spelled = subst (λ g. then.bytes.items ≡ frame_text pen.shape.format g ++ 0 ∷ []) (sym begun_frame) begins.spelled;
      whole = subst (IsFrame pen.shape) (sym begun_frame) begins.framed;
      may_follow = subst (MayFollow pen.tally) (sym begun_frame) begins.follows;
      next_is = subst (λ g. then.next ≡ after pen.tally g) (sym begun_frame) begins.counted;
      fits =
          let all = ap length begins.spelled ∙ length-append (frame_text pen.shape.format frame) (0 ∷ []) in
          let room = begins.room in
          omega arith;
    };
    knows =
        λ model. let k = knows model in
        knows_at log frames vector (now old) k.gate_is k.tally_is Body k.file (at_body model)
        (begins.reads pen.disk model);
  }

  -- the frame is in hand
  pub pen_begun : IsSoundPen keeps states (record pen { next = then.next; bytes = then.bytes; step = Some Body; homes = then.homes })
  pen_begun = record {
    job = begun_job;
    lists = listed_begun begins.sound.lists begins.idle then.bytes.items then.homes frame Body begun_frame begins.no_fold
        begins.homes_more begins.runs_more;
    fold = fold_begun begins.sound.fold frame begins.idle begins.spelled begins.room;
  }

  pub begun_seen : BeginsFrame frame (seen_as states pen)
      (seen_as states (record pen { next = then.next; bytes = then.bytes; step = Some Body; homes = then.homes }))
  begun_seen = record {
    job_is = ap (λ f. Some (record { frame = f; step = Body })) begun_frame;
    disk_same = refl;
    file_same = record { frames_same = refl; vector_same = refl };
    broken_same = refl;
    shape_same = refl;
    fold_same = refl;
    tally_same = refl;
    gate_same = refl;
  }

-- the same of the pen that a caller sees
pub begun_as : {D : Type 0} {frame : Frame} {old new seen : PenOf D} → seen ≡ old → BeginsFrame frame seen new → BeginsFrame frame old new
begun_as {D} {frame} {old} {new} is begun = subst (λ pen. BeginsFrame frame pen new) is begun

pub unchanged_as : {D : Type 0} {old new seen : PenOf D} → seen ≡ old → IsUnchanged seen new → IsUnchanged old new
unchanged_as {D} {old} {new} is unchanged = subst (λ pen. IsUnchanged pen new) is unchanged

-- no job is in hand: the memory for one has grown, and holds other bytes
pub unchanged_seen : {D : Type 0} (states : D → List State) (pen then : Inside D) → pen.step ≡ None
    → IsUnchanged (seen_as states pen) (seen_as states (record pen { bytes = then.bytes; homes = then.homes }))
unchanged_seen states pen then idle = record {
  disk_same = refl;
  file_same = record { frames_same = refl; vector_same = refl };
  job_same = no_job_same pen.shape pen.bytes.items then.bytes.items pen.step idle;
  broken_same = refl;
  shape_same = refl;
  fold_same = refl;
  tally_same = refl;
  gate_same = refl;
}
