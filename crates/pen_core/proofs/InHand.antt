-- A fold in hand, on a pen's fields: behind begins, ticks of the log, and its own calls.
use Rattle.std.proofs.Common.{◌≡◌, ℕ, ◌+◌, ◌-◌, ◌≤◌, ◌<◌, ◌⊎◌, ◌^◌, true, List, [], ◌∷◌, ◌++◌, length, Option, Some, None, refl, sym, ap, subst, ◌∙◌, arith, inl, inr}
use Rattle.std.specs.List.{AllByRecursion}
use Rattle.std.proofs.lemmas.Bool.{ltb-false}
use Rattle.std.proofs.lemmas.List.{length-append}
use Rattle.disk_core.specs.State.{State, now, settled}
use Rattle.disk_core.specs.Calls.{bytes_of}
use Rattle.segment_core.specs.declared.format.Shape.{Shape}
use Rattle.segment_core.specs.declared.tally.Tally.{Tally}
use Rattle.segment_core.specs.Frame.{Frame, Group, Change, Shrink, frame_text}
use Rattle.segment_core.specs.Frame as kinds
use Rattle.segment_core.specs.Tally.{after, tally_of, MayFollow, AreLegal}
use Rattle.segment_core.proofs.HomesHold.{Appends}
use Rattle.pen_core.specs.declared.fold.Fold.{Fold}
use Rattle.pen_core.specs.declared.fold.Write.{Write}
use Rattle.pen_core.specs.declared.step.PenStep.{PenStep}
use Rattle.pen_core.specs.declared.stage.FoldStage.{FoldStage}
use Rattle.pen_core.specs.declared.stage.FoldStage.TheVariants.{Home, Sync, Ready, Filed}
use Rattle.pen_core.specs.declared.stage.FoldStage.TheVariants as stages
use Rattle.pen_core.specs.Held.{HoldsFrames, gate_of}
use Rattle.pen_core.specs.PenLog.{PenLog, frames_read, vector_read, job_over}
use Rattle.pen_core.specs.Vectors.{frame_at, frames_with}
use Rattle.pen_core.specs.Refusals.{fold_len}
use Rattle.pen_core.specs.InHand.{in_stage, fold_of, left_of, IsPlanned, gate_then, IsUnfiled, frame_in_hand, IsInHand, IsAtStage, HomesAt, stage_ended, live_after, HasFold}
use Rattle.pen_core.specs.Inside.{IsPen}
use Rattle.pen_core.specs.Pen.{open_count}
use Rattle.pen_core.proofs.Folds.{LaidAlike, folding_alike, folding_seen, folding_more}

-- ---- no fold

pub no_fold_at : (keeps : Type 0) (states : List State) (log : PenLog) (fold : Fold)
    → fold.stage ≡ stages.None → HasFold keeps states log fold
no_fold_at keeps states log fold at = record {
  counts = subst (IsAtStage log.shape log.gate log.tally log.bytes log.step fold) (sym at) tt;
  homes = λ model whole.
      subst (HomesAt log.shape (frames_read states log) (vector_read states log) fold (now states)) (sym at) tt;
}

pub fold_len_at : (stage : FoldStage) (fold : Fold) → IsInHand stage → fold.stage ≡ stage → fold_len (fold_of fold) ≡ 14
fold_len_at stages.None fold held at = absurd held
fold_len_at (Home n) fold held at = ap (λ st. fold_len (in_stage st (record { count = fold.count; left = left_of fold; stage = fold.stage }))) at
fold_len_at Sync fold held at = ap (λ st. fold_len (in_stage st (record { count = fold.count; left = left_of fold; stage = fold.stage }))) at
fold_len_at Ready fold held at = ap (λ st. fold_len (in_stage st (record { count = fold.count; left = left_of fold; stage = fold.stage }))) at
fold_len_at Filed fold held at = ap (λ st. fold_len (in_stage st (record { count = fold.count; left = left_of fold; stage = fold.stage }))) at

pub pen_unfolded : {keeps : Type 0} {states : List State} {log : PenLog} {next : Tally} (fold : Fold)
    → fold.stage ≡ stages.None → IsPen 0 keeps states log next
    → IsPen (open_count fold.stage fold.count) keeps states log next
pen_unfolded {keeps} {states} {log} {next} fold at pen =
    subst (λ st. IsPen (open_count st fold.count) keeps states log next) (sym at) pen

pub no_fold_seen : (fold : Fold) → fold.stage ≡ stages.None → fold_of fold ≡ None
no_fold_seen fold at = ap (λ st. in_stage st (record { count = fold.count; left = left_of fold; stage = fold.stage })) at

-- ---- waiting while others commit

planned_further : (gate gate' len : ℕ) (writes : List Write) → gate ≤ gate' → AllByRecursion (IsPlanned gate len) writes
    → AllByRecursion (IsPlanned gate' len) writes
planned_further gate gate' len [] le all = tt
planned_further gate gate' len (w ∷ writes) le all =
    let below = all.0.below_gate in (
      record { some = all.0.some; inside = all.0.inside; below_gate = omega arith },
      planned_further gate gate' len writes le all.1,
    )

module _ (shape : Shape) (gate gate' : ℕ) (tally tally' : Tally) (bytes bytes' : List ℕ) (o o' : Option PenStep) (fold : Fold) where
  waits_on : IsUnfiled shape gate tally bytes o fold → tally'.folded ≡ tally.folded → tally.changes ≤ tally'.changes
      → gate ≤ gate' → gate_then gate' bytes' o' + 14 < 2 ^ 48 → IsUnfiled shape gate' tally' bytes' o' fold
  waits_on waiting folded more further room =
      let live = waiting.live in
      let upto = waiting.upto in
      record {
        live = omega arith;
        upto = omega arith;
        planned = planned_further gate gate' (length fold.bytes.items) fold.writes.items further waiting.planned;
        spelled = waiting.spelled;
        room = room;
      }

  -- what a stage counts, but for a filed one
  pub stage_on : (stage : FoldStage) → IsAtStage shape gate tally bytes o fold stage
      → (stage ≡ Filed → frame_in_hand shape bytes' o' ≡ frame_in_hand shape bytes o) → tally'.folded ≡ tally.folded
      → tally.changes ≤ tally'.changes → gate ≤ gate'
      → (IsInHand stage → (stage ≡ Filed → ⊥) → gate_then gate' bytes' o' + 14 < 2 ^ 48) → IsAtStage shape gate' tally' bytes' o' fold stage
  stage_on stages.None at same folded more further room = tt
  stage_on (Home n) at same folded more further room = (waits_on at.0 folded more further (room tt (λ is. absurd cc)), at.1, at.2)
  stage_on Sync at same folded more further room = (waits_on at.0 folded more further (room tt (λ is. absurd cc)), at.1)
  stage_on Ready at same folded more further room = (waits_on at.0 folded more further (room tt (λ is. absurd cc)), at.1)
  stage_on Filed at same folded more further room = (same refl ∙ at.0, at.1)

-- the room that a waiting fold has
pub room_of : (shape : Shape) (gate : ℕ) (tally : Tally) (bytes : List ℕ) (o : Option PenStep) (fold : Fold) (stage : FoldStage)
    → IsAtStage shape gate tally bytes o fold stage → IsInHand stage → (stage ≡ Filed → ⊥)
    → IsUnfiled shape gate tally bytes o fold
room_of shape gate tally bytes o fold stages.None at held unfiled = absurd held
room_of shape gate tally bytes o fold (Home n) at held unfiled = at.0
room_of shape gate tally bytes o fold Sync at held unfiled = at.0
room_of shape gate tally bytes o fold Ready at held unfiled = at.0
room_of shape gate tally bytes o fold Filed at held unfiled = absurd (unfiled refl)

pub filed_at : (shape : Shape) (gate : ℕ) (tally : Tally) (bytes : List ℕ) (o : Option PenStep) (fold : Fold)
    → IsAtStage shape gate tally bytes o fold fold.stage → fold.stage ≡ Filed
    → frame_in_hand shape bytes o ≡ Some (kinds.Fold fold.count)
filed_at shape gate tally bytes o fold at is = (subst (IsAtStage shape gate tally bytes o fold) is at).0

-- ---- a job is begun

pub fold_begun : {keeps : Type 0} {states : List State} {log : PenLog} {bytes : List ℕ} {fold : Fold} {step : PenStep}
    → HasFold keeps states log fold → (f : Frame) → log.step ≡ None
    → bytes ≡ frame_text log.shape.format f ++ 0 ∷ []
    → log.gate + length (frame_text log.shape.format f) + fold_len (fold_of fold) < 2 ^ 48
    → HasFold keeps states (record log { bytes = bytes; step = Some step }) fold
fold_begun {keeps} {states} {log} {bytes} {fold} {step} is f idle spelled room =
    let unfiled : fold.stage ≡ Filed → ⊥ =
    λ filed.
    (let clash : None ≡ Some (kinds.Fold fold.count) = sym (ap (frame_in_hand log.shape log.bytes) idle)
    ∙ filed_at log.shape log.gate log.tally log.bytes log.step fold is.counts filed in
    absurd cc) in
    let long = ap length spelled ∙ length-append (frame_text log.shape.format f) (0 ∷ []) in
    record {
      counts =
          stage_on log.shape log.gate log.gate log.tally log.tally log.bytes bytes log.step (Some step) fold fold.stage is.counts
          (λ filed. absurd (unfiled filed)) refl (omega arith) (omega arith)
          (λ held out. let len = fold_len_at fold.stage fold held refl in omega arith);
      homes = is.homes;
    }

-- no job is in hand: its bytes may be others
pub fold_same : {keeps : Type 0} {states : List State} {log : PenLog} {fold : Fold} → HasFold keeps states log fold
    → log.step ≡ None → (bytes : List ℕ) → HasFold keeps states (record log { bytes = bytes }) fold
fold_same {keeps} {states} {log} {fold} is idle bytes =
    let none : (bs : List ℕ) → frame_in_hand log.shape bs log.step ≡ None = λ bs. ap (frame_in_hand log.shape bs) idle in
    record {
      counts =
          stage_on log.shape log.gate log.gate log.tally log.tally log.bytes bytes log.step log.step fold fold.stage is.counts
          (λ filed. none bytes ∙ sym (none log.bytes)) refl (omega arith) (omega arith)
          (λ held out.
          let w = (room_of log.shape log.gate log.tally log.bytes log.step fold fold.stage is.counts held out).room in
          subst (λ g. g + 14 < 2 ^ 48) (ap (gate_then log.gate log.bytes) idle ∙ sym (ap (gate_then log.gate bytes) idle)) w);
      homes = is.homes;
    }

-- ---- a tick of the log

homes_alike : (shape : Shape) (fs : List Frame) (vector : List (List ℕ)) (fold : Fold) (s t : State) (stage : FoldStage)
    → AreLegal shape fs → LaidAlike (gate_of shape fs) s.seen t.seen → HomesAt shape fs vector fold s stage
    → HomesAt shape fs vector fold t stage
homes_alike shape fs vector fold s t stages.None legal same at = tt
homes_alike shape fs vector fold s t (Home n) legal same at = folding_alike shape fold.count fs vector (left_of fold) s t legal same at
homes_alike shape fs vector fold s t Sync legal same at = folding_alike shape fold.count fs vector (left_of fold) s t legal same at
homes_alike shape fs vector fold s t Ready legal same at = folding_alike shape fold.count fs vector (left_of fold) s t legal same at
homes_alike shape fs vector fold s t Filed legal same at = tt

homes_more : (shape : Shape) (fs : List Frame) (f : Frame) (vector then : List (List ℕ)) (fold : Fold) (s : State)
    (stage : FoldStage)
    → HoldsFrames shape fs vector s.seen → HoldsFrames shape (frames_with fs f) then s.seen
    → (IsInHand stage → (stage ≡ Filed → ⊥)
    → Appends f × ((tally_of fs).folded ≤ fold.count) × (fold.count ≤ (tally_of fs).changes))
    → HomesAt shape fs vector fold s stage → HomesAt shape (frames_with fs f) then fold s stage
homes_more shape fs f vector then fold s stages.None has more fits at = tt
homes_more shape fs f vector then fold s (Home n) has more fits at =
    let b = fits tt (λ is. absurd cc) in
    folding_more shape fold.count fs f vector then (left_of fold) s has more b.0 b.1 b.2 at
homes_more shape fs f vector then fold s Sync has more fits at =
    let b = fits tt (λ is. absurd cc) in
    folding_more shape fold.count fs f vector then (left_of fold) s has more b.0 b.1 b.2 at
homes_more shape fs f vector then fold s Ready has more fits at =
    let b = fits tt (λ is. absurd cc) in
    folding_more shape fold.count fs f vector then (left_of fold) s has more b.0 b.1 b.2 at
homes_more shape fs f vector then fold s Filed has more fits at = tt

-- a frame that may follow while a change below the count is live
appends_live : (tally : Tally) (f : Frame) → MayFollow tally f → ((c : ℕ) → f ≡ kinds.Fold c → ⊥) → tally.folded < tally.changes → Appends f
appends_live tally (Group lengths bytes) may no_fold live = tt
appends_live tally (Change runs bytes) may no_fold live = tt
appends_live tally (Shrink n) may no_fold live = let below = ltb-false tally.folded tally.changes may.folded in absurd (omega arith)
appends_live tally (kinds.Fold c) may no_fold live = absurd (no_fold c refl)

more_changes : (tally : Tally) (f : Frame) → tally.changes ≤ (after tally f).changes
more_changes tally (Group lengths bytes) = omega arith
more_changes tally (Change runs bytes) = omega arith
more_changes tally (Shrink n) = omega arith
more_changes tally (kinds.Fold c) = omega arith

same_folded : (tally : Tally) (f : Frame) → ((c : ℕ) → f ≡ kinds.Fold c → ⊥) → (after tally f).folded ≡ tally.folded
same_folded tally (Group lengths bytes) no_fold = refl
same_folded tally (Change runs bytes) no_fold = refl
same_folded tally (Shrink n) no_fold = refl
same_folded tally (kinds.Fold c) no_fold = absurd (no_fold c refl)

module _ {keeps keeps' : Type 0} {states : List State} {log : PenLog} {fold : Fold} (is : HasFold keeps states log fold)
    (back : keeps' → keeps) (new : List State) where
  abbrev fs : List Frame
  fs = frames_read states log

  abbrev vector : List (List ℕ)
  vector = vector_read states log

  abbrev frame : Frame
  frame = frame_at log.shape log.bytes

  -- the room that a fold has which waits while a step of the job is next
  room_then : (step : PenStep) → log.step ≡ Some step → IsInHand fold.stage → (fold.stage ≡ Filed → ⊥)
      → gate_then log.gate log.bytes (Some step) + 14 < 2 ^ 48
  room_then step at held out =
      subst (λ g. g + 14 < 2 ^ 48) (ap (gate_then log.gate log.bytes) at)
      (room_of log.shape log.gate log.tally log.bytes log.step fold fold.stage is.counts held out).room

  -- a step of the job's calls
  pub fold_stays : (step behind : PenStep) → log.step ≡ Some step → (keeps' → AreLegal log.shape fs)
      → (keeps' → LaidAlike (gate_of log.shape fs) (bytes_of states) (bytes_of new))
      → (keeps' → frames_read new log ≡ fs) → (keeps' → vector_read new log ≡ vector)
      → HasFold keeps' new (record log { step = Some behind }) fold
  fold_stays step behind at legal same frames_same vector_same =
      let there : frame_in_hand log.shape log.bytes (Some behind) ≡ frame_in_hand log.shape log.bytes log.step =
      sym (ap (frame_in_hand log.shape log.bytes) at) in
      record {
        counts =
            stage_on log.shape log.gate log.gate log.tally log.tally log.bytes log.bytes log.step (Some behind) fold fold.stage
            is.counts (λ filed. there) refl (omega arith) (omega arith) (room_then step at);
        homes = λ model whole.
            subst (λ gs. HomesAt log.shape gs (vector_read new log) fold (now new) fold.stage) (sym (frames_same model))
            (subst (λ v. HomesAt log.shape fs v fold (now new) fold.stage) (sym (vector_same model))
            (homes_alike log.shape fs vector fold (now states) (now new) fold.stage (legal model) (same model)
            (is.homes (back model) whole)));
      }

  -- one that failed
  pub fold_broken : HasFold keeps' new (record log { broken = true }) fold
  fold_broken = record { counts = is.counts; homes = λ model whole. absurd cc }

  -- the job is done, and isn't the fold's own
  module _ (gate : ℕ) (step : PenStep) (at : log.step ≡ Some step) (next : Tally) (may : MayFollow log.tally frame)
      (next_is : next ≡ after log.tally frame) (moved : gate ≡ log.gate + (length log.bytes - 1))
      (unfiled : fold.stage ≡ Filed → ⊥) (no_fold : (c : ℕ) → frame ≡ kinds.Fold c → ⊥) where
    pub fold_done : (then : List (List ℕ)) (tally_is : keeps → log.tally ≡ tally_of fs)
        → (keeps' → HoldsFrames log.shape fs vector (bytes_of states))
        → (keeps' → HoldsFrames log.shape (frames_with fs frame) then (bytes_of states))
        → (keeps' → now new ≡ settled (bytes_of states))
        → (keeps' → frames_read new (job_over log gate next) ≡ frames_with fs frame)
        → (keeps' → vector_read new (job_over log gate next) ≡ then) → HasFold keeps' new (job_over log gate next) fold
    fold_done then tally_is has more settles frames_are vector_is = record {
      counts =
          stage_on log.shape log.gate gate log.tally next log.bytes log.bytes log.step None fold fold.stage is.counts
          (λ filed. absurd (unfiled filed))
          (ap (λ t. t.folded) next_is ∙ same_folded log.tally frame no_fold)
          (subst (λ t. log.tally.changes ≤ t.changes) (sym next_is) (more_changes log.tally frame)) (omega arith)
          (λ held out. let w = room_then step at held out in omega arith);
      homes = λ model whole. (
          let m = back model in
          let made = homes_more log.shape fs frame vector then fold (now states) fold.stage (has model) (more model)
          (λ held out. (
          let w = room_of log.shape log.gate log.tally log.bytes log.step fold fold.stage is.counts held out in
          let live = w.live in
          let upto = w.upto in (
            appends_live log.tally frame may no_fold (omega arith),
            subst (λ t. t.folded ≤ fold.count) (tally_is m) (omega arith),
            subst (λ t. fold.count ≤ t.changes) (tally_is m) (omega arith),
          )))
          (is.homes m whole) in
          let seen : (now states).seen ≡ (now new).seen = sym (ap (λ s. s.seen) (settles model)) in
          subst (λ gs. HomesAt log.shape gs (vector_read new (job_over log gate next)) fold (now new) fold.stage) (sym (frames_are model))
          (subst (λ v. HomesAt log.shape (frames_with fs frame) v fold (now new) fold.stage) (sym (vector_is model))
          (homes_seen log.shape (frames_with fs frame) then fold (now states) (now new) fold.stage seen made)));
    }
      where
        homes_seen : (shape : Shape) (gs : List Frame) (v : List (List ℕ)) (fold : Fold) (s t : State) (stage : FoldStage)
            → s.seen ≡ t.seen → HomesAt shape gs v fold s stage → HomesAt shape gs v fold t stage
        homes_seen shape gs v fold s t stages.None seen at = tt
        homes_seen shape gs v fold s t (Home n) seen at = folding_seen shape fold.count gs v (left_of fold) s t seen at
        homes_seen shape gs v fold s t Sync seen at = folding_seen shape fold.count gs v (left_of fold) s t seen at
        homes_seen shape gs v fold s t Ready seen at = folding_seen shape fold.count gs v (left_of fold) s t seen at
        homes_seen shape gs v fold s t Filed seen at = tt

-- ---- the end of a fold

pub is_filed : (stage : FoldStage) → (stage ≡ Filed) ⊎ (stage ≡ Filed → ⊥)
is_filed stages.None = inr (λ is. absurd cc)
is_filed (Home n) = inr (λ is. absurd cc)
is_filed Sync = inr (λ is. absurd cc)
is_filed Ready = inr (λ is. absurd cc)
is_filed Filed = inl refl

pub live_kept : (stage : FoldStage) (runs : ℕ) (live : List (ℕ × ℕ)) → (stage ≡ Filed → ⊥) → live_after stage runs live ≡ live
live_kept stages.None runs live unfiled = refl
live_kept (Home n) runs live unfiled = refl
live_kept Sync runs live unfiled = refl
live_kept Ready runs live unfiled = refl
live_kept Filed runs live unfiled = absurd (unfiled refl)

-- nothing more is pending
pub open_ended : (fold fold' : Fold) → fold'.stage ≡ stage_ended fold.stage → ((fold.stage ≡ Filed → ⊥) → fold' ≡ fold)
    → open_count fold.stage fold.count ≡ open_count fold'.stage fold'.count
open_ended fold fold' ended same = elim (is_filed fold.stage) [
  | inl filed ↦ ap (λ st. open_count st fold.count) filed ∙ sym (ap (λ st. open_count st fold'.count) (ended ∙ ap stage_ended filed))
  | inr unfiled ↦ sym (ap (λ f. open_count f.stage f.count) (same unfiled))
]
