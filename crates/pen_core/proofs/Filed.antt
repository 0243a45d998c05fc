-- The frame of a fold becomes the job.
use Rattle.std.proofs.Common.{◌≡◌, ℕ, ◌+◌, ◌-◌, ◌^◌, ◌≤◌, ◌<◌, false, List, [], ◌∷◌, ◌++◌, length, map, take, drop, Some, None, refl, sym, ap, subst, ◌∙◌, arith}
use Rattle.std.specs.Prelude.{nat_lt}
use Rattle.std.proofs.lemmas.Bool.{le-ltb}
use Rattle.std.proofs.lemmas.List.{length-append}
use Rattle.disk_core.specs.State.{State, now, IsImage}
use Rattle.disk_core.specs.Calls.{bytes_of}
use Rattle.segment_core.specs.declared.format.Format.{Format}
use Rattle.segment_core.specs.declared.format.Format.TheVariants.{One, Two}
use Rattle.segment_core.specs.declared.tally.Tally.{Tally}
use Rattle.segment_core.specs.Shape.{limit_of}
use Rattle.segment_core.specs.Frame.{Frame, frame_text}
use Rattle.segment_core.specs.Frame as kinds
use Rattle.segment_core.specs.Layout.{IsFrame}
use Rattle.std.specs.List.{flat_map}
use Rattle.segment_core.specs.Found.{pairs_of, live_of}
use Rattle.segment_core.specs.Tally.{after, is_miscounted, MayFollow}
use Rattle.segment_core.specs.Raw.{raw, after_frame}
use Rattle.segment_core.specs.Folding.{HomesHold}
use Rattle.pen_core.specs.declared.pen.Pen.TheInside.{Inside}
use Rattle.pen_core.specs.Fields.{log_of, IsSoundPen}
use Rattle.pen_core.specs.declared.step.PenStep.TheVariants.{Body}
use Rattle.pen_core.specs.declared.stage.FoldStage.TheVariants.{Ready, Filed}
use Rattle.pen_core.specs.Step.{body_of}
use Rattle.pen_core.specs.PenLog.{PenLog, frames_read, vector_read}
use Rattle.pen_core.specs.Vectors.{frame_at, frames_with}
use Rattle.pen_core.specs.Folds.{laid, IsFolding}
use Rattle.pen_core.specs.InHand.{left_of, write_of, IsUnfiled, gate_then, frame_in_hand, IsInHand, IsAtStage, HomesAt, HasFold}
use Rattle.pen_core.specs.Inside.{IsBodyOf, IsAtStep, Knows, IsPen}
use Rattle.pen_core.specs.Listed.{Lists, HasLists}
use Rattle.pen_core.specs.Pen.{open_count}
use Rattle.pen_core.proofs.Begun.{body_is, nothing_folded}
use Rattle.pen_core.proofs.Parsed.{frame_at-text}
use Rattle.pen_core.proofs.Pens.{knows_at}

some_limit : (format : Format) → 8 ≤ limit_of format
some_limit One = omega arith
some_limit Two = omega arith

drop_whole : {A : Type 0} (xs : List A) (n : ℕ) → n ≡ length xs → drop n xs ≡ []
drop_whole [] n is = ap (λ k. drop k []) is
drop_whole (x ∷ xs) n is = ap (λ k. drop k (x ∷ xs)) is ∙ drop_whole xs (length xs) refl

-- What a tick knows that makes the frame of a fold the job: then the pen has the frame's bytes, and that fold. Each disk
-- that keeps the model reads as an image.
pub record Files {D : Type 0} (keeps : D → Type 0) (states : D → List State) (pen then : Inside D) : Type 0 where
  pub sound : IsSoundPen keeps states pen
  pub going : pen.broken ≡ false
  pub idle : pen.step ≡ None
  pub ready : pen.fold.stage ≡ Ready
  pub reads : (disk : D) → keeps disk → IsImage (now (states disk)) (bytes_of (states disk))
  pub swapped : then.bytes.items ≡ pen.fold.frame.items
  pub filed : then.fold.stage ≡ Filed
  pub count_same : then.fold.count ≡ pen.fold.count
  pub runs_same : then.fold.runs ≡ pen.fold.runs
  pub writes_same : then.fold.writes ≡ pen.fold.writes
  pub done_same : then.fold.done ≡ pen.fold.done

module _ {D : Type 0} {keeps : D → Type 0} {states : D → List State} {pen then : Inside D} (files : Files keeps states pen then) where
  abbrev old : List State
  old = states pen.disk

  abbrev frames : List Frame
  frames = frames_read old (log_of pen)

  abbrev vector : List (List ℕ)
  vector = vector_read old (log_of pen)

  -- then
  abbrev log : PenLog
  log = record (log_of pen) { bytes = then.bytes.items; step = Some Body }

  abbrev f : Frame
  f = kinds.Fold pen.fold.count

  abbrev next' : Tally
  next' = record { size = pen.tally.size; changes = pen.tally.changes; folded = pen.fold.count }

  at_ready : IsUnfiled pen.shape pen.gate pen.tally pen.bytes.items pen.step pen.fold × (pen.fold.done ≡ length pen.fold.writes.items)
  at_ready = subst (IsAtStage pen.shape pen.gate pen.tally pen.bytes.items pen.step pen.fold) files.ready files.sound.fold.counts

  waiting : IsUnfiled pen.shape pen.gate pen.tally pen.bytes.items pen.step pen.fold
  waiting = at_ready.0

  spelled : then.bytes.items ≡ frame_text pen.shape.format f ++ 0 ∷ []
  spelled = files.swapped ∙ waiting.spelled

  framed : IsFrame pen.shape f
  framed =
      let fits = files.sound.job.changes_fit in
      let small = files.sound.job.gate_fits in
      let upto = waiting.upto in
      record { wide = omega (arith, files.sound.job.wide.0); small = some_limit pen.shape.format; layout = omega arith }

  follows : MayFollow pen.tally f
  follows =
      let live = waiting.live in
      let upto = waiting.upto in
      let low = le-ltb pen.fold.count pen.tally.folded (omega arith) in
      let high = le-ltb pen.tally.changes pen.fold.count (omega arith) in
      record { ordered = refl; inside = refl; folded = refl; counted = both low high; short = refl }
    where
      both : nat_lt pen.fold.count pen.tally.folded ≡ false → nat_lt pen.tally.changes pen.fold.count ≡ false
          → is_miscounted pen.tally (kinds.Fold pen.fold.count) ≡ false
      both low high = cc

  pub filed_frame : frame_at pen.shape then.bytes.items ≡ f
  filed_frame = ap (frame_at pen.shape) spelled ∙ frame_at-text pen.shape f (0 ∷ []) framed

  knows : keeps pen.disk → Knows 0 (record (log_of pen) { step = None }) frames vector (now old)
  knows model =
      subst (λ step. Knows 0 (record (log_of pen) { step = step }) frames vector (now old)) files.idle
      (subst (λ st. Knows (open_count st pen.fold.count) (log_of pen) frames vector (now old)) files.ready (files.sound.job.knows model))

  -- the homes are on the disk
  held : (model : keeps pen.disk) → HomesHold pen.shape.format (raw pen.shape.width) (bytes_of old) frames pen.fold.count vector
  held model =
      let homes_are : IsFolding pen.shape pen.fold.count frames vector (left_of pen.fold) (now old) =
      subst (HomesAt pen.shape frames vector pen.fold (now old)) files.ready
      (files.sound.fold.homes model files.going) in
      let none : left_of pen.fold ≡ [] = ap (map (write_of pen.fold.bytes.items)) (drop_whole pen.fold.writes.items pen.fold.done at_ready.1) in
      subst (λ left. HomesHold pen.shape.format (raw pen.shape.width) (laid left (bytes_of old)) frames pen.fold.count vector) none homes_are.homes_hold

  at_body : (model : keeps pen.disk)
      → IsAtStep pen.shape 0 pen.gate frames (frames_with frames (frame_at pen.shape then.bytes.items))
      (after_frame pen.shape.width vector (frame_at pen.shape then.bytes.items)) then.bytes.items Body (now old)
  at_body model =
      let k = knows model in
      let s = now old in
      let there = files.reads pen.disk model in
      let made =
      body_is 0 pen.shape frames vector s f k.file.holds (omega (arith, k.file.gate_synced, there.no_shorter)) framed
      (subst (λ t. MayFollow t f) k.tally_is follows)
      (λ count is. subst (λ n. HomesHold pen.shape.format (raw pen.shape.width) s.seen frames n vector) (same_count count is) (held model))
      (λ j lt pending. absurd (nothing_folded pen.shape frames j (k.file.pending_is_folded j lt pending))) in
      subst (λ g. IsAtStep pen.shape 0 pen.gate frames (frames_with frames g) (after_frame pen.shape.width vector g) then.bytes.items Body s) (sym filed_frame)
      (subst (λ bs. IsAtStep pen.shape 0 pen.gate frames (frames_with frames f) (after_frame pen.shape.width vector f) bs Body s) (sym spelled) (
        k.stands files.going,
        subst
            (λ g.
            IsBodyOf pen.shape 0 g frames (frames_with frames f) (after_frame pen.shape.width vector f)
            (body_of (frame_text pen.shape.format f ++ 0 ∷ [])) s)
            (sym k.gate_is) made,
      ))
    where
      same_count : (count : ℕ) → kinds.Fold pen.fold.count ≡ kinds.Fold count → pen.fold.count ≡ count
      same_count count is = cc

  room : pen.gate + 14 < 2 ^ 48
  room = subst (λ g. g + 14 < 2 ^ 48) (ap (gate_then pen.gate pen.bytes.items) files.idle) waiting.room

  filed_job : IsPen (open_count then.fold.stage then.fold.count) (keeps pen.disk) old log next'
  filed_job =
      subst (λ st. IsPen (open_count st then.fold.count) (keeps pen.disk) old log next') (sym files.filed) (record {
        wide = files.sound.job.wide;
        gate_fits = files.sound.job.gate_fits;
        size_fits = files.sound.job.size_fits;
        changes_fit = files.sound.job.changes_fit;
        folded_counted = files.sound.job.folded_counted;
        job = record {
          spelled = subst (λ g. then.bytes.items ≡ frame_text pen.shape.format g ++ 0 ∷ []) (sym filed_frame) spelled;
          whole = subst (IsFrame pen.shape) (sym filed_frame) framed;
          may_follow = subst (MayFollow pen.tally) (sym filed_frame) follows;
          next_is = subst (λ g. next' ≡ after pen.tally g) (sym filed_frame) refl;
          fits = let all = ap length spelled ∙ length-append (frame_text pen.shape.format f) (0 ∷ []) in let below = room in omega arith;
        };
        knows =
            λ model. let k = knows model in
            knows_at log frames vector (now old) k.gate_is k.tally_is Body k.file (at_body model) (files.reads pen.disk model);
      })

  filed_fold : HasFold (keeps pen.disk) old log then.fold
  filed_fold = record {
    counts =
        subst (IsAtStage pen.shape pen.gate pen.tally then.bytes.items (Some Body) then.fold) (sym files.filed) (
          ap (λ g. Some g) filed_frame ∙ ap (λ n. Some (kinds.Fold n)) (sym files.count_same),
          files.done_same ∙ at_ready.1 ∙ sym (ap (λ ws. length ws.items) files.writes_same),
        );
    homes = λ model whole'. subst (HomesAt pen.shape frames vector then.fold (now old)) (sym files.filed) tt;
  }

  filed_lists : HasLists (keeps pen.disk) old log pen.homes pen.live then.fold
  filed_lists =
      let ahead : Some f ≡ frame_in_hand pen.shape then.bytes.items (Some Body) = sym (ap (λ g. Some g) filed_frame) in
      let rests : Lists pen.shape files.sound.lists.frames None pen.homes pen.live =
      subst
      (λ step.
      Lists pen.shape files.sound.lists.frames (frame_in_hand pen.shape pen.bytes.items step) pen.homes pen.live)
      files.idle files.sound.lists.lists in
      record {
        frames = files.sound.lists.frames;
        legal = files.sound.lists.legal;
        gate_is = files.sound.lists.gate_is;
        tally_is = files.sound.lists.tally_is;
        lists =
            subst (λ g. Lists pen.shape files.sound.lists.frames g pen.homes pen.live) ahead
            (record {
              told = rests.told;
              are_homes = rests.are_homes;
              homes_are = rests.homes_are;
              live_is = rests.live_is;
              counted = rests.counted;
            });
        filed = λ count is. (files.filed, same_count count (ahead ∙ is) ∙ sym files.count_same);
        runs_are =
            λ held. files.runs_same ∙ files.sound.lists.runs_are (subst IsInHand (sym files.ready) tt)
            ∙ ap
            (λ n. length (flat_map pairs_of (take (n - pen.tally.folded) (live_of pen.shape files.sound.lists.frames))))
            (sym files.count_same);
        same = files.sound.lists.same;
      }
    where
      same_count : (count : ℕ) → Some (kinds.Fold pen.fold.count) ≡ Some (kinds.Fold count) → count ≡ pen.fold.count
      same_count count is = cc

  -- the frame is the job
  pub pen_filed : IsSoundPen keeps states (record pen { next = next'; bytes = then.bytes; step = Some Body; fold = then.fold })
  pen_filed = record { job = filed_job; lists = filed_lists; fold = filed_fold }
