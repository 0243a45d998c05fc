-- The lists that a pen keeps of its file: of a new file, with a job entered, and once the job is done.
use Rattle.std.proofs.Common.{◌≡◌, ℕ, ◌+◌, ◌-◌, ◌*◌, ◌≤◌, ◌<◌, Bool, List, [], ◌∷◌, ◌++◌, length, map, take, drop, sum, Option, Some, None, refl, sym, ap, subst, ◌∙◌, arith}
use Rattle.std.specs.List.{flat_map}
use Rattle.std.proofs.lemmas.Bool.{ltb-false}
use Rattle.std.proofs.lemmas.Option.{none-some}
use Rattle.std.proofs.lemmas.List.{append-nil, length-append, length-drop, length-map, map_push, flat_map_more, take-append-le, take-append-drop, drop_at}
use Rattle.disk_core.specs.State.{State}
use Rattle.record_core.specs.Bytes.{Encoding}
use Rattle.segment_core.specs.declared.format.Shape.{Shape}
use Rattle.segment_core.specs.declared.found.Home.{Home}
use Rattle.segment_core.specs.declared.found.Homes.{Homes}
use Rattle.segment_core.specs.declared.tally.Tally.{Tally}
use Rattle.segment_core.specs.Frame.{Frame, Group, Change, Shrink, Fold, frame_text, text}
use Rattle.segment_core.specs.Tally.{nothing, after, tally_of, MayFollow}
use Rattle.segment_core.specs.Blanked.{blanked, all_blanked}
use Rattle.segment_core.specs.Reading.{Seen}
use Rattle.segment_core.specs.Written.{group_frame, joined}
use Rattle.segment_core.specs.Found.{home_among, AreInTurn, pairs_of, changes_of, live_of}
use Rattle.segment_core.proofs.Push.{text_push, tally_from_push, AreLegalFrom_push}
use Rattle.segment_core.proofs.FoundHomes.{in_turn_push}
use Rattle.segment_core.proofs.FoundChanges.{changes_counted}
use Rattle.segment_core.proofs.FoundSteps.{fold_bounds}
use Rattle.std.proofs.lemmas.Grind.{flat_map-append}
use Rattle.segment_core.proofs.HomesPush.{group_home, AreHomes_group, AreHomes_same, live_of_same, live_of_change, live_of_fold}
use Rattle.pen_core.specs.declared.step.PenStep.{PenStep}
use Rattle.pen_core.specs.declared.fold.Fold as folds
use Rattle.pen_core.specs.declared.stage.FoldStage.TheVariants.{Filed}
use Rattle.pen_core.specs.declared.stage.FoldStage.TheVariants as stages
use Rattle.pen_core.specs.InHand.{frame_in_hand, IsInHand}
use Rattle.pen_core.specs.Held.{gate_of}
use Rattle.pen_core.specs.PenLog.{PenLog, frames_read, job_over}
use Rattle.pen_core.specs.Vectors.{frame_at, frames_with}
use Rattle.pen_core.specs.Inside.{IsJob, IsMaybeJob}
use Rattle.pen_core.specs.Listed.{homes_entered, runs_entered, live_runs, Lists, HasLists}
use Rattle.segment_core.proofs.Written.{sum-lengths}
use Rattle.pen_core.proofs.Whole.{FileStays}

-- ---- a frame that was entered

-- each position that the lists tell of has a home, also once the frame is done
pub in_turn_ahead : (shape : Shape) (frames : List Frame) (f : Frame) (homes : Homes) (live : ℕ)
    → Lists shape frames (Some f) homes live → MayFollow (tally_of frames) f
    → (all : ℕ) × ((after (tally_of frames) f).size ≤ all) × AreInTurn 0 homes.homes.items all
in_turn_ahead shape frames (Group lengths bytes) homes live lists may =
    let t : Tally = tally_of frames in
    let here : Home = group_home shape frames lengths in (
      t.size + sum lengths,
      omega arith,
      subst (λ hs. AreInTurn 0 hs (t.size + sum lengths)) (sym lists.homes_are)
          (in_turn_push 0 t.size (t.size + sum lengths) lists.told here lists.are_homes.in_turn refl refl),
    )
in_turn_ahead shape frames (Change runs bytes) homes live lists may = (
  (tally_of frames).size,
  omega arith,
  subst (λ hs. AreInTurn 0 hs (tally_of frames).size) (sym (lists.homes_are ∙ append-nil lists.told))
      lists.are_homes.in_turn,
)
in_turn_ahead shape frames (Shrink n) homes live lists may =
    let shorter = ltb-false (tally_of frames).size n may.inside in (
      (tally_of frames).size,
      omega arith,
      subst (λ hs. AreInTurn 0 hs (tally_of frames).size) (sym (lists.homes_are ∙ append-nil lists.told))
          lists.are_homes.in_turn,
    )
in_turn_ahead shape frames (Fold count) homes live lists may = (
  (tally_of frames).size,
  omega arith,
  subst (λ hs. AreInTurn 0 hs (tally_of frames).size) (sym (lists.homes_are ∙ append-nil lists.told))
      lists.are_homes.in_turn,
)

-- it is done, and positions past its length have no home
pub lists_done : (shape : Shape) (frames : List Frame) (f : Frame) (homes homes' : Homes) (live live' : ℕ)
    → Lists shape frames (Some f) homes live → MayFollow (tally_of frames) f
    → (tally_of frames).folded ≤ (tally_of frames).changes
    → ((count : ℕ) → f ≡ Fold count → ⊥) → AreInTurn 0 homes'.homes.items (after (tally_of frames) f).size
    → ((width i : ℕ) → i < (after (tally_of frames) f).size
    → home_among width homes'.homes.items i ≡ home_among width homes.homes.items i)
    → homes'.live.items ≡ homes.live.items → live' ≡ length homes'.live.items → Lists shape (frames ++ f ∷ []) None homes' live'
lists_done shape frames (Group lengths bytes) homes homes' live live' lists may few no_fold turn each same all =
    let f : Frame = Group lengths bytes in
    let has = AreHomes_group shape frames lengths bytes lists.told lists.are_homes in
    let size : (tally_of (frames ++ f ∷ [])).size ≡ (tally_of frames).size + sum lengths = ap (λ t. t.size) (tally_from_push nothing frames f) in
    let runs : homes'.live.items ≡ live_runs shape (frames ++ f ∷ []) =
    same ∙ lists.live_is ∙ append-nil (live_runs shape frames)
    ∙ ap (flat_map pairs_of) (sym (live_of_same shape frames f (λ p. refl) refl)) in
    record {
      told = homes'.homes.items;
      are_homes =
          record {
            in_turn = subst (AreInTurn 0 homes'.homes.items) (sym size) turn;
            each = λ i lt. each shape.width i (omega arith) ∙ ap (λ hs. home_among shape.width hs i) lists.homes_are
                ∙ has.each i lt;
          };
      homes_are = sym (append-nil homes'.homes.items);
      live_is = runs ∙ sym (append-nil (live_runs shape (frames ++ f ∷ [])));
      counted = all ∙ ap length runs;
    }
lists_done shape frames (Change runs bytes) homes homes' live live' lists may few no_fold turn each same all =
    let f : Frame = Change runs bytes in
    let seen : Seen = record { at = length (text shape frames); shape = shape; frame = f } in
    let now : homes'.live.items ≡ live_runs shape (frames ++ f ∷ []) =
    same ∙ lists.live_is ∙ flat_map_more pairs_of [] (live_of shape frames) seen
    ∙ sym (ap (flat_map pairs_of) (live_of_change shape frames runs bytes few)) in
    record {
      told = homes'.homes.items;
      are_homes =
          AreHomes_same shape frames f lists.told homes'.homes.items (λ i p t. refl) (omega arith) lists.are_homes turn
          (λ i lt. each shape.width i lt
          ∙ ap (λ hs. home_among shape.width hs i) (lists.homes_are ∙ append-nil lists.told));
      homes_are = sym (append-nil homes'.homes.items);
      live_is = now ∙ sym (append-nil (live_runs shape (frames ++ f ∷ [])));
      counted = all ∙ ap length now;
    }
lists_done shape frames (Shrink n) homes homes' live live' lists may few no_fold turn each same all =
    let f : Frame = Shrink n in
    let shorter = ltb-false (tally_of frames).size n may.inside in
    let now : homes'.live.items ≡ live_runs shape (frames ++ f ∷ []) =
    same ∙ lists.live_is ∙ append-nil (live_runs shape frames)
    ∙ ap (flat_map pairs_of) (sym (live_of_same shape frames f (λ p. refl) refl)) in
    record {
      told = homes'.homes.items;
      are_homes =
          AreHomes_same shape frames f lists.told homes'.homes.items (λ i p t. refl) (omega arith) lists.are_homes turn
          (λ i lt. each shape.width i lt
          ∙ ap (λ hs. home_among shape.width hs i) (lists.homes_are ∙ append-nil lists.told));
      homes_are = sym (append-nil homes'.homes.items);
      live_is = now ∙ sym (append-nil (live_runs shape (frames ++ f ∷ [])));
      counted = all ∙ ap length now;
    }
lists_done shape frames (Fold count) homes homes' live live' lists may few no_fold turn each same all = absurd (no_fold count refl)

-- ---- a fold in hand

after_unfolded : (t : Tally) (f : Frame) → ((count : ℕ) → f ≡ Fold count → ⊥) → (after t f).folded ≡ t.folded
after_unfolded t (Group lengths bytes) no_fold = refl
after_unfolded t (Change runs bytes) no_fold = refl
after_unfolded t (Shrink n) no_fold = refl
after_unfolded t (Fold count) no_fold = absurd (no_fold count refl)

-- as many changes are live as aren't folded
pub live_counted : (shape : Shape) (frames : List Frame) → length (live_of shape frames) ≡ (tally_of frames).changes - (tally_of frames).folded
live_counted shape frames =
    length-drop (tally_of frames).folded (changes_of shape frames)
    ∙ ap (λ n. n - (tally_of frames).folded) (sym (changes_counted shape frames))

-- the first of them stay so behind a frame that is no fold
take_live : (shape : Shape) (frames : List Frame) (f : Frame) (n : ℕ) → (tally_of frames).folded ≤ (tally_of frames).changes
    → ((count : ℕ) → f ≡ Fold count → ⊥) → n ≤ length (live_of shape frames)
    → take n (live_of shape (frames ++ f ∷ [])) ≡ take n (live_of shape frames)
take_live shape frames (Group lengths bytes) n few no_fold le = ap (take n) (live_of_same shape frames (Group lengths bytes) (λ p. refl) refl)
take_live shape frames (Change runs bytes) n few no_fold le =
    ap (take n) (live_of_change shape frames runs bytes few)
    ∙ take-append-le n (live_of shape frames)
    (record { at = length (text shape frames); shape = shape; frame = Change runs bytes } ∷ []) le
take_live shape frames (Shrink m) n few no_fold le = ap (take n) (live_of_same shape frames (Shrink m) (λ p. refl) refl)
take_live shape frames (Fold count) n few no_fold le = absurd (no_fold count refl)

-- ---- on a pen's fields

-- no frame
pub listed_new : (keeps : Type 0) (states : List State) (log : PenLog) (homes : Homes) (fold : folds.Fold)
    → log.gate ≡ 11 → log.tally ≡ nothing → log.step ≡ None
    → fold.stage ≡ stages.None → homes.homes.items ≡ [] → homes.live.items ≡ []
    → (keeps → frames_read states log ≡ []) → HasLists keeps states log homes 0 fold
listed_new keeps states log homes fold gate tally rest at none idle empty = record {
  frames = [];
  legal = tt;
  gate_is = gate;
  tally_is = tally;
  lists =
      subst (λ o. Lists log.shape [] (frame_in_hand log.shape log.bytes o) homes 0) (sym rest)
      (record { told = []; are_homes = record { in_turn = refl; each = λ i lt. absurd (omega arith) }; homes_are = none; live_is = idle; counted = refl });
  filed = λ count is. (let clash = sym (ap (frame_in_hand log.shape log.bytes) rest) ∙ is in absurd cc);
  runs_are = λ in_hand. absurd (subst IsInHand at in_hand);
  same = empty;
}

module _ {keeps : Type 0} {states : List State} {log : PenLog} {homes : Homes} {live : ℕ} {fold : folds.Fold}
    (listed : HasLists keeps states log homes live fold) where
  -- a call of the disk that leaves the frames, or none
  pub listed_stays : (keeps' : Type 0) (new : List State) (o : Option PenStep) (broken : Bool)
      → frame_in_hand log.shape log.bytes o ≡ frame_in_hand log.shape log.bytes log.step → (keeps' → keeps)
      → (keeps' → FileStays states new log) → HasLists keeps' new (record log { step = o; broken = broken }) homes live fold
  listed_stays keeps' new o broken same back stays = record {
    frames = listed.frames;
    legal = listed.legal;
    gate_is = listed.gate_is;
    tally_is = listed.tally_is;
    lists = subst (λ f. Lists log.shape listed.frames f homes live) (sym same) listed.lists;
    filed = λ count is. listed.filed count (sym same ∙ is);
    runs_are = listed.runs_are;
    same = λ model. (stays model).frames_same ∙ listed.same (back model);
  }

  -- no job is in hand: the job's bytes and memory may be others
  module _ (idle : log.step ≡ None) (bytes : List ℕ) (homes' : Homes) where
    at_rest : Lists log.shape listed.frames None homes live
    at_rest = subst (λ step. Lists log.shape listed.frames (frame_in_hand log.shape log.bytes step) homes live) idle listed.lists

    pub listed_same : homes'.homes.items ≡ homes.homes.items → homes'.live.items ≡ homes.live.items
        → HasLists keeps states (record log { bytes = bytes }) homes' live fold
    listed_same homes_same live_same =
        let none : frame_in_hand log.shape bytes log.step ≡ None = ap (frame_in_hand log.shape bytes) idle in
        record {
          frames = listed.frames;
          legal = listed.legal;
          gate_is = listed.gate_is;
          tally_is = listed.tally_is;
          lists =
              subst (λ f. Lists log.shape listed.frames f homes' live) (sym none)
              (record {
                told = at_rest.told;
                are_homes = at_rest.are_homes;
                homes_are = homes_same ∙ at_rest.homes_are;
                live_is = live_same ∙ at_rest.live_is;
                counted = at_rest.counted;
              });
          filed = λ count is. let clash = sym none ∙ is in absurd cc;
          runs_are = listed.runs_are;
          same = listed.same;
        }

    -- a job that is no fold is entered
    pub listed_begun : (f : Frame) (step : PenStep) → frame_at log.shape bytes ≡ f → ((count : ℕ) → f ≡ Fold count → ⊥)
        → homes'.homes.items ≡ homes.homes.items ++ homes_entered log.gate log.tally.size f
        → homes'.live.items ≡ homes.live.items ++ runs_entered f
        → HasLists keeps states (record log { bytes = bytes; step = Some step }) homes' live fold
    listed_begun f step at no_fold homes_more live_more =
        let ahead : Some f ≡ frame_in_hand log.shape bytes (Some step) = ap (λ g. Some g) (sym at) in
        let told = at_rest.homes_are ∙ append-nil at_rest.told in
        let runs = at_rest.live_is ∙ append-nil (live_runs log.shape listed.frames) in
        record {
          frames = listed.frames;
          legal = listed.legal;
          gate_is = listed.gate_is;
          tally_is = listed.tally_is;
          lists = subst (λ g. Lists log.shape listed.frames g homes' live) ahead (record {
            told = at_rest.told;
            are_homes = at_rest.are_homes;
            homes_are =
                homes_more ∙ ap (λ hs. hs ++ homes_entered log.gate log.tally.size f) told
                ∙ ap (λ g. at_rest.told ++ homes_entered g log.tally.size f) listed.gate_is
                ∙ ap (λ t. at_rest.told ++ homes_entered (gate_of log.shape listed.frames) t.size f) listed.tally_is;
            live_is = live_more ∙ ap (λ rs. rs ++ runs_entered f) runs;
            counted = at_rest.counted;
          });
          filed = λ count is. let same : Some f ≡ Some (Fold count) = ahead ∙ is in absurd (no_fold count cc);
          runs_are = listed.runs_are;
          same = listed.same;
        }

  -- the job is done
  module _ (step : PenStep) (is : log.step ≡ Some step) (next : Tally)
      (job : IsMaybeJob log.shape log.gate log.tally next log.bytes log.step) where
    abbrev frame : Frame
    frame = frame_at log.shape log.bytes

    job_is : IsJob log.shape log.gate log.tally next log.bytes
    job_is = subst (λ s. IsMaybeJob log.shape log.gate log.tally next log.bytes s) is job

    in_hand : Lists log.shape listed.frames (Some frame) homes live
    in_hand = subst (λ s. Lists log.shape listed.frames (frame_in_hand log.shape log.bytes s) homes live) is listed.lists

    may : MayFollow (tally_of listed.frames) frame
    may = subst (λ t. MayFollow t frame) listed.tally_is job_is.may_follow

    next_is : next ≡ after (tally_of listed.frames) frame
    next_is = job_is.next_is ∙ ap (λ t. after t frame) listed.tally_is

    -- what the cut of the homes asks for
    pub homes_in_turn : (all : ℕ) × (next.size ≤ all) × AreInTurn 0 homes.homes.items all
    homes_in_turn =
        let turn = in_turn_ahead log.shape listed.frames frame homes live in_hand may in
        (turn.0, subst (λ t. t.size ≤ turn.0) (sym next_is) turn.1, turn.2)

    module _ (keeps' : Type 0) (new : List State) (gate : ℕ) (homes' : Homes) (live' : ℕ)
        (few : log.tally.folded ≤ log.tally.changes) (moved : gate ≡ log.gate + length (frame_text log.shape.format frame))
        (back : keeps' → keeps)
        (more : keeps' → frames_read new (job_over log gate next) ≡ frames_with (frames_read states log) frame)
        (turn : AreInTurn 0 homes'.homes.items next.size)
        (each : (width i : ℕ) → i < next.size → home_among width homes'.homes.items i ≡ home_among width homes.homes.items i)
        (all : live' ≡ length homes'.live.items) where
      after_is : tally_of (listed.frames ++ frame ∷ []) ≡ after (tally_of listed.frames) frame
      after_is = tally_from_push nothing listed.frames frame

      size : next.size ≡ (after (tally_of listed.frames) frame).size
      size = ap (λ t. t.size) next_is

      here : gate ≡ gate_of log.shape (listed.frames ++ frame ∷ [])
      here =
          moved ∙ ap (λ g. g + length (frame_text log.shape.format frame)) listed.gate_is
          ∙ sym
          (ap length (text_push log.shape listed.frames frame)
          ∙ length-append (text log.shape listed.frames) (frame_text log.shape.format frame))

      then_blank : keeps' → frames_read new (job_over log gate next) ≡ all_blanked (listed.frames ++ frame ∷ [])
      then_blank model =
          more model ∙ ap (λ bs. bs ++ blanked frame ∷ []) (listed.same (back model))
          ∙ sym (map_push blanked listed.frames frame)

      -- a frame that is no fold's: a fold in hand counts as before
      pub listed_done : (fold.stage ≡ Filed → ⊥) → (IsInHand fold.stage → fold.count ≤ log.tally.changes)
          → homes'.live.items ≡ homes.live.items → HasLists keeps' new (job_over log gate next) homes' live' fold
      listed_done unfiled upto same =
          let no_fold : (count : ℕ) → frame ≡ Fold count → ⊥ =
          λ count is'. unfiled (listed.filed count (ap (frame_in_hand log.shape log.bytes) is ∙ ap (λ g. Some g) is')).0 in
          let counted = live_counted log.shape listed.frames in
          record {
            frames = listed.frames ++ frame ∷ [];
            legal = AreLegalFrom_push log.shape nothing listed.frames frame listed.legal job_is.whole may;
            gate_is = here;
            tally_is = next_is ∙ sym after_is;
            lists =
                lists_done log.shape listed.frames frame homes homes' live live' in_hand may
                (subst (λ t. t.folded ≤ t.changes) listed.tally_is few) no_fold
                (subst (AreInTurn 0 homes'.homes.items) size turn)
                (λ width i lt. each width i (subst (λ n. i < n) (sym size) lt)) same all;
            filed = λ count clash. absurd (none-some (Fold count) clash);
            runs_are = λ held. (
                let bound : fold.count ≤ (tally_of listed.frames).changes = subst (λ t. fold.count ≤ t.changes) listed.tally_is (upto held) in
                let folded : next.folded ≡ (tally_of listed.frames).folded =
                ap (λ t. t.folded) next_is ∙ after_unfolded (tally_of listed.frames) frame no_fold in
                let counts : Tally → ℕ = λ t. length (flat_map pairs_of (take (fold.count - t.folded) (live_of log.shape listed.frames))) in
                listed.runs_are held ∙ ap counts listed.tally_is
                ∙ sym
                (ap (λ n. length (flat_map pairs_of (take (fold.count - n) (live_of log.shape (listed.frames ++ frame ∷ [])))))
                folded
                ∙ ap (λ cs. length (flat_map pairs_of cs))
                (take_live log.shape listed.frames frame (fold.count - (tally_of listed.frames).folded)
                (subst (λ t. t.folded ≤ t.changes) listed.tally_is few) no_fold (omega arith))));
            same = then_blank;
          }

      -- the fold's own: its changes are live no more
      pub listed_folded : (fold' : folds.Fold) → fold.stage ≡ Filed → frame ≡ Fold fold.count → fold'.stage ≡ stages.None
          → homes'.live.items ≡ drop fold.runs homes.live.items
          → HasLists keeps' new (job_over log gate next) homes' live' fold'
      listed_folded fold' at folds ended dropped =
          let f : Frame = Fold fold.count in
          let lists : Lists log.shape listed.frames (Some f) homes live =
          subst (λ g. Lists log.shape listed.frames (Some g) homes live) folds in_hand in
          let may' : MayFollow (tally_of listed.frames) f = subst (MayFollow (tally_of listed.frames)) folds may in
          let bounds = fold_bounds (tally_of listed.frames) f fold.count refl may'.counted in
          let t : Tally = tally_of listed.frames in
          let lived : List Seen = live_of log.shape listed.frames in
          let n : ℕ = fold.count - t.folded in
          let parts : flat_map pairs_of lived ≡ flat_map pairs_of (take n lived) ++ flat_map pairs_of (drop n lived) =
          ap (flat_map pairs_of) (sym (take-append-drop n lived))
          ∙ flat_map-append pairs_of (take n lived) (drop n lived) in
          let runs : fold.runs ≡ length (flat_map pairs_of (take n lived)) =
          listed.runs_are (subst IsInHand (sym at) tt)
          ∙ ap (λ u. length (flat_map pairs_of (take (fold.count - u.folded) lived))) listed.tally_is in
          let left : homes'.live.items ≡ live_runs log.shape (listed.frames ++ f ∷ []) =
          dropped ∙ ap (drop fold.runs) (lists.live_is ∙ append-nil (live_runs log.shape listed.frames) ∙ parts)
          ∙ drop_at (flat_map pairs_of (take n lived)) (flat_map pairs_of (drop n lived)) fold.runs (sym runs)
          ∙ sym (ap (flat_map pairs_of) (live_of_fold log.shape listed.frames fold.count bounds.0)) in
          let size' : next.size ≡ (after t f).size = size ∙ ap (λ g. (after t g).size) folds in
          record {
            frames = listed.frames ++ frame ∷ [];
            legal = AreLegalFrom_push log.shape nothing listed.frames frame listed.legal job_is.whole may;
            gate_is = here;
            tally_is = next_is ∙ sym after_is;
            lists = subst (λ g. Lists log.shape (listed.frames ++ g ∷ []) None homes' live') (sym folds) (record {
              told = homes'.homes.items;
              are_homes =
                  AreHomes_same log.shape listed.frames f lists.told homes'.homes.items (λ i p u. refl) (omega arith) lists.are_homes
                  (subst (AreInTurn 0 homes'.homes.items) size' turn)
                  (λ i lt. each log.shape.width i (subst (λ m. i < m) (sym size') lt)
                  ∙ ap (λ hs. home_among log.shape.width hs i) (lists.homes_are ∙ append-nil lists.told));
              homes_are = sym (append-nil homes'.homes.items);
              live_is = left ∙ sym (append-nil (live_runs log.shape (listed.frames ++ f ∷ [])));
              counted = all ∙ ap length left;
            });
            filed = λ count clash. absurd (none-some (Fold count) clash);
            runs_are = λ held. absurd (subst IsInHand ended held);
            same = then_blank;
          }

-- what growths enter
pub group_entered : {R : Type 0} (form : Encoding R) (gate size : ℕ) (growths : List (List R)) (count records : ℕ)
    → count ≡ length growths → records ≡ length (joined growths) → (old new homes : List Home)
    → new ≡ old ++ record { position = size; place = gate + (10 + count * 4); count = records } ∷ [] → old ≡ homes
    → new ≡ homes ++ homes_entered gate size (group_frame form growths)
group_entered form gate size growths count records counted told old new homes more same =
    let place : gate + (10 + count * 4) ≡ gate + 10 + length (map length growths) * 4 = omega (arith, counted, length-map growths length) in
    let all : records ≡ sum (map length growths) = told ∙ sum-lengths growths in
    more
    ∙ ap (λ hs. hs ++ record { position = size; place = gate + (10 + count * 4); count = records } ∷ []) same
    ∙ ap (λ n. homes ++ record { position = size; place = n; count = records } ∷ []) place
    ∙ ap (λ n. homes ++ record { position = size; place = gate + 10 + length (map length growths) * 4; count = n } ∷ []) all
