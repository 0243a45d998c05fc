-- No job, or no fold, is in hand: the memory for one may have grown, and hold other bytes.
use Rattle.std.proofs.Common.{◌≡◌, ℕ, List, None, refl, sym, subst, ◌∙◌}
use Rattle.disk_core.specs.State.{State}
use Rattle.segment_core.specs.declared.tally.Tally.{Tally}
use Rattle.pen_core.specs.declared.fold.Fold.{Fold}
use Rattle.pen_core.specs.declared.pen.Pen.TheInside.{Inside}
use Rattle.pen_core.specs.Fields.{log_of, count_open, seen_as, IsSoundPen}
use Rattle.pen_core.specs.declared.stage.FoldStage.{FoldStage}
use Rattle.pen_core.specs.declared.stage.FoldStage.TheVariants as stages
use Rattle.pen_core.specs.PenLog.{PenLog}
use Rattle.pen_core.specs.PenOf.{FoldOf}
use Rattle.pen_core.specs.InHand.{HasFold, IsInHand, fold_of, in_stage}
use Rattle.pen_core.specs.Inside.{IsPen}
use Rattle.pen_core.specs.Listed.{HasLists}
use Rattle.pen_core.specs.Pen.{open_count, IsUnchanged}
use Rattle.pen_core.proofs.InHand.{fold_same, no_fold_at, no_fold_seen, pen_unfolded}
use Rattle.pen_core.proofs.Listed.{listed_same}

pub pen_same : {count : ℕ} {keeps : Type 0} {states : List State} {log : PenLog} {next : Tally} → IsPen count keeps states log next
    → log.step ≡ None → (bytes : List ℕ) → IsPen count keeps states (record log { bytes = bytes }) next
pen_same {count} {keeps} {states} {log} {next} pen idle bytes =
    let rests : IsPen count keeps states (record log { step = None }) next =
    subst (λ step. IsPen count keeps states (record log { step = step }) next) idle pen in
    let made : IsPen count keeps states (record log { bytes = bytes; step = None }) next = record {
      wide = rests.wide;
      gate_fits = rests.gate_fits;
      size_fits = rests.size_fits;
      changes_fit = rests.changes_fit;
      folded_counted = rests.folded_counted;
      job = tt;
      knows = λ model. (
          let k = rests.knows model in
          record {
            gate_is = k.gate_is;
            tally_is = k.tally_is;
            file = k.file;
            images_open = k.images_open;
            gate_pending = k.gate_pending;
            stands = k.stands;
          });
    } in
    subst (λ step. IsPen count keeps states (record log { bytes = bytes; step = step }) next) (sym idle) made

-- no job is in hand: the memory for one may have grown, and hold other bytes
pub at_rest : {D : Type 0} {keeps : D → Type 0} {states : D → List State} {pen : Inside D} → IsSoundPen keeps states pen
    → (then : Inside D) → pen.step ≡ None → then.homes.homes.items ≡ pen.homes.homes.items
    → then.homes.live.items ≡ pen.homes.live.items
    → IsSoundPen keeps states (record pen { bytes = then.bytes; homes = then.homes })
at_rest sound then idle homes_same live_same = record {
  job = pen_same sound.job idle then.bytes.items;
  lists = listed_same sound.lists idle then.bytes.items then.homes homes_same live_same;
  fold = fold_same sound.fold idle then.bytes.items;
}

-- all parts of it
pub sound : {D : Type 0} {keeps : D → Type 0} {states : D → List State} {pen : Inside D}
    → IsPen (count_open pen) (keeps pen.disk) (states pen.disk) (log_of pen) pen.next
    × HasLists (keeps pen.disk) (states pen.disk) (log_of pen) pen.homes pen.live pen.fold
    × HasFold (keeps pen.disk) (states pen.disk) (log_of pen) pen.fold
    → IsSoundPen keeps states pen
sound parts = record { job = parts.0; lists = parts.1; fold = parts.2 }

-- ---- no fold

pub unfolded : (fold : Fold) → fold_of fold ≡ None → fold.stage ≡ stages.None
unfolded fold none = at fold.stage _ none
  where
    at : (stage : FoldStage) (f : FoldOf) → in_stage stage f ≡ None → stage ≡ stages.None
    at stages.None f none = refl
    at (stages.Home n) f none = absurd cc
    at stages.Sync f none = absurd cc
    at stages.Ready f none = absurd cc
    at stages.Filed f none = absurd cc

module _ {D : Type 0} {keeps : D → Type 0} {states : D → List State} {pen : Inside D} (sound : IsSoundPen keeps states pen) (fold : Fold)
    (none : fold_of pen.fold ≡ None) (same : fold.stage ≡ pen.fold.stage) where
  still : fold.stage ≡ stages.None
  still = same ∙ unfolded pen.fold none

  -- the memory for a fold holds others
  pub pen_unbegun : IsSoundPen keeps states (record pen { fold = fold })
  pen_unbegun =
      let lists = sound.lists in
      record {
        job = pen_unfolded fold still
            (subst (λ stage. IsPen (open_count stage pen.fold.count) (keeps pen.disk) (states pen.disk) (log_of pen) pen.next)
            (unfolded pen.fold none) sound.job);
        lists = record {
          frames = lists.frames;
          legal = lists.legal;
          gate_is = lists.gate_is;
          tally_is = lists.tally_is;
          lists = lists.lists;
          filed = λ count is. (let clash = sym (unfolded pen.fold none) ∙ (lists.filed count is).0 in absurd cc);
          runs_are = λ held. absurd (subst IsInHand still held);
          same = lists.same;
        };
        fold = no_fold_at (keeps pen.disk) (states pen.disk) (log_of pen) fold still;
      }

  pub unbegun_seen : IsUnchanged (seen_as states pen) (seen_as states (record pen { fold = fold }))
  unbegun_seen = record {
    disk_same = refl;
    file_same = record { frames_same = refl; vector_same = refl };
    job_same = refl;
    broken_same = refl;
    shape_same = refl;
    fold_same = no_fold_seen fold still ∙ sym none;
    tally_same = refl;
    gate_same = refl;
  }
