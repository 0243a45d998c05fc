-- What a begin leaves of what is known of the disk: it makes no call.
use Rattle.std.proofs.Common.{◌≡◌, inl, inr, false, List, Option, Some, None, refl, sym, ap, subst}
use Rattle.std.specs.Option.{is_some}
use Rattle.disk_core.specs.State.{State}
use Rattle.segment_core.specs.Frame.{Frame}
use Rattle.pen_core.specs.Held.{IsBeingFolded}
use Rattle.pen_core.specs.PenOf.{PenOf, JobOf}
use Rattle.pen_core.specs.Pen.{OpensWith, MayBeOpening, IsKept, IsUnchanged, BeginsFrame, BeginsFold, fold_count}
use Rattle.pen_core.proofs.Begun.{nothing_folded}
use Rattle.pen_core.proofs.Worked.{unchanged_pen, begun_pen, folding_pen}

pub none_job : {D : Type 0} (pen : PenOf D) → is_some pen.job ≡ false → pen.job ≡ None
none_job pen none = at pen.job none
  where
    at : (job : Option JobOf) → is_some job ≡ false → job ≡ None
    at None none = refl
    at (Some job) none = absurd cc

module _ {D : Type 0} (keeps : D → Type 0) (states : D → List State) (old new : PenOf D) (kept : keeps old.disk → IsKept (states old.disk) old) where
  abbrev Kept : PenOf D → Type 0
  Kept pen = keeps pen.disk → IsKept (states pen.disk) pen

  pub kept_unchanged : IsUnchanged old new → Kept new
  kept_unchanged is = subst Kept (sym (unchanged_pen old new is)) (λ model. let k = kept model in record {
    images_open = k.images_open;
    pending_is_told = k.pending_is_told;
    gate_is = k.gate_is;
    tally_is = k.tally_is;
    size_is = k.size_is;
  })

  -- a job is in hand whose body is not written yet
  pub kept_begun : (frame : Frame) → old.job ≡ None → BeginsFrame frame old new → Kept new
  kept_begun frame idle is = subst Kept (sym (begun_pen frame old new is)) (λ model. let k = kept model in record {
    images_open = λ image left. inl (subst (λ job. OpensWith old.shape old.frames old.vector job image) idle (k.images_open image left));
    pending_is_told = λ j there. elim (k.pending_is_told j there) [
      | inl past ↦ inl past
      | inr (inl at) ↦ absurd (subst MayBeOpening idle at.1)
      | inr (inr folded) ↦ inr (inr folded)
    ];
    gate_is = k.gate_is;
    tally_is = k.tally_is;
    size_is = k.size_is;
  })

  -- a fold none of whose homes is written yet
  pub kept_folding : BeginsFold old new → Kept new
  kept_folding is = subst Kept (sym (folding_pen old new is)) (λ model. let k = kept model in record {
    images_open = k.images_open;
    pending_is_told = λ j there. elim (k.pending_is_told j there) [
      | inl past ↦ inl past
      | inr (inl at) ↦ inr (inl at)
      | inr (inr folded) ↦ absurd
          (nothing_folded old.shape old.frames j
          (subst (λ n. IsBeingFolded old.shape n old.frames j) (ap fold_count is.ready.1) folded))
    ];
    gate_is = k.gate_is;
    tally_is = k.tally_is;
    size_is = k.size_is;
  })
