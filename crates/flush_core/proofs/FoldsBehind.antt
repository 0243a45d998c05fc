-- The fold that is in hand once the job is done stays the same in a log's calls.
use Rattle.std.proofs.Common.{◌≡◌, inl, inr, sym, ap, ◌∙◌}
use Rattle.pen_core.specs.PenOf.{PenOf}
use Rattle.pen_core.specs.Pen.{fold_behind}
use Rattle.flush_core.specs.declared.lane.Lane.TheVariants.{Log}
use Rattle.flush_core.specs.declared.lane.Tick.{Tick}
use Rattle.flush_core.specs.declared.lane.Tick.TheVariants as ticks
use Rattle.flush_core.specs.declared.fault.FlushFault.{FlushFault}
use Rattle.flush_core.specs.declared.fault.FlushFault.TheVariants.{Pen, Strayed}
use Rattle.flush_core.specs.Refusals.{IsLaneTicked, IsLaneFault}
use Rattle.flush_core.specs.Serving.{fold_with}

module _ {D : Type 0} (old new : PenOf D) where
  same_pen : new ≡ old → fold_with new.job new.fold ≡ fold_with old.job old.fold
  same_pen same = ap (λ (p : PenOf D). fold_with p.job p.fold) same

  pub fold_ticked : (tick : Tick) → IsLaneTicked Log old new tick → fold_with new.job new.fold ≡ fold_with old.job old.fold
  fold_ticked ticks.Idle is = same_pen is.1
  fold_ticked ticks.Step is =
      ap (λ j. fold_with j new.fold) is.2.2 ∙ ap (fold_behind is.0.frame) is.3.fold_same ∙ sym (ap (λ j. fold_with j old.fold) is.1)
  fold_ticked ticks.Done is =
      ap (λ j. fold_with j new.fold) is.3.job_done ∙ is.3.fold_is ∙ sym (ap (λ j. fold_with j old.fold) is.1)
  fold_ticked ticks.Filed is = absurd is
  fold_ticked ticks.Waiting is = absurd is

  pub fold_unticked : (fault : FlushFault) → IsLaneFault Log old new fault → fold_with new.job new.fold ≡ fold_with old.job old.fold
  fold_unticked (Pen fault) is = elim is [
    | inl was ↦ same_pen was.2
    | inr broke ↦ ap (λ j. fold_with j new.fold) broke.4.job_same ∙ ap (fold_with old.job) broke.4.counts_same.fold_same
  ]
  fold_unticked (Strayed number) is = absurd is
