use Rattle.std.proofs.Common.{sym, subst, inl, inr}
use Rattle.stat_core.specs.declared.outline.Outline.TheVariants.{Shrink, Fold}
use Rattle.stat_core.specs.Next.{IsOrderFault}
use Rattle.stat_core.proofs.Outlined.{shrinks_to_more, shrinks_unfolded, fold_falls, fold_passes}
use Rattle.stat_core.proofs.outline.check_order.Goals as goal

pub returns-in-Shrink : goal.returns-in-Shrink
returns-in-Shrink c =
    subst (λ o. IsOrderFault c.args.at c.args.tally o c.damaged.result) (sym c.in-Shrink.is)
    (subst (λ f. IsOrderFault c.args.at c.args.tally (Shrink c.in-Shrink.size) f) (sym c.damaged.ensures) (shrinks_to_more c.args.at c.args.tally c.in-Shrink.size c.if-tally-size.true))

pub returns-in-Shrink-2 : goal.returns-in-Shrink-2
returns-in-Shrink-2 c =
    subst (λ o. IsOrderFault c.args.at c.args.tally o c.damaged-in-Shrink-2.result) (sym c.in-Shrink.is)
    (subst (λ f. IsOrderFault c.args.at c.args.tally (Shrink c.in-Shrink.size) f) (sym c.damaged-in-Shrink-2.ensures)
    (shrinks_unfolded c.args.at c.args.tally c.in-Shrink.size c.if-tally-size.false c.if-tally.true))

pub returns-in-Fold : goal.returns-in-Fold
returns-in-Fold c =
    subst (λ o. IsOrderFault c.args.at c.args.tally o c.damaged-in-Fold.result) (sym c.in-Fold.is)
    (subst (λ f. IsOrderFault c.args.at c.args.tally (Fold c.in-Fold.count) f) (sym c.damaged-in-Fold.ensures) (elim c.if-tally-count.either [
      | inl falls ↦ fold_falls c.args.at c.args.tally c.in-Fold.count falls
      | inr passes ↦ fold_passes c.args.at c.args.tally c.in-Fold.count passes.1
    ]))
