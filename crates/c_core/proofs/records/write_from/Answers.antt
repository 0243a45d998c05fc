use Rattle.std.proofs.Common.{◌<◌, length, inr, subst, sym, ◌∙◌, arith}
use Rattle.std.proofs.lemmas.List.{length-drop}
use Rattle.c_core.proofs.NoRoom.{no_room}
use Rattle.c_core.proofs.records.write_from.Goals as goal

pub returns-clause-some : goal.returns-clause-some
returns-clause-some g c none =
    let left = length-drop c.args.from c.args.records.now in
    inr (subst (λ w. length c.args.out.now < w) c.width_of-width.ensures.is
    (no_room _ (length c.args.out.now) c.width_of-width.result (omega (arith, c.width_of-width.ensures.range)) (omega (arith, left, c.if-from-records.false)) (sym c.min-count.ensures ∙ none)))
