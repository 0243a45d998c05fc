use Rattle.std.proofs.Common.{◌-◌, drop, ap, ◌∙◌, arith}
use Rattle.std.proofs.lemmas.List.{drop-drop}
use Rattle.segment_core.proofs.found.Found.fold.Goals as goal

pub loop-self-preserved : goal.loop-self-preserved
loop-self-preserved g c =
    let so_far = c.loop-self.invariant in
    let old = c.args.self.now in
    let from = so_far.from in
    let below = c.loop-self-test.true in
    record {
      from = omega arith;
      to = omega arith;
      live =
          c.pop_front.ensures.rest ∙ ap (drop 1) so_far.live ∙ drop-drop 1 (c.loop-self.self.folded - old.folded) old.live.items
          ∙ ap (λ n. drop n old.live.items) (omega arith);
      same = record { records_are = so_far.same.records_are; notes_are = so_far.same.notes_are; homes_are = so_far.same.homes_are };
    }
