use Rattle.std.proofs.Common.{◌≡◌, ◌+◌, ◌<◌, ℕ, length, get_or, sym, ap, subst, ◌∙◌, arith}
use Rattle.std.specs.Prelude.{slice_index}
use Rattle.std.proofs.lemmas.List.{length_push}
use Rattle.disk_core.specs.State.{State}
use Rattle.disk_core.specs.Choice.{pending_byte, chosen_byte}
use Rattle.disk_core.proofs.ChosenLemmas.{chosen_at, chosen_more, one_more_pending, no_more_pending}
use Rattle.disk_core.proofs.image.chosen_image.Goals as goal
use Rattle.disk_core.proofs.image.chosen_image.Goals.{then-free, else-free}

pub loop-place-preserved : goal.loop-place-preserved
loop-place-preserved c =
    let s : State = record { seen = c.args.seen.now; synced = c.args.synced.now; pending = c.args.pending.now; greatest = c.args.greatest } in
    let bytes = c.args.choice.pending in
    let place = c.loop-place.place in
    let l = c.loop-place.invariant in
    let old = c.loop-place.image.items in
    let free = c.is_free-free.ensures in
    let pushed = c.in_ok-push.ensures.items in
    let size = c.loop-place.image.ok.0 in
    let byte : c.byte_at.result ≡ chosen_byte bytes s place =
    chosen_at bytes s place c.byte_at.result c.is_free-free.result free
    (λ is. c.byte_at.ensures.pending is ∙ ap (pending_byte bytes (slice_index s.synced place) (slice_index s.seen place)) l.counted)
    c.byte_at.ensures.kept in
    record {
      made = c.push.new.self.ok.0 ∙ ap length pushed ∙ length_push old c.byte_at.result ∙ omega (arith, l.made, size);
      counted = elim c.if-free.branch [
        | then-free w ↦ w.below-is ∙ one_more_pending s place c.loop-place.below (sym free ∙ w.if-free.true) l.counted
        | else-free w ↦ w.below-is ∙ no_more_pending s place c.loop-place.below (sym free ∙ w.if-free.false) l.counted
      ];
      few = elim c.if-free.branch [
        | then-free w ↦ omega (arith, w.below-is, l.few)
        | else-free w ↦ omega (arith, w.below-is, l.few)
      ];
      each =
          subst (λ image. (i : ℕ) → i < place + 1 → get_or image i 0 ≡ chosen_byte bytes s i) (sym pushed)
          (chosen_more bytes s old place c.byte_at.result (omega (arith, l.made, size)) byte l.each);
    }
