use Rattle.std.proofs.Common.{rules, ◌-◌, ◌*◌, ◌<◌, ◌∷◌, [], ℕ, List, sym, ap, subst, ◌∙◌, arith}
use Rattle.std.proofs.lemmas.Result.{err_from_is_err_and}
use Rattle.segment_core.specs.declared.tally.Tally.{Tally}
use Rattle.segment_core.specs.Frame.{Run}
use Rattle.segment_core.specs.Reading.{runs_of}
use Rattle.segment_core.proofs.FoundLaid.{RunFits, run_fits}
use Rattle.beside_core.specs.Edit.{AreNoted, loss_of}
use Rattle.beside_core.specs.Tail.{MayFollowTail, FillsTail, IsLossBy}
use Rattle.beside_core.proofs.Tails.{runs_inside}
use Rattle.beside_core.proofs.Noting.{noted_more}
use Rattle.beside_core.proofs.Changing.{noted_in_run, fault_of_run, piece_is, run_step}
use Rattle.beside_core.proofs.laying.replace.Goals as goal

pub overflow_add-at : goal.overflow_add-at
overflow_add-at g c =
    let follows = c.requires.fits.1 in
    let fits = run_fits g.R.Record.form.width c.requires.fits.0.size c.loop-k.k c.loop-k.at c.width_of-width.result c.record_area-area.result.now c.args.frame.now _
    c.width_of-width.ensures.is c.requires.wide c.record_area-area.ensures.filled (runs_inside c.requires.fits.0 c.args.frame.now.frame follows.may.inside) c.run-start.ensures.run
    c.loop-k.invariant.here in
    let within = fits.within in
    search rules

pub slice_bounds-replace_run-end : goal.slice_bounds-replace_run-end
slice_bounds-replace_run-end g c =
    let follows = c.requires.fits.1 in
    let fits = run_fits g.R.Record.form.width c.requires.fits.0.size c.loop-k.k c.loop-k.at c.width_of-width.result c.record_area-area.result.now c.args.frame.now _
    c.width_of-width.ensures.is c.requires.wide c.record_area-area.ensures.filled (runs_inside c.requires.fits.0 c.args.frame.now.frame follows.may.inside) c.run-start.ensures.run
    c.loop-k.invariant.here in
    let within = fits.within in
    search rules

pub replace_run-requires-clause-fits : goal.replace_run-requires-clause-fits
replace_run-requires-clause-fits g c κs within =
    let follows = c.requires.fits.1 in
    let size : ℕ = c.requires.fits.0.size in
    let i = c.loop-k.invariant in
    let fits = run_fits g.R.Record.form.width c.requires.fits.0.size c.loop-k.k c.loop-k.at c.width_of-width.result c.record_area-area.result.now c.args.frame.now _
    c.width_of-width.ensures.is c.requires.wide c.record_area-area.ensures.filled (runs_inside c.requires.fits.0 c.args.frame.now.frame follows.may.inside) c.run-start.ensures.run
    c.loop-k.invariant.here in (
      size,
      fits.inside,
      follows.small,
      record {
        behind = omega (arith, i.base_is, follows.is_tail.behind);
        filled = i.long ∙ follows.is_tail.filled ∙ ap (λ n. (size - n) * g.R.Record.form.width) (sym i.base_is);
      },
    )

pub returns-in_err-replace_run-clause-bad : goal.returns-in_err-replace_run-clause-bad
returns-in_err-replace_run-clause-bad g c =
    let p = err_from_is_err_and c.from_residual.result c.from_residual.ensures.1 in
    let width : ℕ = g.R.Record.form.width in
    let follows = c.requires.fits.1 in
    let i = c.loop-k.invariant in
    let run : Run = record { start = c.run-start.result.0; count = c.run-start.result.1 } in
    let fits : RunFits width c.requires.fits.0.size c.loop-k.k c.loop-k.at c.width_of-width.result c.record_area-area.result.now (runs_of c.args.frame.now.frame) run
    = run_fits width c.requires.fits.0.size c.loop-k.k c.loop-k.at c.width_of-width.result c.record_area-area.result.now c.args.frame.now run
    c.width_of-width.ensures.is c.requires.wide c.record_area-area.ensures.filled (runs_inside c.requires.fits.0 c.args.frame.now.frame follows.may.inside) c.run-start.ensures.run i.here in
    let some : 0 < width = omega (arith, c.requires.whole.wide, c.requires.wide) in
    rw (p.1, p.2) (fault_of_run g.R.Record.form c.args.laid.now.base c.args.frame.now.frame c.loop-k.k run _ c.in_err-replace_run.field-0.0 c.run-start.ensures.run
    (piece_is width c.requires.fits.0.size c.loop-k.k c.loop-k.at c.width_of-width.result c.record_area-area.result.now c.args.frame.now run fits c.width_of-width.ensures.is some
    c.requires.wide c.record_area-area.ensures.bytes c.record_area-area.ensures.filled i.here)
    c.in_err-replace_run.ensures.bad (λ j same. subst (λ n. j < n) i.base_is (c.in_err-replace_run.ensures.below j same)))

pub loop-k-preserved : goal.loop-k-preserved
loop-k-preserved g c =
    let form = g.R.Record.form in
    let width : ℕ = g.R.Record.form.width in
    let first = c.requires.fits.1 in
    let i = c.loop-k.invariant in
    let frame = c.args.frame.now.frame in
    let old = c.args.laid.now in
    let mid = c.loop-k.laid in
    let new = c.replace_run.new.laid in
    let k : ℕ = c.loop-k.k in
    let at : ℕ = c.loop-k.at in
    let w : ℕ = c.width_of-width.result in
    let area : List ℕ = c.record_area-area.result.now in
    let run : Run = record { start = c.run-start.result.0; count = c.run-start.result.1 } in
    let told = c.run-start.ensures.run in
    let some : 0 < width = omega (arith, c.requires.whole.wide, c.requires.wide) in
    let fits : RunFits width c.requires.fits.0.size k at w area (runs_of c.args.frame.now.frame) run
    = run_fits width c.requires.fits.0.size k at w area c.args.frame.now run
    c.width_of-width.ensures.is c.requires.wide c.record_area-area.ensures.filled (runs_inside c.requires.fits.0 frame first.may.inside) told i.here in
    let fills : (tally : Tally) → MayFollowTail width old.base tally frame old.tail.items → FillsTail width mid.base tally.size mid.tail.items = λ tally follows. record {
      behind = omega (arith, i.base_is, follows.is_tail.behind);
      filled = i.long ∙ follows.is_tail.filled ∙ ap (λ n. (tally.size - n) * width) (sym i.base_is);
    } in
    let one = c.in_ok-replace_run.ensures.replaced c.requires.fits.0.size fits.inside (fills c.requires.fits.0 first) in
    record {
      here = fits.next;
      base_is = one.base_is ∙ i.base_is;
      long = one.long ∙ i.long;
      noted = noted_more (λ edit. IsLossBy old.base (frame ∷ []) (loss_of edit)) old.edits.items mid.edits.items new.edits.items i.noted
          (subst (λ n. AreNoted (λ edit. IsLossBy n (frame ∷ []) (loss_of edit)) mid.edits.items new.edits.items) i.base_is
          (noted_in_run mid.base frame k run mid.edits.items new.edits.items told one.noted));
      left = λ tally follows known cells stands.
          let fits' : RunFits width tally.size k at w area (runs_of c.args.frame.now.frame) run
          = run_fits width tally.size k at w area c.args.frame.now run
          c.width_of-width.ensures.is c.requires.wide c.record_area-area.ensures.filled (runs_inside tally frame follows.may.inside) told i.here in
          let so_far = i.left tally follows known cells stands in
          let this = c.in_ok-replace_run.ensures.replaced tally.size fits'.inside (fills tally follows) in (
            _,
            this.is known so_far.0 so_far.1,
            so_far.2
                ∙ run_step width tally.size k at w area c.args.frame.now run fits' c.width_of-width.ensures.is some c.requires.wide c.record_area-area.ensures.bytes
                c.record_area-area.ensures.filled i.here told so_far.0,
          );
    }
