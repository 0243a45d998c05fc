use Rattle.std.proofs.Common.{◌≡◌, ◌+◌, ◌-◌, ◌*◌, List, length, take, None, ℕ, refl, sym, ap, subst, arith, rules}
use Rattle.std.proofs.lemmas.List.{take_all}
use Rattle.segment_core.specs.Frame.{Run}
use Rattle.segment_core.specs.Reading.{runs_of, record_bytes_of}
use Rattle.segment_core.specs.Vector.{place_among, place_in_runs}
use Rattle.segment_core.specs.Found.{StandsAt, first_record_of, IsLaid}
use Rattle.segment_core.proofs.FoundLaid.{stands_part, laid_nothing, laid_run, run_fits}
use Rattle.segment_core.proofs.found.laying.lay_change.Goals as goal

pub overflow_add-end : goal.overflow_add-end
overflow_add-end g c =
    let fits = run_fits g.R.Record.form.width (length c.args.records.now) c.loop-k.k c.loop-k.at c.width_of-width.result c.record_area-area.result.now c.args.change.now _
    c.width_of-width.ensures.is c.requires.wide c.record_area-area.ensures.filled c.requires.inside c.run-start.ensures.run c.loop-k.invariant.here in
    let within = fits.within in
    let placed = c.first_record-place.ensures.placed in
    let same = ap length c.record_area-area.ensures.bytes in
    omega arith

pub slice_bounds-lay-end : goal.slice_bounds-lay-end
slice_bounds-lay-end g c =
    let fits = run_fits g.R.Record.form.width (length c.args.records.now) c.loop-k.k c.loop-k.at c.width_of-width.result c.record_area-area.result.now c.args.change.now _
    c.width_of-width.ensures.is c.requires.wide c.record_area-area.ensures.filled c.requires.inside c.run-start.ensures.run c.loop-k.invariant.here in
    search (rules, fits.within)

pub overflow_add-place : goal.overflow_add-place
overflow_add-place g c =
    let fits = run_fits g.R.Record.form.width (length c.args.records.now) c.loop-k.k c.loop-k.at c.width_of-width.result c.record_area-area.result.now c.args.change.now _
    c.width_of-width.ensures.is c.requires.wide c.record_area-area.ensures.filled c.requires.inside c.run-start.ensures.run c.loop-k.invariant.here in
    let within = fits.within in
    let placed = c.first_record-place.ensures.placed in
    let same = ap length c.record_area-area.ensures.bytes in
    omega arith

pub lay-requires-clause-filled : goal.lay-requires-clause-filled
lay-requires-clause-filled g c κs bounds =
    let fits = run_fits g.R.Record.form.width (length c.args.records.now) c.loop-k.k c.loop-k.at c.width_of-width.result c.record_area-area.result.now c.args.change.now _
    c.width_of-width.ensures.is c.requires.wide c.record_area-area.ensures.filled c.requires.inside c.run-start.ensures.run c.loop-k.invariant.here in
    fits.filled

pub lay-requires-clause-placed : goal.lay-requires-clause-placed
lay-requires-clause-placed g c κs bounds =
    let fits = run_fits g.R.Record.form.width (length c.args.records.now) c.loop-k.k c.loop-k.at c.width_of-width.result c.record_area-area.result.now c.args.change.now _
    c.width_of-width.ensures.is c.requires.wide c.record_area-area.ensures.filled c.requires.inside c.run-start.ensures.run c.loop-k.invariant.here in
    let within = fits.within in
    let filled = fits.filled in
    let product = ap (λ n. c.run-start.result.1 * n) c.width_of-width.ensures.is in
    let placed = c.first_record-place.ensures.placed in
    let same = ap length c.record_area-area.ensures.bytes in
    omega arith

pub lay-requires-clause-inside : goal.lay-requires-clause-inside
lay-requires-clause-inside g c κs bounds =
    let fits = run_fits g.R.Record.form.width (length c.args.records.now) c.loop-k.k c.loop-k.at c.width_of-width.result c.record_area-area.result.now c.args.change.now _
    c.width_of-width.ensures.is c.requires.wide c.record_area-area.ensures.filled c.requires.inside c.run-start.ensures.run c.loop-k.invariant.here in
    omega (arith, c.loop-k.auto.records, fits.inside)

pub loop-k-init : goal.loop-k-init
loop-k-init g c = record {
  here = omega arith;
  laid = λ image stands. laid_nothing g.R.Record.form image (λ i. None) c.args.records.now c.args.notes.now (λ i. refl);
}

pub loop-k-preserved : goal.loop-k-preserved
loop-k-preserved g c =
    let form = g.R.Record.form in
    let frame = c.args.change.now.frame in
    let area : List ℕ = c.record_area-area.result.now in
    let at : ℕ = c.loop-k.at in
    let k : ℕ = c.loop-k.k in
    let fits = run_fits g.R.Record.form.width (length c.args.records.now) c.loop-k.k c.loop-k.at c.width_of-width.result c.record_area-area.result.now c.args.change.now _
    c.width_of-width.ensures.is c.requires.wide c.record_area-area.ensures.filled c.requires.inside c.run-start.ensures.run c.loop-k.invariant.here in
    let place : ℕ = c.first_record-place.result in
    let start : ℕ = c.run-start.result.0 in
    let count : ℕ = c.run-start.result.1 in
    let size : ℕ = at + count * c.width_of-width.result - at in
    let within = fits.within in
    record {
      here = fits.next;
      laid = λ image stands. (
          let here : StandsAt image place area
          = subst (λ (bs : List ℕ). StandsAt image place bs) (sym c.record_area-area.ensures.bytes)
          (subst (λ (p : ℕ). StandsAt image p (record_bytes_of frame)) (sym c.first_record-place.ensures.is) stands) in
          let one = c.in_ok-lay.ensures image (stands_part image place area at size here (omega arith)) in
          laid_run form image (first_record_of c.args.change.now) at k start count (runs_of frame) c.args.records.now c.args.notes.now c.loop-k.records c.loop-k.notes c.lay.new.records c.lay.new.notes
          c.loop-k.invariant.here fits.more c.lay.auto.records (c.loop-k.invariant.laid image stands)
          (subst
          (λ (p : ℕ). IsLaid form image (place_among form.width (p + at) start count) c.loop-k.records c.loop-k.notes c.lay.new.records c.lay.new.notes)
          c.first_record-place.ensures.is one));
    }

pub returns : goal.returns
returns g c = λ image stands. (
    let runs : List Run = runs_of c.args.change.now.frame in
    let all : take c.loop-k.k runs ≡ runs = take_all c.loop-k.k runs (omega (arith, c.loop-k-test.false, c.runs-k-end.ensures)) in
    subst
    (λ (rs : List Run).
    IsLaid g.R.Record.form image
    (λ i. place_in_runs g.R.Record.form.width i (first_record_of c.args.change.now) rs) c.args.records.now
    c.args.notes.now c.loop-k.records c.loop-k.notes) all
    (c.loop-k.invariant.laid image stands))
