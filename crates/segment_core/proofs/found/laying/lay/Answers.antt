use Rattle.std.proofs.lemmas.Grind.{common_steps}
use Rattle.std.proofs.Common.{◌≡◌, ◌+◌, ◌-◌, ◌*◌, length, ℕ, refl, subst, arith}
use Rattle.segment_core.specs.Vector.{place_among}
use Rattle.segment_core.specs.Found.{IsLaid}
use Rattle.segment_core.proofs.FoundLaid.{laid_nothing, laid_set, place_among_none, stands_part, cell_within}
use Rattle.segment_core.proofs.found.laying.lay.Goals as goal

pub loop-k-init : goal.loop-k-init
loop-k-init g c =
    λ image stands.
    laid_nothing g.R.Record.form image (place_among g.R.Record.form.width c.args.place c.args.start 0)
    c.args.records.now c.args.notes.now (place_among_none g.R.Record.form.width c.args.place c.args.start)

pub loop-k-preserved : goal.loop-k-preserved
loop-k-preserved g c =
    let k : ℕ = c.loop-k.k in
    let w : ℕ = c.width_of-width.result in
    let form = g.R.Record.form in
    let within = cell_within k c.args.count w form.width (length c.args.area.now) c.width_of-width.ensures.is c.loop-k-test.true c.requires.filled in
    λ image stands. laid_set form image c.args.place c.args.start k w (c.args.start + k) c.args.records.now c.args.notes.now c.loop-k.records c.loop-k.notes _ c.decode.new.notes c.in_ok-record.record
    c.width_of-width.ensures.is refl (omega (arith, c.loop-k.auto.records)) refl (c.loop-k.invariant image stands)
    (c.in_ok-record.ensures.decoded image (stands_part image c.args.place c.args.area.now (k * w) (k * w + w - k * w) stands within))
    c.in_ok-record.ensures.others

pub returns : goal.returns
returns g c = λ image stands. (
    let all : c.loop-k.k ≡ c.args.count = omega (arith, c.loop-k-test.false, c.loop-k.auto.k-end) in
    subst (λ (n : ℕ). IsLaid g.R.Record.form image (place_among g.R.Record.form.width c.args.place c.args.start n) c.args.records.now c.args.notes.now c.loop-k.records c.loop-k.notes) all
    (c.loop-k.invariant image stands))

pub overflow_add-place : goal.overflow_add-place
overflow_add-place g c =
    let within = cell_within c.loop-k.k c.args.count c.width_of-width.result g.R.Record.form.width (length c.args.area.now) c.width_of-width.ensures.is c.loop-k-test.true c.requires.filled in
    omega (arith, within, c.requires.placed)

pub offset_bounds-records-start : goal.offset_bounds-records-start
offset_bounds-records-start g c = grind (arith, common_steps)
