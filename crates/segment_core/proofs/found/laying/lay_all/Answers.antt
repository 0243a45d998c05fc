use Rattle.std.proofs.Common.{◌≡◌, ◌≤◌, ◌<◌, List, length, sym, subst, arith, rules}
use Rattle.std.proofs.lemmas.List.{take_all}
use Rattle.segment_core.specs.Reading.{Seen, record_bytes_of}
use Rattle.segment_core.specs.Found.{StandsAt, first_record_of, IsInside, IsLaid, live_among}
use Rattle.segment_core.specs.Reading.{runs_of}
use Rattle.segment_core.specs.Vector.{place_in_runs}
use Rattle.segment_core.proofs.FoundChanges.{all_at, laid_change}
use Rattle.segment_core.proofs.found.laying.lay_all.Goals as goal

pub loop-k-preserved : goal.loop-k-preserved
loop-k-preserved g c = λ image all. (
    let form = g.R.Record.form in
    let change : Seen = c.index-change.result.now in
    let changes : List Seen = c.args.changes.now.items in
    let inside : c.loop-k.k < length changes = search rules in
    let stands = all_at (λ x. StandsAt image (first_record_of x) (record_bytes_of x.frame)) changes c.loop-k.k change all inside c.index-change.ensures in
    let one = c.in_ok-lay_change.ensures image (subst (λ x. StandsAt image (first_record_of x) (record_bytes_of x.frame)) (sym c.frame.ensures) stands) in
    laid_change form image c.loop-k.k changes change c.args.records.now c.args.notes.now c.loop-k.records
    c.loop-k.notes c.lay_change.new.records c.lay_change.new.notes inside c.index-change.ensures
    c.lay_change.auto.records
    (c.loop-k.invariant image all)
    (subst
    (λ (x : Seen). IsLaid form image (λ i. place_in_runs form.width i (first_record_of x) (runs_of x.frame)) c.loop-k.records c.loop-k.notes c.lay_change.new.records c.lay_change.new.notes)
    c.frame.ensures one))

pub returns : goal.returns
returns g c = λ image all. (
    let changes : List Seen = c.args.changes.now.items in
    let past : length changes ≤ c.loop-k.k = search rules in
    subst
    (λ (cs : List Seen). IsLaid g.R.Record.form image (live_among g.R.Record.form.width cs) c.args.records.now c.args.notes.now c.loop-k.records c.loop-k.notes)
    (take_all c.loop-k.k changes past)
    (c.loop-k.invariant image all))

-- what is asked of each change
pub lay_change-requires-clause-wide : goal.lay_change-requires-clause-wide
lay_change-requires-clause-wide g c κs within =
    let change : Seen = c.index-change.result.now in
    let changes : List Seen = c.args.changes.now.items in
    let inside : c.loop-k.k < length changes = search rules in
    subst (λ (x : Seen). x.shape.width ≡ g.R.Record.form.width) (sym c.frame.ensures)
    (all_at (λ x. x.shape.width ≡ g.R.Record.form.width) changes c.loop-k.k change c.requires.wide inside c.index-change.ensures)

pub lay_change-requires-clause-inside : goal.lay_change-requires-clause-inside
lay_change-requires-clause-inside g c κs within =
    let change : Seen = c.index-change.result.now in
    let changes : List Seen = c.args.changes.now.items in
    let inside : c.loop-k.k < length changes = search rules in
    let same : length c.args.records.now ≡ length c.loop-k.records = omega (arith, c.loop-k.auto.records) in
    subst (IsInside (length c.loop-k.records)) (sym c.frame.ensures)
    (subst (λ n. IsInside n change) same
    (all_at (IsInside (length c.args.records.now)) changes c.loop-k.k change c.requires.inside inside c.index-change.ensures))
