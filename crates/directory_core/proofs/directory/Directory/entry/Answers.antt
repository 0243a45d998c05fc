use Rattle.std.proofs.Common.{◌≡◌, ◌<◌, arith, ◌∙◌, ap, sym, Some, None, get_or}
use Rattle.once_cell.specs.Once.{cell_name}
use Rattle.directory_core.specs.Identity.{Identity}
use Rattle.directory_core.specs.Known.{Known}
use Rattle.directory_core.specs.Notes.{cell_in}
use Rattle.directory_core.proofs.NoteRows.{filed_here}
use Rattle.directory_core.proofs.Passes.{bucket_cell}
use Rattle.directory_core.proofs.Readings.{found_cell, no_cell, cell_inside, one_some, reads}
use Rattle.directory_core.proofs.directory.Directory.entry.Given.{Over}
use Rattle.directory_core.proofs.directory.Directory.entry.Goals.{After-spot-at, After-bucket_note-bucket_note}
use Rattle.directory_core.proofs.directory.Directory.entry.Goals as goal

in_row : (g : Over) (c : After-spot-at g) → c.spot-at.result.0 < 26
in_row g c = c.spot-at.ensures.in_directory (omega (arith, c.if-number-known.false, c.known.ensures.in_room))

pub bucket_note-bucket_note-requires-after_bounds : goal.bucket_note-bucket_note-requires-after_bounds
bucket_note-bucket_note-requires-after_bounds g c κs held = in_row g (goal.at.bucket_note-bucket_note-requires-after_bounds g c).After-spot-at

pub get_as-requires : goal.get_as-requires
get_as-requires g c =
    let names = ap (λ (d : Identity). d.name.buckets) (c.requires.of ∙ sym c.self.view_is) in
    let cell = c.bucket_note-bucket_note.ensures.cell ∙ ap (λ (p : Known _). get_or p.of.name.buckets c.spot-at.result.0 0) c.note-note.ensures.same in
    let lt = in_row g (goal.at.get_as-requires g c).After-spot-at in
    let all = c.self.invariant.0 in
    bucket_cell cell_name c.self.inside.buckets.items c.args.pass.now.of.name.buckets c.spot-at.result.0
    c.bucket_note-bucket_note.result.cell c.index.result.now cell names (omega arith) c.index.ensures

-- the bucket, as the pass knows it, has the growth's cell
here : (g : Over) (c : After-bucket_note-bucket_note g) → cell_in c.bucket_note-bucket_note.result.known c.spot-at.result.1 ≡ Some c.note-note.result.cell
here g c =
    let known : c.bucket_note-bucket_note.result.known ≡ get_or c.args.pass.now.held.buckets c.spot-at.result.0 None =
    c.bucket_note-bucket_note.ensures.known
    ∙ ap (λ (v : Known g.row.R.Denot). get_or v.held.buckets c.spot-at.result.0 None) c.note-note.ensures.same in
    ap (λ o. cell_in o c.spot-at.result.1) known
    ∙ filed_here c.args.number c.spot-at.result.0 c.spot-at.result.1 c.spot-at.ensures.spot c.args.pass.now.held.buckets c.note-note.result.cell c.note-note.ensures.filed

pub unreachable-requires : goal.unreachable-requires
unreachable-requires g c =
    no_cell _ c.spot-at.result.1 c.note-note.result.cell (here g (goal.at.unreachable-requires g c).After-bucket_note-bucket_note) c.in_default.ensures.value.0

pub unreachable-requires-in_default-cell : goal.unreachable-requires-in_default-cell
unreachable-requires-in_default-cell g c =
    let found = found_cell c.bucket_note-bucket_note.result.known c.in-Some.bucket.now c.spot-at.result.1 c.note-note.result.cell
    (here g (goal.at.unreachable-requires-in_default-cell g c).After-bucket_note-bucket_note) c.in-Some.ensures.value.1 in
    cell_inside c.in-Some.bucket.now c.spot-at.result.1 c.note-note.result.cell found c.in_default-cell.ensures

pub get_as-requires-2 : goal.get_as-requires-2
get_as-requires-2 g c =
    let found = found_cell c.bucket_note-bucket_note.result.known c.in-Some.bucket.now c.spot-at.result.1 c.note-note.result.cell
    (here g (goal.at.get_as-requires-2 g c).After-bucket_note-bucket_note) c.in-Some.ensures.value.1 in
    one_some _ _ _ found c.in-Some-cell.ensures

pub returns-clause-same : goal.returns-clause-same
returns-clause-same g c = c.bucket_note-bucket_note.ensures.same ∙ c.note-note.ensures.same

pub returns-clause-value : goal.returns-clause-value
returns-clause-value g c =
    reads c.args.pass.now.entries c.args.number c.note-note.result.known _ c.get_as-2.result c.note-note.ensures.known
    (omega (arith, c.if-number-known.false, c.known.ensures.count)) c.get_as-2.ensures.value
