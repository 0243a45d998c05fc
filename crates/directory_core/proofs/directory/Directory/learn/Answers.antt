use Rattle.std.proofs.Common.{◌≡◌, ◌<◌, length, get_or, Some, None, IfSome, MatchOption, refl, sym, ap, subst, ◌∙◌, arith}
use Rattle.once_cell.specs.Once.{cell_name}
use Rattle.directory_core.specs.Identity.{Identity}
use Rattle.directory_core.specs.Known.{Known}
use Rattle.directory_core.specs.Notes.{EndsIn, cell_in}
use Rattle.directory_core.specs.Spot.{IsSpot}
use Rattle.directory_core.proofs.Passes.{not_all, room_left, not_yet_ended, in_directory, bucket_cell, keeps_known, nothing, judged}
use Rattle.directory_core.proofs.directory.Directory.learn.Given.{Over}
use Rattle.directory_core.proofs.directory.Directory.learn.Goals.{After-spot-at, After-bucket_note-bucket_note, In-Some}
use Rattle.directory_core.proofs.directory.Directory.learn.Goals as goal

-- nothing was found

pub returns-then-knows_all : goal.returns-then-knows_all
returns-then-knows_all g c =
    let is = c.find_nothing.ensures in
    nothing c.args.pass.now c.find_nothing.new.self c.args.self.now (ap (λ (p : Known _). p.of) is ∙ c.requires.of) (ap (λ (p : Known _). p.entries) is) (ap (λ (p : Known _). p.strayed) is)

pub returns-in_default : goal.returns-in_default
returns-in_default g c =
    let is = c.find_nothing-in_default.ensures in
    let was = c.bucket_note-bucket_note.ensures.same in
    nothing c.args.pass.now c.find_nothing-in_default.new.self c.args.self.now (ap (λ (p : Known _). p.of) is ∙ (ap (λ (p : Known _). p.of) was ∙ c.requires.of))
    (ap (λ (p : Known _). p.entries) is ∙ ap (λ (p : Known _). p.entries) was) (ap (λ (p : Known _). p.strayed) is)

pub returns-in_default-get_as : goal.returns-in_default-get_as
returns-in_default-get_as g c =
    let is = c.find_nothing-in_default-get_as.ensures in
    let was = c.bucket_note-bucket_note.ensures.same in
    nothing c.args.pass.now c.find_nothing-in_default-get_as.new.self c.args.self.now (ap (λ (p : Known _). p.of) is ∙ (ap (λ (p : Known _). p.of) was ∙ c.requires.of))
    (ap (λ (p : Known _). p.entries) is ∙ ap (λ (p : Known _). p.entries) was) (ap (λ (p : Known _). p.strayed) is)

pub returns-in_default-cell : goal.returns-in_default-cell
returns-in_default-cell g c =
    let was = c.bucket_note-bucket_note.ensures.same in
    nothing c.args.pass.now c.end_at.new.self c.args.self.now (c.end_at.ensures.of ∙ (ap (λ (p : Known _). p.of) was ∙ c.requires.of))
    (c.end_at.ensures.entries ∙ ap (λ (p : Known _). p.entries) was) c.end_at.ensures.ended.1

-- the bucket, and what the pass knows of it

in_row : (g : Over) (c : After-spot-at g) → c.spot-at.result.0 < 26
in_row g c = c.spot-at.ensures.in_directory
    (in_directory c.args.pass.now c.knows_all.result c.knows_all.ensures c.if-knows_all.false c.args.pass.now c.known-number.result refl c.known-number.ensures.count c.known-number.ensures.in_room)

pub bucket_note-bucket_note-requires-after_bounds : goal.bucket_note-bucket_note-requires-after_bounds
bucket_note-bucket_note-requires-after_bounds g c κs held = in_row g (goal.at.bucket_note-bucket_note-requires-after_bounds g c).After-spot-at

pub get_as-requires : goal.get_as-requires
get_as-requires g c =
    let names = ap (λ (d : Identity). d.name.buckets) (c.requires.of ∙ sym c.self.view_is) in
    let lt = in_row g (goal.at.get_as-requires g c).After-spot-at in
    let all = c.self.invariant.0 in
    bucket_cell cell_name c.self.inside.buckets.items c.args.pass.now.of.name.buckets c.spot-at.result.0
    c.bucket_note-bucket_note.result.cell c.index.result.now c.bucket_note-bucket_note.ensures.cell names (omega arith) c.index.ensures

cell_is : (g : Over) (c : In-Some g) → c.get_as.new.note.cell ≡ get_or c.bucket_note-bucket_note.new.self.of.name.buckets c.spot-at.result.0 0
cell_is g c = c.get_as.ensures.cell ∙ (c.bucket_note-bucket_note.ensures.cell
    ∙ ap (λ (p : Known _). get_or p.of.name.buckets c.spot-at.result.0 0) (sym c.bucket_note-bucket_note.ensures.same))

keeps : (g : Over) (c : In-Some g) → IfSome (get_or c.bucket_note-bucket_note.new.self.held.buckets c.spot-at.result.0 None) (λ names. c.get_as.new.note.known ≡ Some names)
keeps g c =
    let was = ap (λ (p : Known _). get_or p.held.buckets c.spot-at.result.0 None) c.bucket_note-bucket_note.ensures.same ∙ sym c.bucket_note-bucket_note.ensures.known in
    keeps_known _ c.bucket_note-bucket_note.result.known c.get_as.new.note.known c.in-Some.bucket.now was c.in-Some.ensures.value.1 c.in-Some.ensures.value.0

spot_is : (g : Over) (c : After-bucket_note-bucket_note g) → IsSpot (length c.bucket_note-bucket_note.new.self.entries) c.spot-at.result.0 c.spot-at.result.1
spot_is g c = subst (λ k. IsSpot k c.spot-at.result.0 c.spot-at.result.1)
    (c.known-number.ensures.count ∙ ap (λ (p : Known _). length p.entries) (sym c.bucket_note-bucket_note.ensures.same)) c.spot-at.ensures.spot

pub end_at-requires-clause-bucket : goal.end_at-requires-clause-bucket
end_at-requires-clause-bucket g c κs held =
    (in_row g (goal.at.end_at-requires-clause-bucket g c).After-spot-at, cell_is g (goal.at.end_at-requires-clause-bucket g c).In-Some)

pub end_at-requires-clause-keeps : goal.end_at-requires-clause-keeps
end_at-requires-clause-keeps g c κs held = keeps g (goal.at.end_at-requires-clause-keeps g c).In-Some

pub end_at-requires-clause-spot : goal.end_at-requires-clause-spot
end_at-requires-clause-spot g c κs held = spot_is g (goal.at.end_at-requires-clause-spot g c).After-bucket_note-bucket_note

pub end_at-requires-clause-ends : goal.end_at-requires-clause-ends
end_at-requires-clause-ends g c κs held =
    subst (λ o. MatchOption o ⊥ (EndsIn {R = g.row.R.Denot} c.spot-at.result.1 None)) (sym c.in-Some.ensures.value.0) c.in_default-cell.ensures

-- it is judged

pub judge-requires-clause-room : goal.judge-requires-clause-room
judge-requires-clause-room g c κs held =
    subst (λ (p : Known g.row.R.Denot). length p.entries < p.of.room) (sym c.bucket_note-bucket_note.ensures.same)
    (room_left c.args.pass.now c.knows_all.result c.knows_all.ensures c.if-knows_all.false)

pub judge-requires-clause-bucket : goal.judge-requires-clause-bucket
judge-requires-clause-bucket g c κs held =
    (in_row g (goal.at.judge-requires-clause-bucket g c).After-spot-at, cell_is g (goal.at.judge-requires-clause-bucket g c).In-Some)

pub judge-requires-clause-keeps : goal.judge-requires-clause-keeps
judge-requires-clause-keeps g c κs held = keeps g (goal.at.judge-requires-clause-keeps g c).In-Some

pub judge-requires-clause-stands : goal.judge-requires-clause-stands
judge-requires-clause-stands g c κs held = (
  spot_is g (goal.at.judge-requires-clause-stands g c).After-bucket_note-bucket_note,
  subst (λ o. cell_in o c.spot-at.result.1 ≡ Some c.get_as-2.new.note.cell) (sym c.in-Some.ensures.value.0)
      (c.in-Some-cell.ensures ∙ ap Some (sym (c.get_as-2.ensures.cell ∙ c.note-note.ensures.0))),
)

pub judge-requires-clause-open : goal.judge-requires-clause-open
judge-requires-clause-open g c κs held =
    ap (λ (p : Known _). p.ended) c.bucket_note-bucket_note.ensures.same ∙ not_yet_ended c.args.pass.now c.knows_all.result c.knows_all.ensures c.if-knows_all.false

pub returns : goal.returns
returns g c =
    judged c.args.pass.now c.judge.new.self c.args.self.now (c.judge.ensures.of ∙ (ap (λ (p : Known _). p.of) c.bucket_note-bucket_note.ensures.same ∙ c.requires.of))
    g.R.Record.form.width c.bucket_note-bucket_note.new.self c.in-Some-get_as.entry.now
    (not_all c.args.pass.now c.knows_all.result c.knows_all.ensures c.if-knows_all.false) (room_left c.args.pass.now c.knows_all.result c.knows_all.ensures c.if-knows_all.false)
    c.requires.of c.bucket_note-bucket_note.ensures.same c.judge.result c.judge.ensures.judged
