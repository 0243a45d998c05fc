use Rattle.std.proofs.Common.{◌≡◌, ◌<◌, length, sym, ◌∙◌, ap, subst, slice_get}
use Rattle.directory_core.specs.Known.{Known}
use Rattle.directory_core.specs.Notes.{HasCell}
use Rattle.directory_core.proofs.NoteRows.{one_cell, agree_get}
use Rattle.directory_core.proofs.pass.Pass.agree_at.Goals as goal

pub compare-requires-2 : goal.compare-requires-2
compare-requires-2 g c =
    let mine = subst (λ (v : Known g.row.R.Denot). HasCell v.held.buckets c.args.number c.note-note.result.cell) c.bucket_note-bucket.ensures.same c.note-note.ensures.filed in
    let theirs = subst (λ (v : Known g.row.R.Denot). HasCell v.held.buckets c.args.number c.note.result.cell) c.bucket_note.ensures.same c.note.ensures.filed in
    sym (one_cell c.args.number c.spot-at.result.0 c.spot-at.result.1 c.spot-at.ensures.spot c.args.self.now.held.buckets
    c.args.other.now.held.buckets _ _ mine theirs
    (rw (← c.bucket_note.ensures.known, ← c.bucket_note-bucket.ensures.known) c.compare.ensures.1))

pub returns-clause-agree : goal.returns-clause-agree
returns-clause-agree g c =
    let mine : c.note-note.result.known ≡ slice_get c.args.self.now.entries c.args.number = c.note-note.ensures.known
    ∙ ap (λ (v : Known g.row.R.Denot). slice_get v.entries c.args.number) c.bucket_note-bucket.ensures.same in
    let theirs : c.note.result.known ≡ slice_get c.args.other.now.entries c.args.number = c.note.ensures.known
    ∙ ap (λ (v : Known g.row.R.Denot). slice_get v.entries c.args.number) c.bucket_note.ensures.same in
    agree_get c.args.self.now.entries c.args.other.now.entries c.args.number c.requires.mine c.requires.theirs (rw (← mine, ← theirs) c.compare-2.ensures.1)

pub note-requires-after_bounds : goal.note-requires-after_bounds
note-requires-after_bounds g c κs held =
    subst (λ (p : Known g.row.R.Denot). c.args.number < length p.entries) (sym c.bucket_note.ensures.same) c.requires.theirs
