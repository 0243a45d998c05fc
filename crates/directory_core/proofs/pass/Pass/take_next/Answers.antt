use Rattle.std.proofs.Common.{◌≡◌, ◌<◌, ◌++◌, length, sym, ◌∙◌, ap, ap₂, subst, None, slice_get, get_or, option_to_list, take, add-one}
use Rattle.directory_core.specs.Identity.{Identity}
use Rattle.directory_core.specs.Known.{Known}
use Rattle.directory_core.specs.Notes.{HasCell}
use Rattle.directory_core.proofs.NoteRows.{filed_here, keeps_from, take_more_get}
use Rattle.directory_core.proofs.pass.Pass.take_next.Goals as goal

pub note-note-requires-after_bounds : goal.note-note-requires-after_bounds
note-note-requires-after_bounds g c κs held =
    subst (λ (p : Known g.row.R.Denot). c.args.number < length p.entries) (sym c.bucket_note-bucket.ensures.same) c.requires.longer

pub len_at-len-requires-after_bounds : goal.len_at-len-requires-after_bounds
len_at-len-requires-after_bounds g c κs held =
    subst (λ (p : Known g.row.R.Denot). c.args.number < length p.entries) (sym (c.note-note.ensures.same ∙ c.bucket_note-bucket.ensures.same)) c.requires.longer

pub add-requires-clause-room : goal.add-requires-clause-room
add-requires-clause-room g c κs held =
    subst (λ (p : Known g.row.R.Denot). length p.entries < p.of.room) (sym c.bucket_note-mine.ensures.same)
    (subst (λ n. n < c.args.self.now.of.room) c.requires.number c.requires.room.0)

pub add-requires-clause-bucket : goal.add-requires-clause-bucket
add-requires-clause-bucket g c κs held = (
  c.spot-at.ensures.in_directory c.requires.room.1,
  ap (λ n. n.cell) c.again.ensures.0 ∙ (c.bucket_note-bucket.ensures.cell
      ∙ ap (λ (d : Identity). get_or d.name.buckets c.spot-at.result.0 0) (sym (ap (λ (p : Known _). p.of) c.bucket_note-mine.ensures.same ∙ c.requires.of))),
)

pub add-requires-clause-keeps : goal.add-requires-clause-keeps
add-requires-clause-keeps g c κs held =
    let known : c.again.result.known ≡ get_or c.args.other.now.held.buckets c.spot-at.result.0 None = ap (λ n. n.known) c.again.ensures.1 ∙ c.bucket_note-bucket.ensures.known in
    let known' : c.again.new.self.known ≡ get_or c.args.other.now.held.buckets c.spot-at.result.0 None = ap (λ n. n.known) c.again.ensures.0 ∙ c.bucket_note-bucket.ensures.known in
    let filed = subst (λ (v : Known g.row.R.Denot). HasCell v.held.buckets c.args.number c.note-note.result.cell) c.bucket_note-bucket.ensures.same c.note-note.ensures.filed in
    let here = filed_here c.args.number c.spot-at.result.0 c.spot-at.result.1 c.spot-at.ensures.spot c.args.other.now.held.buckets c.note-note.result.cell filed in
    rw (c.bucket_note-mine.ensures.same, ← c.bucket_note-mine.ensures.known)
    (keeps_from c.bucket_note-mine.result.known c.again.new.self.known c.spot-at.result.1 c.note-note.result.cell (rw known' here)
    (rw (known' ∙ sym known) c.compare.ensures.1))

pub add-requires-clause-stands : goal.add-requires-clause-stands
add-requires-clause-stands g c κs held =
    let known' : c.again.new.self.known ≡ get_or c.args.other.now.held.buckets c.spot-at.result.0 None = ap (λ n. n.known) c.again.ensures.0 ∙ c.bucket_note-bucket.ensures.known in
    let filed = subst (λ (v : Known g.row.R.Denot). HasCell v.held.buckets c.args.number c.note-note.result.cell) c.bucket_note-bucket.ensures.same c.note-note.ensures.filed in
    let here = filed_here c.args.number c.spot-at.result.0 c.spot-at.result.1 c.spot-at.ensures.spot c.args.other.now.held.buckets c.note-note.result.cell filed in
    rw (c.bucket_note-mine.ensures.same, ← c.requires.number, known') (c.spot-at.ensures.spot, here)

pub returns-clause-same : goal.returns-clause-same
returns-clause-same g c = c.note-note.ensures.same ∙ c.bucket_note-bucket.ensures.same

pub returns-clause-next : goal.returns-clause-next
returns-clause-next g c =
    let known : c.note-note.result.known ≡ slice_get c.args.other.now.entries c.args.number = c.note-note.ensures.known
    ∙ ap (λ (v : Known g.row.R.Denot). slice_get v.entries c.args.number) c.bucket_note-bucket.ensures.same in
    let mine : c.bucket_note-mine.new.self.entries ≡ take c.args.number c.args.other.now.entries = ap (λ v. v.entries) c.bucket_note-mine.ensures.same ∙ sym c.requires.begins in
    c.add.ensures.entries ∙ (ap₂ (λ xs o. xs ++ option_to_list o) mine known ∙ rw add-one (sym (take_more_get c.args.other.now.entries c.args.number)))
