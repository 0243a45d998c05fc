use Rattle.std.proofs.Common.{◌≡◌, ◌<◌, ◌∙◌, sym, ap, subst, arith, ℕ, length, slice_get, Option, MatchOption}
use Rattle.once_cell.specs.declared.race.note.Note.{Note}
use Rattle.block_core.specs.Growth.{Growth}
use Rattle.directory_core.specs.Known.{Known}
use Rattle.directory_core.specs.Notes.{HasCell, IsEnd, IsEndedAt}
use Rattle.directory_core.proofs.NoteRows.{end_here, end_is_none}
use Rattle.directory_core.proofs.pass.Pass.covers.Goals as goal

pub unreachable-requires : goal.unreachable-requires
unreachable-requires g c =
    let mine : IsEndedAt c.args.self.now.held.buckets c.known-number.result c.end_note.result =
    subst (λ (k : ℕ). IsEndedAt c.args.self.now.held.buckets k c.end_note.result) (sym c.known-number.ensures.count)
    (subst (λ (v : Known g.row.R.Denot). IsEndedAt v.held.buckets (length v.entries) c.end_note.result) c.bucket_note-bucket.ensures.same c.end_note.ensures.ended) in
    let theirs = subst (λ (v : Known g.row.R.Denot). HasCell v.held.buckets c.known-number.result c.note-theirs.result.cell) c.bucket_note.ensures.same c.note-theirs.ensures.filed in
    let here = end_here c.known-number.result c.spot-at.result.0 c.spot-at.result.1 c.spot-at.ensures.spot c.args.self.now.held.buckets
    c.args.other.now.held.buckets c.note-theirs.result.cell c.end_note.result mine theirs
    (rw (← c.bucket_note.ensures.known, ← c.bucket_note-bucket.ensures.known) c.compare.ensures.1) in
    subst (λ (o : Option (Note (Growth g.row.R.Denot))). MatchOption o ⊥ (λ note. (note.cell ≡ c.note-theirs.result.cell) × MatchOption note.known ⊥ IsEnd)) c.in_default.is here

pub compare-requires-2 : goal.compare-requires-2
compare-requires-2 g c =
    let mine : IsEndedAt c.args.self.now.held.buckets c.known-number.result c.end_note.result =
    subst (λ (k : ℕ). IsEndedAt c.args.self.now.held.buckets k c.end_note.result) (sym c.known-number.ensures.count)
    (subst (λ (v : Known g.row.R.Denot). IsEndedAt v.held.buckets (length v.entries) c.end_note.result) c.bucket_note-bucket.ensures.same c.end_note.ensures.ended) in
    let theirs = subst (λ (v : Known g.row.R.Denot). HasCell v.held.buckets c.known-number.result c.note-theirs.result.cell) c.bucket_note.ensures.same c.note-theirs.ensures.filed in
    let here = end_here c.known-number.result c.spot-at.result.0 c.spot-at.result.1 c.spot-at.ensures.spot c.args.self.now.held.buckets
    c.args.other.now.held.buckets c.note-theirs.result.cell c.end_note.result mine theirs
    (rw (← c.bucket_note.ensures.known, ← c.bucket_note-bucket.ensures.known) c.compare.ensures.1) in
    sym (subst (λ (o : Option (Note (Growth g.row.R.Denot))). MatchOption o ⊥ (λ note. (note.cell ≡ c.note-theirs.result.cell) × MatchOption note.known ⊥ IsEnd)) c.in-Some.is here).0

pub unreachable-requires-2 : goal.unreachable-requires-2
unreachable-requires-2 g c =
    let mine : IsEndedAt c.args.self.now.held.buckets c.known-number.result c.end_note.result =
    subst (λ (k : ℕ). IsEndedAt c.args.self.now.held.buckets k c.end_note.result) (sym c.known-number.ensures.count)
    (subst (λ (v : Known g.row.R.Denot). IsEndedAt v.held.buckets (length v.entries) c.end_note.result) c.bucket_note-bucket.ensures.same c.end_note.ensures.ended) in
    let theirs = subst (λ (v : Known g.row.R.Denot). HasCell v.held.buckets c.known-number.result c.note-theirs.result.cell) c.bucket_note.ensures.same c.note-theirs.ensures.filed in
    let here = end_here c.known-number.result c.spot-at.result.0 c.spot-at.result.1 c.spot-at.ensures.spot c.args.self.now.held.buckets
    c.args.other.now.held.buckets c.note-theirs.result.cell c.end_note.result mine theirs
    (rw (← c.bucket_note.ensures.known, ← c.bucket_note-bucket.ensures.known) c.compare.ensures.1) in
    let stands = subst (λ (o : Option (Note (Growth g.row.R.Denot))). MatchOption o ⊥ (λ note. (note.cell ≡ c.note-theirs.result.cell) × MatchOption note.known ⊥ IsEnd)) c.in-Some.is here in
    let known : c.note-theirs.result.known ≡ slice_get c.args.other.now.entries c.known-number.result = c.note-theirs.ensures.known
    ∙ ap (λ (v : Known g.row.R.Denot). slice_get v.entries c.known-number.result) c.bucket_note.ensures.same in
    let count = c.known.ensures.count in
    let few = c.known.ensures.in_room in
    let more = c.if-known-number.false in
    end_is_none c.args.other.now.entries c.known-number.result c.note-theirs.result.known c.in-Some.end.known c.known.ensures.chained
    (omega (arith, few.0, few.1)) (omega (arith, few.0, few.1)) known stands.1 c.compare-2.ensures.1

pub note-theirs-requires-after_bounds : goal.note-theirs-requires-after_bounds
note-theirs-requires-after_bounds g c κs held =
    subst (λ n. c.known-number.result < n) (c.known.ensures.count ∙ ap (λ (p : Known _). length p.entries) (sym c.bucket_note.ensures.same)) c.if-known-number.false
