use Rattle.std.proofs.Common.{◌≡◌, ℕ, ◌<◌, length, get_or, inl, None, Some, IfSome, MatchOption, ap, sym, subst, refl, ◌∙◌, arith}
use Rattle.once_cell.specs.Once.{cell_name}
use Rattle.once_cell.specs.declared.race.once_box.OnceBox.{OnceBox}
use Rattle.directory_core.specs.declared.bucket.Bucket.{Bucket}
use Rattle.directory_core.specs.Identity.{Identity}
use Rattle.directory_core.specs.Known.{Known}
use Rattle.directory_core.specs.Notes.{IsEnd, EndsIn}
use Rattle.directory_core.specs.Spot.{IsSpot}
use Rattle.directory_core.proofs.Passes.{in_directory, not_ended, bucket_cell, keeps_known, agrees_too, some_or_none}
use Rattle.directory_core.proofs.directory.Directory.end.Given.{Over}
use Rattle.directory_core.proofs.directory.Directory.end.Goals.{After-spot-at, After-bucket_note-bucket_note, After-self, In-Some-get_as}
use Rattle.directory_core.proofs.directory.Directory.end.Goals as goal

in_row : (g : Over) (c : After-spot-at g) → c.spot-at.result.0 < 26
in_row g c = c.spot-at.ensures.in_directory
    (in_directory c.args.pass.now c.knows_all.result c.knows_all.ensures c.if-knows_all.false c.take_ends.new.self c.known.result c.take_ends.ensures c.known.ensures.count c.known.ensures.in_room)

pub bucket_note-bucket_note-requires-after_bounds : goal.bucket_note-bucket_note-requires-after_bounds
bucket_note-bucket_note-requires-after_bounds g c κs held = in_row g (goal.at.bucket_note-bucket_note-requires-after_bounds g c).After-spot-at

-- a note of the bucket's cell is one of that cell of the directory
is_of : (g : Over) (c : After-self g) → c.spot-at.result.0 < 26 → (cell : ℕ) (b : OnceBox (Bucket g.row.R.Denot))
    → cell ≡ c.bucket_note-bucket_note.result.cell → b ≡ get_or c.self.inside.buckets.items c.spot-at.result.0 b → cell ≡ cell_name b
is_of g c lt cell b same is =
    let names = ap (λ (p : Known _). p.of.name.buckets) c.take_ends.ensures ∙ ap (λ (d : Identity). d.name.buckets) (c.requires.of ∙ sym c.self.view_is) in
    let all = c.self.invariant.0 in
    bucket_cell cell_name c.self.inside.buckets.items c.take_ends.new.self.of.name.buckets c.spot-at.result.0 cell b (same ∙ c.bucket_note-bucket_note.ensures.cell) names (omega arith) is

pub set_as-unused-requires : goal.set_as-unused-requires
set_as-unused-requires g c =
    is_of g (goal.at.set_as-unused-requires g c).After-self (in_row g (goal.at.set_as-unused-requires g c).After-spot-at)
    c.bucket_note-bucket_note.result.cell c.index.result.now refl c.index.ensures

pub get_as-requires : goal.get_as-requires
get_as-requires g c =
    is_of g (goal.at.get_as-requires g c).After-self (in_row g (goal.at.get_as-requires g c).After-spot-at)
    c.set_as-unused.new.note.cell c.index-2.result.now c.set_as-unused.ensures.cell c.index-2.ensures

cell_is : (g : Over) (c : In-Some-get_as g) → c.get_as.new.note.cell ≡ get_or c.bucket_note-bucket_note.new.self.of.name.buckets c.spot-at.result.0 0
cell_is g c = c.get_as.ensures.cell ∙ (c.set_as-unused.ensures.cell ∙ (c.bucket_note-bucket_note.ensures.cell
    ∙ ap (λ (p : Known _). get_or p.of.name.buckets c.spot-at.result.0 0) (sym c.bucket_note-bucket_note.ensures.same)))

keeps : (g : Over) (c : In-Some-get_as g) → IfSome (get_or c.bucket_note-bucket_note.new.self.held.buckets c.spot-at.result.0 None) (λ names. c.get_as.new.note.known ≡ Some names)
keeps g c =
    let was = ap (λ (p : Known _). get_or p.held.buckets c.spot-at.result.0 None) c.bucket_note-bucket_note.ensures.same ∙ sym c.bucket_note-bucket_note.ensures.known in
    let seen = c.set_as-unused.ensures.known in
    let read = c.in-Some-get_as.ensures.value in
    keeps_known _ c.bucket_note-bucket_note.result.known c.get_as.new.note.known c.in-Some-get_as.found.now was
    (agrees_too c.bucket_note-bucket_note.result.known c.set_as-unused.new.note.known seen.0 c.in-Some-get_as.found.now seen.1 seen.2 read.1) read.0

spot_is : (g : Over) (c : After-bucket_note-bucket_note g) → IsSpot (length c.bucket_note-bucket_note.new.self.entries) c.spot-at.result.0 c.spot-at.result.1
spot_is g c =
    subst (λ k. IsSpot k c.spot-at.result.0 c.spot-at.result.1) (c.known.ensures.count ∙ ap (λ (p : Known _). length p.entries) (sym c.bucket_note-bucket_note.ensures.same)) c.spot-at.ensures.spot

pub end_at-requires-clause-bucket : goal.end_at-requires-clause-bucket
end_at-requires-clause-bucket g c κs held =
    (in_row g (goal.at.end_at-requires-clause-bucket g c).After-spot-at, cell_is g (goal.at.end_at-requires-clause-bucket g c).In-Some-get_as)

pub end_at-requires-clause-keeps : goal.end_at-requires-clause-keeps
end_at-requires-clause-keeps g c κs held = keeps g (goal.at.end_at-requires-clause-keeps g c).In-Some-get_as

pub end_at-requires-clause-spot : goal.end_at-requires-clause-spot
end_at-requires-clause-spot g c κs held = spot_is g (goal.at.end_at-requires-clause-spot g c).After-bucket_note-bucket_note

pub end_at-requires-clause-ends : goal.end_at-requires-clause-ends
end_at-requires-clause-ends g c κs held =
    subst (λ o. MatchOption o ⊥ (EndsIn {R = g.row.R.Denot} c.spot-at.result.1 None)) (sym c.in-Some-get_as.ensures.value.0) c.in_default-cell.ensures

pub end_at-requires-in-Ok-default-clause-ends : goal.end_at-requires-in-Ok-default-clause-ends
end_at-requires-in-Ok-default-clause-ends g c κs held =
    let set = rw c.in-Ok-default.is-0 at c.set_as.ensures.value in
    subst (λ o. MatchOption o ⊥ (EndsIn {R = g.row.R.Denot} c.spot-at.result.1 (Some c.set_as.new.note))) (sym c.in-Some-get_as.ensures.value.0)
    (c.in-Some-cell.ensures ∙ ap Some (sym (c.set_as.ensures.cell ∙ c.note-note.ensures.0)), subst (λ o. MatchOption o ⊥ IsEnd) (sym set.0) c.in-Some.ends.is_end)

pub end_at-requires-in-Ok-default-clause-bucket : goal.end_at-requires-in-Ok-default-clause-bucket
end_at-requires-in-Ok-default-clause-bucket g c κs held =
    (in_row g (goal.at.end_at-requires-in-Ok-default-clause-bucket g c).After-spot-at, cell_is g (goal.at.end_at-requires-in-Ok-default-clause-bucket g c).In-Some-get_as)

pub end_at-requires-in-Ok-default-clause-keeps : goal.end_at-requires-in-Ok-default-clause-keeps
end_at-requires-in-Ok-default-clause-keeps g c κs held = keeps g (goal.at.end_at-requires-in-Ok-default-clause-keeps g c).In-Some-get_as

pub end_at-requires-in-Ok-default-clause-spot : goal.end_at-requires-in-Ok-default-clause-spot
end_at-requires-in-Ok-default-clause-spot g c κs held = spot_is g (goal.at.end_at-requires-in-Ok-default-clause-spot g c).After-bucket_note-bucket_note

pub returns-in_default-cell : goal.returns-in_default-cell
returns-in_default-cell g c =
    let was = c.bucket_note-bucket_note.ensures.same ∙ c.take_ends.ensures in
    record {
      of = c.end_at.ensures.of ∙ (ap (λ (p : Known _). p.of) was ∙ c.requires.of);
      same = c.end_at.ensures.entries ∙ ap (λ (p : Known _). p.entries) was;
      all = (λ _. inl c.end_at.ensures.ended.0, λ _. refl);
    }

pub returns-in-Ok-default : goal.returns-in-Ok-default
returns-in-Ok-default g c =
    let was = c.bucket_note-bucket_note.ensures.same ∙ c.take_ends.ensures in
    record {
      of = c.end_at-in-Ok-default.ensures.of ∙ (ap (λ (p : Known _). p.of) was ∙ c.requires.of);
      same = c.end_at-in-Ok-default.ensures.entries ∙ ap (λ (p : Known _). p.entries) was;
      all = (λ _. inl c.end_at-in-Ok-default.ensures.ended.0, λ _. refl);
    }

pub returns-in_default : goal.returns-in_default
returns-in_default g c =
    let was = c.take_ends.ensures in
    record {
      of = ap (λ (p : Known _). p.of) was ∙ c.requires.of;
      same = ap (λ (p : Known _). p.entries) was;
      all = not_ended c.args.pass.now c.knows_all.result c.knows_all.ensures c.if-knows_all.false _ was;
    }

pub invariant_of-keep_ends : goal.invariant_of-keep_ends
invariant_of-keep_ends g c = record { is_end = ap (λ e. e.number) c.in-Err-Err.ensures.value ∙ c.in-Some.ends.is_end }

pub returns-in-Err-Err : goal.returns-in-Err-Err
returns-in-Err-Err g c =
    let was = c.keep_ends.ensures ∙ (c.bucket_note-bucket_note.ensures.same ∙ c.take_ends.ensures) in
    record {
      of = ap (λ (p : Known _). p.of) was ∙ c.requires.of;
      same = ap (λ (p : Known _). p.entries) was;
      all = not_ended c.args.pass.now c.knows_all.result c.knows_all.ensures c.if-knows_all.false _ was;
    }

pub returns : goal.returns
returns g c =
    let was = c.bucket_note-bucket_note.ensures.same ∙ c.take_ends.ensures in
    record {
      of = ap (λ (p : Known _). p.of) was ∙ c.requires.of;
      same = ap (λ (p : Known _). p.entries) was;
      all = not_ended c.args.pass.now c.knows_all.result c.knows_all.ensures c.if-knows_all.false _ was;
    }

pub unreachable-requires : goal.unreachable-requires
unreachable-requires g c = some_or_none c.set_as-unused.new.note.known c.set_as-unused.ensures.known.0 c.set_as-unused.ensures.known.1 c.in_default-get_as.ensures.value.0
