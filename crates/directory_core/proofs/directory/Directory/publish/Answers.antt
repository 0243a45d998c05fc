use Rattle.std.proofs.Common.{◌≡◌, ◌<◌, ◌++◌, length, get_or, option_to_list, Some, None, MatchOption, refl, sym, ap, ap₂, subst, ◌∙◌, arith}
use Rattle.once_cell.specs.Once.{cell_name}
use Rattle.block_core.specs.Growth.{Growth}
use Rattle.block_core.specs.Length.{IsBlockLength}
use Rattle.directory_core.specs.Fault.{DirectoryHasRoom, DirectoryKeepsLimit}
use Rattle.directory_core.specs.Identity.{Identity}
use Rattle.directory_core.specs.Known.{Known}
use Rattle.directory_core.specs.Notes.{IsNextInLimit, cell_in}
use Rattle.directory_core.specs.Spot.{IsSpot}
use Rattle.directory_core.proofs.Passes.{bucket_cell, keeps_known}
use Rattle.directory_core.proofs.directory.Directory.publish.Given.{Over}
use Rattle.directory_core.proofs.directory.Directory.publish.Goals.{Else-number-self, After-is_ended, After-spot-at, After-bucket_note-bucket_note}
use Rattle.directory_core.proofs.directory.Directory.publish.Goals as goal

has_room : (g : Over) (c : Else-number-self g) → DirectoryHasRoom c.args.self.now c.args.pass.now.entries
has_room g c = let room = ap (λ (d : Identity). d.room) c.self.view_is in omega (arith, c.if-number-self.false, c.known-number.ensures.count)

keeps_limit : (g : Over) (c : After-is_ended g) → DirectoryKeepsLimit c.args.self.now c.args.pass.now.entries c.args.entry.value
keeps_limit g c =
    let limit = ap (λ (d : Identity). d.limit) c.self.view_is in
    let its = ap (λ (d : Identity). d.limit) c.requires.of in
    let many = ap length c.records.ensures.value ∙ ap (λ (e : Growth _). length e.records) c.deref.ensures in
    omega (arith, c.if-len-self.false, c.size.ensures.sum, c.size.ensures.in_limit)

in_row : (g : Over) (c : After-spot-at g) → c.spot-at.result.0 < 26
in_row g c = c.spot-at.ensures.in_directory (omega (arith, c.if-number-self.false, c.self.invariant.1))

pub bucket_note-bucket_note-requires-after_bounds : goal.bucket_note-bucket_note-requires-after_bounds
bucket_note-bucket_note-requires-after_bounds g c κs held = in_row g (goal.at.bucket_note-bucket_note-requires-after_bounds g c).After-spot-at

pub get_or_try_init_as-made-requires-clause-cell : goal.get_or_try_init_as-made-requires-clause-cell
get_or_try_init_as-made-requires-clause-cell g c =
    let names = ap (λ (d : Identity). d.name.buckets) (c.requires.of ∙ sym c.self.view_is) in
    let lt = in_row g (goal.at.get_or_try_init_as-made-requires-clause-cell g c).After-spot-at in
    let all = c.self.invariant.0 in
    bucket_cell cell_name c.self.inside.buckets.items c.args.pass.now.of.name.buckets c.spot-at.result.0
    c.bucket_note-bucket_note.result.cell c.index.result.now c.bucket_note-bucket_note.ensures.cell names (omega arith) c.index.ensures

pub get_or_try_init_as-made-requires-clause-callable : goal.get_or_try_init_as-made-requires-clause-callable
get_or_try_init_as-made-requires-clause-callable g c = (in_row g (goal.at.get_or_try_init_as-made-requires-clause-callable g c).After-spot-at, (c.type_bounds.send-R, c.type_bounds.sync-R))

-- the pass takes the growth in

pub add-requires-clause-room : goal.add-requires-clause-room
add-requires-clause-room g c κs held =
    subst (λ (p : Known g.row.R.Denot). length p.entries < p.of.room) (sym c.bucket_note-bucket_note.ensures.same)
    (subst (λ (d : Identity). length c.args.pass.now.entries < d.room) (sym c.requires.of) (has_room g (goal.at.add-requires-clause-room g c).Else-number-self))

pub add-requires-clause-bucket : goal.add-requires-clause-bucket
add-requires-clause-bucket g c κs held = (
  in_row g (goal.at.add-requires-clause-bucket g c).After-spot-at,
  c.get_or_try_init_as-made.ensures.cell ∙ (c.bucket_note-bucket_note.ensures.cell
      ∙ ap (λ (p : Known _). get_or p.of.name.buckets c.spot-at.result.0 0) (sym c.bucket_note-bucket_note.ensures.same)),
)

pub add-requires-clause-keeps : goal.add-requires-clause-keeps
add-requires-clause-keeps g c κs held =
    let was = ap (λ (p : Known _). get_or p.held.buckets c.spot-at.result.0 None) c.bucket_note-bucket_note.ensures.same ∙ sym c.bucket_note-bucket_note.ensures.known in
    keeps_known _ c.bucket_note-bucket_note.result.known c.get_or_try_init_as-made.new.note.known c.in-Ok.bucket.now was c.in-Ok.ensures.value.1 c.in-Ok.ensures.value.0

pub add-requires-clause-stands : goal.add-requires-clause-stands
add-requires-clause-stands g c κs held = (
  subst (λ k. IsSpot k c.spot-at.result.0 c.spot-at.result.1)
      (c.known-number.ensures.count ∙ ap (λ (p : Known _). length p.entries) (sym c.bucket_note-bucket_note.ensures.same)) c.spot-at.ensures.spot,
  subst (λ o. cell_in o c.spot-at.result.1 ≡ Some c.set_as.new.note.cell) (sym c.in-Ok.ensures.value.0)
      (c.in-Some.ensures ∙ ap Some (sym (c.set_as.ensures.cell ∙ c.note-note.ensures.0))),
)

pub add-requires-clause-follows : goal.add-requires-clause-follows
add-requires-clause-follows g c κs held =
    let fits = keeps_limit g (goal.at.add-requires-clause-follows g c).After-is_ended in
    let many = ap length c.records.ensures.value in
    let whole = ap (λ (e : Growth _). length e.records) c.deref.ensures in
    let limit = ap (λ (d : Identity). d.limit) c.requires.of in
    let now = c.bucket_note-bucket_note.new.self in
    subst (λ o. MatchOption o ⊥ (IsNextInLimit {R = g.row.R.Denot} g.R.Record.form.width now.of.limit now.entries (length c.records.result.now)))
    (sym c.in-Ok-set_as.ensures.value.0)
    (subst (λ (p : Known g.row.R.Denot). IsNextInLimit g.R.Record.form.width p.of.limit p.entries (length c.records.result.now) c.args.entry.value) (sym c.bucket_note-bucket_note.ensures.same)
    (record { next = c.requires.next; len_is = sym (many ∙ whole); block = subst (λ k. IsBlockLength g.R.Record.form.width k) (sym many) c.records.ensures.in_a_frame; fits = omega arith }))

pub add-requires-clause-open : goal.add-requires-clause-open
add-requires-clause-open g c κs held = ap (λ (p : Known _). p.ended) c.bucket_note-bucket_note.ensures.same ∙ (sym c.is_ended.ensures ∙ c.if-is_ended.false)

pub returns-in-Ok-set_as : goal.returns-in-Ok-set_as
returns-in-Ok-set_as g c =
    let was = c.bucket_note-bucket_note.ensures.same in
    record {
      of = c.add.ensures.of ∙ (ap (λ (p : Known _). p.of) was ∙ c.requires.of);
      list = c.add.ensures.entries ∙ ap₂ (λ xs o. xs ++ option_to_list o) (ap (λ (p : Known _). p.entries) was) c.in-Ok-set_as.ensures.value.0;
      fault = tt;
    }

-- it is refused

pub returns-in-Err : goal.returns-in-Err
returns-in-Err g c =
    let was = c.bucket_note-bucket_note.ensures.same in
    record {
      of = ap (λ (p : Known _). p.of) was ∙ c.requires.of;
      list = (c.in-Err.ensures.value, ap (λ (p : Known _). p.entries) was);
      fault = (has_room g (goal.at.returns-in-Err g c).Else-number-self, keeps_limit g (goal.at.returns-in-Err g c).After-is_ended);
    }

pub returns-in_default-cell : goal.returns-in_default-cell
returns-in_default-cell g c =
    let was = c.bucket_note-bucket_note.ensures.same in
    record {
      of = ap (λ (p : Known _). p.of) was ∙ c.requires.of;
      list = (refl, ap (λ (p : Known _). p.entries) was);
      fault = (has_room g (goal.at.returns-in_default-cell g c).Else-number-self, c.known-number.ensures.count);
    }

pub returns-in_default : goal.returns-in_default
returns-in_default g c =
    let was = c.bucket_note-bucket_note.ensures.same in
    record {
      of = ap (λ (p : Known _). p.of) was ∙ c.requires.of;
      list = (refl, ap (λ (p : Known _). p.entries) was);
      fault = (has_room g (goal.at.returns-in_default g c).Else-number-self, keeps_limit g (goal.at.returns-in_default g c).After-is_ended);
    }

pub returns-then-is_ended : goal.returns-then-is_ended
returns-then-is_ended g c = record {
  of = c.requires.of;
  list = (refl, refl);
  fault = (has_room g (goal.at.returns-then-is_ended g c).Else-number-self, keeps_limit g (goal.at.returns-then-is_ended g c).After-is_ended);
}
