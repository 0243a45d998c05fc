use Rattle.std.proofs.Common.{◌≡◌, ◌<◌, arith, sym, refl, ◌∙◌, subst, None, Some, IfSome, MatchOption, length, get_or}
use Rattle.std.proofs.lemmas.List.{map-set, length-map, get_or-map}
use Rattle.std.proofs.Math.Seq.{map-set_same}
use Rattle.once_cell.specs.declared.race.note.Note.{Note}
use Rattle.directory_core.specs.Known.{Known}
use Rattle.directory_core.specs.Notes.{EndsIn, cells_of}
use Rattle.directory_core.specs.Spot.{IsSpot}
use Rattle.directory_core.proofs.NoteRows.{ended}
use Rattle.directory_core.proofs.pass.Pass.end_at.Goals as goal

pub invariant_of-self : goal.invariant_of-self
invariant_of-self g c =
    let asked = subst (λ (v : Known g.row.R.Denot). IfSome (get_or v.held.buckets c.args.bucket None) (λ names. c.args.bucket_note.known ≡ Some names)
    × IsSpot (length v.entries) c.args.bucket c.args.place
    × MatchOption c.args.bucket_note.known ⊥ (EndsIn c.args.place c.args.end)) (sym c.self.view_is)
    (c.requires.keeps, c.requires.spot, c.requires.ends) in
    rw (map-set (λ (n : Note _). n.known) c.self.inside.buckets.items c.args.bucket c.args.bucket_note)
    (ended c.self.invariant c.args.bucket c.args.place c.args.bucket_note.known c.args.end c.requires.bucket.0 asked)

pub returns-clause-of : goal.returns-clause-of
returns-clause-of g c =
    let lt : c.args.bucket < length c.self.inside.buckets.items =
    omega (arith, c.self.invariant.notes.all_buckets, length-map c.self.inside.buckets.items (λ (n : Note _). n.known), c.requires.bucket.0) in
    let is : c.args.bucket_note.cell ≡ get_or (cells_of c.self.inside.buckets.items) c.args.bucket 0 =
    subst (λ (v : Known g.row.R.Denot). c.args.bucket_note.cell ≡ get_or v.of.name.buckets c.args.bucket 0)
    (sym c.self.view_is) c.requires.bucket.1 in
    let cell = get_or-map (λ (n : Note _). n.cell) c.self.inside.buckets.items c.args.bucket c.args.bucket_note 0 lt in
    rw (
      ← c.self.view_is,
      map-set_same (λ (n : Note _). n.cell) c.self.inside.buckets.items c.args.bucket c.args.bucket_note c.args.bucket_note (is ∙ cell),
    ) refl
