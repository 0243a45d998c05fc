use Rattle.std.proofs.Common.{◌≡◌, ◌<◌, ◌++◌, [], ◌∷◌, arith, sym, refl, ◌∙◌, ap, subst, false, Some, None, IfSome, MatchOption, length, get_or}
use Rattle.std.proofs.lemmas.List.{map-set, map-append, length-map, get_or-map}
use Rattle.std.proofs.Math.Seq.{map-set_same}
use Rattle.once_cell.specs.declared.race.note.Note.{Note}
use Rattle.directory_core.specs.Known.{Known}
use Rattle.directory_core.specs.Notes.{StandsIn, IsNextInLimit, known_of, cells_of, somes}
use Rattle.directory_core.proofs.Somes.{somes-append, somes_one}
use Rattle.directory_core.proofs.NoteRows.{added}
use Rattle.directory_core.proofs.pass.Pass.add.Goals as goal

pub invariant_of-self : goal.invariant_of-self
invariant_of-self g c =
    let asked = subst (λ (v : Known g.row.R.Denot). (length v.entries < v.of.room)
    × IfSome (get_or v.held.buckets c.args.bucket None) (λ names. c.args.bucket_note.known ≡ Some names)
    × StandsIn (length v.entries) c.args.bucket c.args.place c.args.bucket_note.known c.args.note.cell
    × MatchOption c.args.note.known ⊥ (IsNextInLimit g.R.Record.form.width v.of.limit v.entries c.args.len) × (v.ended ≡ false)) (sym c.self.view_is)
    (c.requires.room, c.requires.keeps, c.requires.stands, c.requires.follows, c.requires.open) in
    rw (
      c.push_reserved.ensures.items,
      c.push_reserved.ensures.capacity,
      c.push_reserved-2.ensures.items,
      c.push_reserved-2.ensures.capacity,
      map-set (λ (n : Note _). n.known) c.self.inside.buckets.items c.args.bucket c.args.bucket_note,
      map-append (λ (n : Note _). n.cell) c.self.inside.notes.items (c.args.note ∷ []),
      map-append (λ (n : Note _). n.known) c.self.inside.notes.items (c.args.note ∷ []),
    ) (added c.self.invariant c.args.bucket c.args.place c.args.bucket_note.known c.args.note.cell c.args.note.known c.args.len c.requires.bucket.0 asked)

pub returns-clause-of : goal.returns-clause-of
returns-clause-of g c =
    let lt : c.args.bucket < length c.self.inside.buckets.items =
    omega (arith, c.self.invariant.notes.all_buckets, length-map c.self.inside.buckets.items (λ (n : Note _). n.known), c.requires.bucket.0) in
    let is : c.args.bucket_note.cell ≡ get_or (cells_of c.self.inside.buckets.items) c.args.bucket 0 =
    subst (λ (v : Known g.row.R.Denot). c.args.bucket_note.cell ≡ get_or v.of.name.buckets c.args.bucket 0)
    (sym c.self.view_is) c.requires.bucket.1 in
    let cell = get_or-map (λ (n : Note _). n.cell) c.self.inside.buckets.items c.args.bucket c.args.bucket_note 0 lt in
    rw (
      ← c.self.view_is,
      map-set_same (λ (n : Note _). n.cell) c.self.inside.buckets.items c.args.bucket c.args.bucket_note c.args.bucket_note (is ∙ cell),
    ) refl

pub returns-clause-entries : goal.returns-clause-entries
returns-clause-entries g c =
    rw (c.push_reserved.ensures.items, ← c.self.view_is, map-append (λ (n : Note _). n.known) c.self.inside.notes.items (c.args.note ∷ []))
    (somes-append (known_of c.self.inside.notes.items) (c.args.note.known ∷ [])
    ∙ ap (λ es. somes (known_of c.self.inside.notes.items) ++ es) (somes_one c.args.note.known))
