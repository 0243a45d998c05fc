use Rattle.std.proofs.Common.{refl, ap, ◌∙◌}
use Rattle.std.proofs.lemmas.List.{length-map, nil_from_length}
use Rattle.once_cell.specs.declared.race.note.Note.{Note}
use Rattle.directory_core.specs.Notes.{somes, known_of}
use Rattle.directory_core.proofs.NoteRows.{knows_none}
use Rattle.directory_core.proofs.pass.Pass.of.Goals as goal

pub invariant_of-result : goal.invariant_of-result
invariant_of-result g c =
    knows_none g.R.Record.form.width c.args.room c.args.limit (known_of c.args.buckets.items) c.args.notes.items c.args.starts.items _ _
    (length-map c.args.buckets.items (λ (n : Note _). n.known) ∙ c.requires.buckets) c.requires.notes.0 c.requires.starts.0
    (c.requires.notes.1, c.requires.starts.1) c.requires.limits

pub returns-clause-none : goal.returns-clause-none
returns-clause-none g c = (ap (λ ns. somes (known_of ns)) (nil_from_length c.args.notes.items c.requires.notes.0), refl)
