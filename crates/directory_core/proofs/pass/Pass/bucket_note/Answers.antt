use Rattle.std.proofs.Common.{◌<◌, length, get_or, set, None, ◌∙◌, ap, arith}
use Rattle.std.proofs.lemmas.List.{length-map, set-get_or}
use Rattle.once_cell.specs.declared.race.note.Note.{Note}
use Rattle.directory_core.specs.Known.{Known}
use Rattle.directory_core.proofs.Somes.{note_known, note_cell}
use Rattle.directory_core.proofs.pass.Pass.bucket_note.Goals as goal

pub invariant_of-self : goal.invariant_of-self
invariant_of-self g c =
    let kept = ap (λ n. set c.self.inside.buckets.items c.args.bucket n) (c.again.ensures.0 ∙ c.index_mut.ensures.value)
    ∙ set-get_or c.self.inside.buckets.items c.args.bucket c.index_mut.result.now in
    rw kept c.self.invariant

pub returns-clause-same : goal.returns-clause-same
returns-clause-same g c =
    let kept = ap (λ n. set c.self.inside.buckets.items c.args.bucket n) (c.again.ensures.0 ∙ c.index_mut.ensures.value)
    ∙ set-get_or c.self.inside.buckets.items c.args.bucket c.index_mut.result.now in
    rw kept c.self.view_is

pub returns-clause-cell : goal.returns-clause-cell
returns-clause-cell g c =
    let many = length-map c.self.inside.buckets.items (λ (n : Note _). n.known) in
    let lt : c.args.bucket < length c.self.inside.buckets.items = omega (arith, c.self.invariant.notes.all_buckets, c.requires) in
    ap (λ n. n.cell) c.again.ensures.1
    ∙ (note_cell _ _ _ lt c.index_mut.ensures.value ∙ ap (λ (v : Known _). get_or v.of.name.buckets c.args.bucket 0) c.self.view_is)

pub returns-clause-known : goal.returns-clause-known
returns-clause-known g c =
    let many = length-map c.self.inside.buckets.items (λ (n : Note _). n.known) in
    let lt : c.args.bucket < length c.self.inside.buckets.items = omega (arith, c.self.invariant.notes.all_buckets, c.requires) in
    ap (λ n. n.known) c.again.ensures.1
    ∙ (note_known _ _ _ lt c.index_mut.ensures.value ∙ ap (λ (v : Known _). get_or v.held.buckets c.args.bucket None) c.self.view_is)
