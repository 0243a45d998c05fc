use Rattle.std.proofs.Common.{◌≡◌, ◌<◌, length, get_or, set, arith, ◌∙◌, ap}
use Rattle.std.proofs.lemmas.List.{length-map, set-get_or}
use Rattle.directory_core.specs.Known.{Known}
use Rattle.directory_core.specs.Notes.{cells_of}
use Rattle.directory_core.proofs.Somes.{note_known, note_cell, note_inside, known_at}
use Rattle.directory_core.proofs.pass.Pass.note.Goals as goal

pub invariant_of-self : goal.invariant_of-self
invariant_of-self g c =
    let kept = ap (λ n. set c.self.inside.notes.items c.args.number n) (c.again.ensures.0 ∙ c.index_mut.ensures.value)
    ∙ set-get_or c.self.inside.notes.items c.args.number c.index_mut.result.now in
    rw kept c.self.invariant

pub returns-clause-same : goal.returns-clause-same
returns-clause-same g c =
    let kept = ap (λ n. set c.self.inside.notes.items c.args.number n) (c.again.ensures.0 ∙ c.index_mut.ensures.value)
    ∙ set-get_or c.self.inside.notes.items c.args.number c.index_mut.result.now in
    rw kept c.self.view_is

pub returns-clause-cell : goal.returns-clause-cell
returns-clause-cell g c =
    let es = ap (λ v. length v.entries) c.self.view_is in
    let lt : c.args.number < length c.self.inside.notes.items = note_inside _ _ c.self.invariant.notes.all_known (omega (arith, es, c.requires)) in
    ap (λ n. n.cell) c.again.ensures.1 ∙ (note_cell _ _ _ lt c.index_mut.ensures.value ∙ ap (λ (v : Known _). get_or v.held.cells c.args.number 0) c.self.view_is)

pub returns-clause-filed : goal.returns-clause-filed
returns-clause-filed g c =
    let es = ap (λ v. length v.entries) c.self.view_is in
    let lt : c.args.number < length c.self.inside.notes.items = note_inside _ _ c.self.invariant.notes.all_known (omega (arith, es, c.requires)) in
    let cell : c.again.result.cell ≡ get_or (cells_of c.self.inside.notes.items) c.args.number 0 = ap (λ n. n.cell) c.again.ensures.1 ∙ note_cell _ _ _ lt c.index_mut.ensures.value in
    rw (← c.self.view_is, cell) (c.self.invariant.notes.filed c.args.number (omega (arith, lt, length-map c.self.inside.notes.items (λ n. n.cell))))

pub returns-clause-known : goal.returns-clause-known
returns-clause-known g c =
    let es = ap (λ v. length v.entries) c.self.view_is in
    let lt : c.args.number < length c.self.inside.notes.items = note_inside _ _ c.self.invariant.notes.all_known (omega (arith, es, c.requires)) in
    rw (← c.self.view_is) (ap (λ n. n.known) c.again.ensures.1 ∙ (note_known _ _ _ lt c.index_mut.ensures.value ∙ known_at _ c.self.invariant.notes.all_known c.args.number))
