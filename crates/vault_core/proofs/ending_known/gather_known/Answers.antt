use Rattle.std.proofs.Common.{◌≡◌, ◌++◌, refl, sym, ap, ap₂, subst, ◌∙◌}
use Rattle.disk_core.specs.State.{now, IsImage}
use Rattle.pen_core.specs.PenOf.{PenOf}
use Rattle.directory_core.specs.Chain.{grown_records}
use Rattle.book_core.specs.Lists.{records_of, joined_pieces, opening_of}
use Rattle.flush_core.specs.Flusher.{read_as}
use Rattle.vault_core.specs.Vault.{VaultOf}
use Rattle.vault_core.proofs.Handed.{FlusherLearns-nothing}
use Rattle.vault_core.proofs.Vaults.{HasEnded, HasPen, gathered_kept, gathered_few, holds_sure}
use Rattle.vault_core.proofs.ending_known.gather_known.Goals as goal

pub with_ends-requires-clause-few : goal.with_ends-requires-clause-few
with_ends-requires-clause-few g c =
    let list : joined_pieces (records_of c.put_behind-blocks.result.items) ≡ opening_of c.args.live ++ grown_records c.args.flusher.pass.entries =
    c.put_behind-blocks.ensures.joined ∙ ap₂ (λ bs rs. joined_pieces bs ++ rs) c.into_blocks.ensures c.requires.space.copied in
    let few = gathered_few (g.D.Disk.keeps c.args.flusher.pen.disk) c.args.live c.args.flusher (records_of c.put_behind-blocks.result.items) c.requires.of c.requires.space.in_limit list in
    λ _ _. few

pub invariant_of-vault : goal.invariant_of-vault
invariant_of-vault g c =
    let list : joined_pieces (records_of c.put_behind-blocks.result.items) ≡ opening_of c.args.live ++ grown_records c.args.flusher.pass.entries =
    c.put_behind-blocks.ensures.joined ∙ ap₂ (λ bs rs. joined_pieces bs ++ rs) c.into_blocks.ensures c.requires.space.copied in
    let ended : HasEnded g.D.Disk.keeps c.args.live c.args.flusher c.args.flusher (records_of c.put_behind-blocks.result.items) = record {
      of = c.requires.of;
      settled = c.requires.settled;
      list = list;
      learns = FlusherLearns-nothing c.args.flusher;
      known_same = refl;
    } in
    let p = c.into_pen-pen.ensures in
    let has : HasPen g.D.Disk.keeps g.R.Record.form c.args.flusher =
    record { order = p.order; size = p.size; size_then = p.size_then; file = p.file; width = p.width } in
    rw c.with_ends.ensures (gathered_kept ended has c.into_pen-pen.result.0 p.parts.0)

pub returns-clause-told : goal.returns-clause-told
returns-clause-told g c = λ kept image is.
    let same : c.into_pen-pen.result.0 ≡ c.args.flusher.pen = c.into_pen-pen.ensures.parts.0 in
    let d = c.disk-disk.ensures in
    let at = subst g.D.Disk.keeps (sym d.disk) kept in
    let pen = c.into_pen-pen.result.0 in
    let vault : VaultOf g.row.R.Denot g.row.D.Denot = record { pen = pen; blocks = c.with_ends.result; sure = read_as g.R.Record.form pen.vector } in
    holds_sure g.R.Record.form vault image (d.whole at (ap (λ (p : PenOf _). p.broken) same ∙ c.requires.whole)) (d.images at image (subst (λ k. IsImage (now (g.D.Disk.states k)) image) (sym d.disk) is))
