use Rattle.std.proofs.Common.{◌≡◌, ◌≤◌, List, ◌++◌, length, get_or, All, sym, ap, ap₂, subst, ◌∙◌, arith}
use Rattle.disk_core.specs.State.{now, IsImage}
use Rattle.pen_core.specs.PenOf.{PenOf}
use Rattle.directory_core.specs.Chain.{IsPrefix, grown_records}
use Rattle.book_core.specs.Lists.{Seated, StandInList, records_of, joined_pieces, opening_of}
use Rattle.flush_core.specs.Flusher.{FlusherOf, FlusherLearns, ToldIsLeft, read_as}
use Rattle.flush_core.proofs.Told.{ToldIsLeft-same}
use Rattle.vault_core.specs.Vault.{VaultOf}
use Rattle.vault_core.specs.Gathering.{MayGather, AreOfPhase}
use Rattle.vault_core.proofs.Endings.{none_more, whole}
use Rattle.vault_core.proofs.Vaults.{HasEnded, HasPen, gathered_kept, gathered_few, holds_sure}
use Rattle.std.proofs.lemmas.Grind.{common_steps}
use Rattle.vault_core.proofs.ending.gather.Goals as goal

pub take_in_all-requires-clause-of : goal.take_in_all-requires-clause-of
take_in_all-requires-clause-of g c κs within =
    subst (λ (f : FlusherOf _ _). AreOfPhase (g.D.Disk.keeps f.pen.disk) c.args.live c.args.seats.items f) (sym c.prepare.ensures.same) c.requires

pub with_ends-requires-clause-few : goal.with_ends-requires-clause-few
with_ends-requires-clause-few g c =
    let list : joined_pieces (records_of c.put_behind-blocks.result.items) ≡ opening_of c.args.live ++ grown_records c.args.flusher.pass.entries =
    c.put_behind-blocks.ensures.joined ∙ ap₂ (λ bs rs. joined_pieces bs ++ rs) c.into_blocks.ensures c.in-Ok.ensures.space.copied in
    let limit = c.in-Ok.ensures.space.in_limit in
    let few = gathered_few (g.D.Disk.keeps c.args.flusher.pen.disk) c.args.live c.args.flusher (records_of c.put_behind-blocks.result.items) c.requires.flusher_of limit list in
    λ _ _. few

pub invariant_of-vault : goal.invariant_of-vault
invariant_of-vault g c =
    let may = subst (λ (ss : List (Seated _)). MayGather c.args.live ss c.args.flusher) c.as_slice.ensures.value c.in-Ok.ensures.may in
    let same = c.prepare.ensures.same in
    let entries = c.take_in_all.ensures.known (subst (λ (f : FlusherOf _ _). All (λ (s : Seated _). length s.pass.entries ≤ length f.pass.entries) c.args.seats.items) (sym same)
    (none_more c.args.live c.args.seats.items c.args.flusher may)) in
    let list : joined_pieces (records_of c.put_behind-blocks.result.items) ≡ opening_of c.args.live ++ grown_records c.args.flusher.pass.entries =
    c.put_behind-blocks.ensures.joined ∙ ap₂ (λ bs rs. joined_pieces bs ++ rs) c.into_blocks.ensures c.in-Ok.ensures.space.copied in
    let ended : HasEnded g.D.Disk.keeps c.args.live c.args.flusher c.take_in_all.new.flusher (records_of c.put_behind-blocks.result.items) = record {
      of = c.requires.flusher_of;
      settled = may.settled;
      list = list;
      learns = subst (λ (f : FlusherOf _ _). FlusherLearns f c.take_in_all.new.flusher) same c.take_in_all.ensures.learns;
      known_same = entries ∙ ap (λ (f : FlusherOf _ _). f.pass.entries) same;
    } in
    let p = c.into_pen-pen.ensures in
    let has : HasPen g.D.Disk.keeps g.R.Record.form c.take_in_all.new.flusher =
    record { order = p.order; size = p.size; size_then = p.size_then; file = p.file; width = p.width } in
    rw c.with_ends.ensures (gathered_kept ended has c.into_pen-pen.result.0 p.parts.0)

pub returns-clause-whole : goal.returns-clause-whole
returns-clause-whole g c =
    let may = subst (λ (ss : List (Seated _)). MayGather c.args.live ss c.args.flusher) c.as_slice.ensures.value c.in-Ok.ensures.may in
    let stand = subst (λ (ss : List (Seated _)). All StandInList ss) c.as_slice.ensures.value c.in-Ok.ensures.stand in
    let same = c.prepare.ensures.same in
    let entries = c.take_in_all.ensures.known (subst (λ (f : FlusherOf _ _). All (λ (s : Seated _). length s.pass.entries ≤ length f.pass.entries) c.args.seats.items) (sym same)
    (none_more c.args.live c.args.seats.items c.args.flusher may)) ∙ ap (λ (f : FlusherOf _ _). f.pass.entries) same in
    let begin : All (λ (s : Seated _). IsPrefix s.pass.entries c.args.flusher.pass.entries) c.args.seats.items =
    subst (λ (es : List _). All (λ (s : Seated _). IsPrefix s.pass.entries es) c.args.seats.items) entries c.take_in_all.ensures.begin in
    whole c.args.live c.args.seats.items c.args.flusher may stand begin c.in-Ok.ensures.chained

pub returns-clause-told : goal.returns-clause-told
returns-clause-told g c = λ kept image is.
    let may = subst (λ (ss : List (Seated _)). MayGather c.args.live ss c.args.flusher) c.as_slice.ensures.value c.in-Ok.ensures.may in
    let same : c.into_pen-pen.result.0 ≡ c.args.flusher.pen = c.into_pen-pen.ensures.parts.0 ∙ c.take_in_all.ensures.learns.pen_same ∙ ap (λ (f : FlusherOf _ _). f.pen) c.prepare.ensures.same in
    let d = c.disk-disk.ensures in
    let at = subst g.D.Disk.keeps (sym d.disk) kept in
    let pen = c.into_pen-pen.result.0 in
    let vault : VaultOf g.row.R.Denot g.row.D.Denot = record { pen = pen; blocks = c.with_ends.result; sure = read_as g.R.Record.form pen.vector } in
    holds_sure g.R.Record.form vault image (d.whole at (ap (λ (p : PenOf _). p.broken) same ∙ may.whole)) (d.images at image (subst (λ k. IsImage (now (g.D.Disk.states k)) image) (sym d.disk) is))

pub with_ends-requires-clause-room : goal.with_ends-requires-clause-room
with_ends-requires-clause-room g c κs within = grind (arith, common_steps)

pub put_behind-blocks-requires-after_bounds : goal.put_behind-blocks-requires-after_bounds
put_behind-blocks-requires-after_bounds g c κs within = grind (arith, common_steps)

pub returns-clause-left : goal.returns-clause-left
returns-clause-left g c =
    let may = subst (λ (ss : List (Seated _)). MayGather c.args.live ss c.args.flusher) c.as_slice.ensures.value c.in-Ok.ensures.may in
    let same = c.prepare.ensures.same in
    let entries = c.take_in_all.ensures.known (subst (λ (f : FlusherOf _ _). All (λ (s : Seated _). length s.pass.entries ≤ length f.pass.entries) c.args.seats.items) (sym same)
    (none_more c.args.live c.args.seats.items c.args.flusher may)) ∙ ap (λ (f : FlusherOf _ _). f.pass.entries) same in
    let learns = subst (λ (f : FlusherOf _ _). FlusherLearns f c.take_in_all.new.flusher) same c.take_in_all.ensures.learns in
    let left : All (λ (s : Seated _). g.D.Disk.keeps c.args.flusher.pen.disk → ToldIsLeft g.R.Record.form (g.D.Disk.states c.args.flusher.pen.disk) c.args.flusher s.mark.raises) c.args.seats.items =
    λ k d lt kept.
    let told = c.take_in_all.ensures.left (subst (λ (p : PenOf _). g.D.Disk.keeps p.disk) (sym learns.pen_same) kept) k d lt in
    ToldIsLeft-same (g.D.Disk.states c.args.flusher.pen.disk) (get_or c.args.seats.items k d).mark.raises c.take_in_all.new.flusher c.args.flusher (sym entries) (sym learns.opening_same)
    (subst (λ (p : PenOf _). ToldIsLeft g.R.Record.form (g.D.Disk.states p.disk) c.take_in_all.new.flusher (get_or c.args.seats.items k d).mark.raises) learns.pen_same told) in
    λ kept k d lt. left k d lt kept
