use Rattle.std.proofs.Common.{◌≤◌, ◌∙◌, ◌∷◌, [], ◌++◌, ap, ap₂, sym, lt_of_not-le, length, arith}
use Rattle.std.proofs.lemmas.Bool.{eqb-true, eqb-false}
use Rattle.book_core.specs.Lists.{joined_pieces}
use Rattle.book_core.proofs.BlockEnds.{end_more-le}
use Rattle.book_core.proofs.Slices.{length_with, joined_with, with_push, with_skip}
use Rattle.book_core.proofs.snapshot.slices.Slices.push_blocks.Goals as goal
use Rattle.book_core.proofs.snapshot.slices.Slices.push_blocks.Goals.{then-not-is_empty, else-not-is_empty}

pub push-requires-clause-room : goal.push-requires-clause-room
push-requires-clause-room g c =
    let i = c.loop-block.invariant in
    let long = length_with c.args.self.now.pieces c.args.blocks.now c.loop-block.block-index c.loop-block-test.true in
    let is = ap length i.0 in
    let room = c.requires.room in
    let lt = c.loop-block-test.true in
    let slice_room = i.1 in
    let start_room = i.2 in
    λ _ _. (omega arith, omega arith)

pub push-requires-clause-limit : goal.push-requires-clause-limit
push-requires-clause-limit g c =
    let i = c.loop-block.invariant in
    let is = ap (λ ps. length (joined_pieces ps)) i.0 in
    let before = joined_with c.args.self.now.pieces c.args.blocks.now c.loop-block.block-index c.loop-block-test.true in
    let all = end_more-le c.args.blocks.now c.loop-block.block-index c.block-item.result c.loop-block-test.true c.block-item.is in
    let here = ap length c.as_slice-records.ensures.value in
    let limit = c.requires.limit in
    λ _ _. omega arith

pub loop-block-preserved : goal.loop-block-preserved
loop-block-preserved g c =
    let i = c.loop-block.invariant in
    let old = c.args.self.now.pieces in
    let at = c.loop-block.block-index in
    let lt = c.loop-block-test.true in
    let item = c.block-item.is in
    let value = c.as_slice-records.ensures.value in
    elim c.if-not-is_empty.branch [
      | then-not-is_empty w ↦ let no = eqb-false (length c.as_slice-records.result.now) 0 (sym c.is_empty.ensures ∙ w.if-not-is_empty.true) in
          let some = lt_of_not-le (λ (le : length c.as_slice-records.result.now ≤ 0). no (omega arith)) in (
            ap (λ v. v.pieces) w.self-is
                ∙ (w.push.ensures.pieces
                ∙ (ap₂ (λ ps p. ps ++ p ∷ []) i.0 value ∙ with_push old c.args.blocks.now at lt c.block-item.result item (rw (← value) some))),
            ap (λ v. v.slice_room) w.self-is ∙ (w.push.ensures.room.0 ∙ i.1),
            ap (λ v. v.start_room) w.self-is ∙ (w.push.ensures.room.1 ∙ i.2),
          )
      | else-not-is_empty w ↦ let none = eqb-true (length c.as_slice-records.result.now) 0 (sym c.is_empty.ensures ∙ w.if-not-is_empty.false) in (
        ap (λ v. v.pieces) w.self-is ∙ (i.0 ∙ with_skip old c.args.blocks.now at lt c.block-item.result item (rw (← value) none)),
        ap (λ v. v.slice_room) w.self-is ∙ i.1,
        ap (λ v. v.start_room) w.self-is ∙ i.2,
      )
    ]
