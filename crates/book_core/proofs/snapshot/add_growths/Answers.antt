use Rattle.std.proofs.Common.{◌≡◌, ◌∙◌, ◌∷◌, [], ◌++◌, ap, ap₂, length, slice_get, Some, arith}
use Rattle.directory_core.proofs.Chains.{chained_at}
use Rattle.book_core.specs.Lists.{joined_pieces}
use Rattle.book_core.proofs.ShownLists.{growths_more, length-joined-push}
use Rattle.book_core.proofs.snapshot.add_growths.Goals as goal

pub push-requires-clause-limit : goal.push-requires-clause-limit
push-requires-clause-limit g c =
    let i = c.loop-number.invariant in
    let behind = i.4 in
    let is : slice_get c.args.pass.now.entries c.loop-number.number ≡ Some c.in-Some.entry.now = rw (← i.0) c.in-Some.ensures.value in
    let within = (chained_at c.args.pass.now.entries c.loop-number.number c.in-Some.entry.now c.known-known.ensures.chained is).3 in
    let here = ap length c.records.ensures.value in
    let most = c.known-known.ensures.in_limit in
    let bound = ap (λ d. d.limit) c.requires.of in
    let limit = c.requires.limit in
    λ _ _. omega arith

pub loop-number-preserved : goal.loop-number-preserved
loop-number-preserved g c =
    let i = c.loop-number.invariant in
    let es = c.args.pass.now.entries in
    let n = c.loop-number.number in
    let e = c.in-Some.entry.now in
    let is : slice_get es n ≡ Some e = rw (← i.0) c.in-Some.ensures.value in
    let value = c.records.ensures.value in
    let more = (chained_at es n e c.known-known.ensures.chained is).2 in
    let pushed = length-joined-push c.loop-number.slices.pieces c.records.result.now in
    let new = ap (λ ps. length (joined_pieces ps)) c.push.ensures.pieces in
    let here = ap length value in
    let behind = i.4 in (
      c.entry.ensures.same ∙ i.0,
      c.push.ensures.pieces ∙ (ap₂ (λ ps p. ps ++ p ∷ []) i.1 value ∙ growths_more c.args.slices.now.pieces es c.args.from n e c.loop-number.auto.number is),
      c.push.ensures.room.0 ∙ i.2,
      c.push.ensures.room.1 ∙ i.3,
      omega arith,
    )
