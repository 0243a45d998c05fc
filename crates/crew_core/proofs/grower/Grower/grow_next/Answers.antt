use Rattle.std.proofs.Common.{◌≡◌, ℕ, ◌<◌, List, [], ◌∷◌, ◌++◌, length, All, Some, None, sym, ap, ap₂, subst, ◌∙◌, arith}
use Rattle.book_core.specs.declared.seat.Receipt.{Receipt}
use Rattle.book_core.specs.Lists.{opening_of}
use Rattle.crew_core.specs.Crewing.{HasGrown, ComesNext}
use Rattle.crew_core.proofs.Gates.{comes_next, told_more}
use Rattle.crew_core.proofs.Growers.{refused, grown_on}
use Rattle.std.proofs.lemmas.Grind.{common_steps}
use Rattle.crew_core.proofs.grower.Grower.grow_next.Goals.{in-Ok, in-Err}
use Rattle.crew_core.proofs.grower.Grower.grow_next.Goals as goal

pub returns-clause-grown : goal.returns-clause-grown
returns-clause-grown g c =
    let width = g.R.Record.form.width in
    let live = c.args.live.now in
    let old = c.args.self.now.seat in
    let count = g.S.Source.count_of c.args.source.now old.id in
    let block = g.S.Source.block_of c.args.source.now old.id in
    let receipts = c.args.self.now.receipts.items in
    let grown = c.requires.grown in
    let fresh = c.in_ok-fresh.fresh in
    let is = c.in_ok-fresh.ensures ∙ ap₂ (λ (i j : ℕ). g.S.Source.block_of c.args.source.now i j) c.id-id.ensures c.requires.k.0 in
    let lt = subst (λ (n : ℕ). n < count) c.requires.k.0 c.requires.k.1 in
    let new = c.grow.new.seat in
    elim c.match-grow.branch [
      | in-Ok w ↦
          let more = w.push_reserved.ensures.items ∙ ap (λ (rs : List Receipt). rs ++ w.in-Ok.receipt ∷ []) c.reserve.ensures.items in
          rw (w.result-is, w.self-is) (subst (λ (rs : List Receipt). HasGrown width live count block old.id new rs None) (sym more)
          (grown_on width live count block old.id old receipts grown new c.grow.ensures.of fresh is lt w.in-Ok.receipt w.in-Ok.ensures.list))
      | in-Err w ↦
          rw (w.result-is, w.self-is) (subst (λ (rs : List Receipt). HasGrown width live count block old.id new rs (Some w.in-Err.fault)) (sym c.reserve.ensures.items)
          (refused width live count block old.id old receipts grown new c.grow.ensures.of fresh is lt w.in-Err.fault w.in-Err.ensures.list.1 w.in-Err.ensures.fault))
    ]

pub after-requires : goal.after-requires
after-requires g c =
    let old = c.args.self.now.seat in
    let grown = c.requires.grown in
    subst (λ (i : ℕ). ComesNext (g.G.Gate.was_told c.args.gate.now i) c.in-Ok.receipt.serial) (sym c.id-id.ensures)
    (comes_next (g.G.Gate.was_told c.args.gate.now old.id) (length (opening_of c.args.live.now)) old.made c.args.self.now.receipts.items
    c.in-Ok.receipt.serial grown.receipts_are (sym c.in-Ok.ensures.list.serial) grown.serials_are c.requires.told)

pub returns-clause-told : goal.returns-clause-told
returns-clause-told g c =
    let told = g.G.Gate.was_told c.args.gate.now c.args.self.now.seat.id in
    let receipts = c.args.self.now.receipts.items in
    elim c.match-grow.branch [
      | in-Ok w ↦
          let more = w.push_reserved.ensures.items ∙ ap (λ (rs : List Receipt). rs ++ w.in-Ok.receipt ∷ []) c.reserve.ensures.items in
          let here : told w.in-Ok.receipt = subst (λ (i : ℕ). g.G.Gate.was_told c.args.gate.now i w.in-Ok.receipt) c.id-id.ensures w.after.ensures in
          rw w.self-is (subst (All told) (sym more) (told_more told receipts w.in-Ok.receipt c.requires.told here))
      | in-Err w ↦ rw w.self-is (subst (All told) (sym c.reserve.ensures.items) c.requires.told)
    ]

pub returns-clause-more : goal.returns-clause-more
returns-clause-more g c = grind (arith, common_steps)
