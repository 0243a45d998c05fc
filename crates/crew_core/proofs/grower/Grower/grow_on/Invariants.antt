use Rattle.std.proofs.Common.{◌≡◌, ℕ, ◌<◌, length, All, None}
use Rattle.crew_core.specs.Crewing.{HasGrown}
use Rattle.crew_core.proofs.grower.Grower.grow_on.Given as goal

abbrev pub invariant-loop-k : goal.invariant-loop-k
invariant-loop-k g l = record {
  same : l.grower.seat.id ≡ l.fn.self.seat.id;
  made : length l.grower.seat.made ≡ l.k;
  none : l.grower.fault ≡ None;
  grown : HasGrown g.R.Record.form.width l.live (g.S.Source.count_of l.source l.fn.self.seat.id) (g.S.Source.block_of l.source l.fn.self.seat.id)
      l.fn.self.seat.id l.grower.seat l.grower.receipts.items None;
  told : All (g.G.Gate.was_told l.gate l.fn.self.seat.id) l.grower.receipts.items;
  lets : (j : ℕ) → j < l.k → g.G.Gate.has_let l.gate l.fn.self.seat.id j;
}
