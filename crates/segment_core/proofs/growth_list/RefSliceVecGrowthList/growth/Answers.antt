use Rattle.std.proofs.Common.{Some, sym, ap, ◌∙◌, arith}
use Rattle.std.proofs.lemmas.List.{length-map}
use Rattle.segment_core.proofs.Written.{growth_got}
use Rattle.segment_core.proofs.growth_list.RefSliceVecGrowthList.growth.Goals as goal

pub offset_bounds-self-k : goal.offset_bounds-self-k
offset_bounds-self-k g c = let same = length-map c.args.self.now.now (λ v. v.items) in omega arith

pub bounds-self-k : goal.bounds-self-k
bounds-self-k g c = let same = length-map c.args.self.now.now (λ v. v.items) in omega arith

pub returns : goal.returns
returns g c =
    let same = length-map c.args.self.now.now (λ v. v.items) in
    growth_got c.args.self.now.now c.args.k c.index-self-k.result (omega arith) ∙ ap (λ xs. Some xs) (sym c.as_slice.ensures.value)
