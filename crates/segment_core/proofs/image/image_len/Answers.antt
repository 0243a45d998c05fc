use Rattle.std.proofs.Common.{ℕ, List, take, ap, sym, subst, ◌∙◌, Some, arith}
use Rattle.std.specs.Global.{Vec}
use Rattle.std.proofs.lemmas.List.{take-map, take_all}
use Rattle.segment_core.specs.Written.{growths_of, groups_of, AllFit}
use Rattle.segment_core.proofs.Written.{group_at, groups_more, AllFit_push}
use Rattle.segment_core.proofs.image.image_len.Goals as goal

pub returns-in_default : goal.returns-in_default
returns-in_default g c =
    let group = c.index-groups-k.result in (
      rw (take-map _ c.loop-k.k c.args.groups.now) c.loop-k.invariant,
      growths_of group.items,
      group_at c.args.groups.now c.loop-k.k group c.loop-k-test.true
          ∙ ap (λ (v : Vec (Vec g.row.R.Denot)). Some (growths_of v.items)) (sym c.index-groups-k.is),
      rw c.as_slice.ensures.value at c.in_default.ensures,
    )

pub loop-k-preserved : goal.loop-k-preserved
loop-k-preserved g c =
    let group = c.index-groups-k.result in
    let width : ℕ = g.R.Record.form.width in
    let size = rw c.as_slice.ensures.value at c.in-Some.ensures in
    subst (AllFit width) (sym (groups_more c.args.groups.now c.loop-k.k group c.loop-k-test.true c.index-groups-k.is))
    (AllFit_push width (groups_of (take c.loop-k.k c.args.groups.now)) (growths_of group.items) c.loop-k.invariant
    (omega (arith, size.0, size.1)))

pub returns : goal.returns
returns g c =
    subst (λ (gs : List (Vec (Vec g.row.R.Denot))). AllFit g.R.Record.form.width (groups_of gs))
    (take_all c.loop-k.k c.args.groups.now c.loop-k-test.false) c.loop-k.invariant
