use Rattle.std.proofs.Common.{◌≡◌, length, ap, ◌∙◌, arith}
use Rattle.std.proofs.lemmas.List.{length-map}
use Rattle.once_cell.specs.Once.{cell_name}
use Rattle.directory_core.specs.Spot.{span}
use Rattle.directory_core.proofs.bucket.Bucket.boxed.Goals as goal

pub returns : goal.returns
returns g c =
    let i = c.loop.invariant.0 in
    let many : length c.loop.cells.items ≡ span c.args.number = omega (arith, c.loop-test.false, c.loop.auto.counter-end, c.bucket_len-len.ensures) in
    ap length c.in_ok-new.ensures.ok ∙ (length-map c.loop.cells.items cell_name ∙ many)
