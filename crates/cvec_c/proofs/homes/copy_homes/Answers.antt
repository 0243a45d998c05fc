use Rattle.std.proofs.Common.{arith, length-set, slice_index_or}
use Rattle.segment_core.specs.declared.found.Home.{Home}
use Rattle.cvec_c.proofs.HomesStand.{copied_more, as_told}
use Rattle.cvec_c.proofs.homes.copy_homes.Goals as goal

pub loop-k-preserved : goal.loop-k-preserved
loop-k-preserved c =
    let homes = c.args.homes.now in
    let d : Home = record { position = 0; place = 0; count = 0 } in
    record {
      long = omega (arith, c.loop-k.invariant.long, length-set c.loop-k.out c.loop-k.k (as_told (slice_index_or homes c.loop-k.k d)));
      so_far = copied_more homes c.loop-k.out c.loop-k.k d c.loop-k-test.true c.loop-k.invariant.long c.loop-k.invariant.so_far;
    }
