use Rattle.std.proofs.Common.{arith, ◌+◌, ◌/◌}
use Rattle.directory_core.proofs.Spots.{top_below}
use Rattle.directory_core.proofs.address.spot.Goals as goal

pub returns-clause-in_directory : goal.returns-clause-in_directory
returns-clause-in_directory c inside = top_below (c.args.g / 8 + 1) c.ilog2-bucket.result 26 c.ilog2-bucket.ensures.power_le (omega (arith, inside))
