use Rattle.std.proofs.Common.{refl, arith}
use Rattle.segment_core.proofs.frame_walk.FrameWalk.new.Goals as goal

pub returns-clause-walked : goal.returns-clause-walked
returns-clause-walked c = record {
  wide = c.requires;
  legal = tt;
  at_end = refl;
  frames_are = refl;
  tally_is = refl;
  few = omega arith;
  small = omega arith;
  counted = omega arith;
  places_are = c.new.ensures c.args.shape;
}
