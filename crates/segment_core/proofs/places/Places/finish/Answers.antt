use Rattle.std.proofs.Common.{map, ap, ◌∙◌}
use Rattle.segment_core.specs.FrameWalk.{extent_of}
use Rattle.segment_core.proofs.PlacesPush.{all_live, live_extents}
use Rattle.segment_core.proofs.places.Places.finish.Goals as goal

pub returns : goal.returns
returns c = λ shape frames are. (
  record {
    homes_are = are.homes_are;
    live_is =
        c.in_ok-live.ensures ∙ ap (map extent_of) (c.deref.ensures.value ∙ c.in_ok-runs.ensures ∙ all_live shape frames c.args.self are) ∙ live_extents shape frames;
  },
  c.in_ok-runs.ensures ∙ all_live shape frames c.args.self are,
)
