use Rattle.std.proofs.Common.{◌++◌, List, length, sym, ap, subst, ◌∙◌}
use Rattle.std.specs.List.{AllByRecursion}
use Rattle.segment_core.specs.declared.format.Shape.{Shape}
use Rattle.segment_core.specs.declared.found.Home.{Home}
use Rattle.segment_core.specs.Frame.{text}
use Rattle.segment_core.specs.Found.{home_among}
use Rattle.segment_core.specs.FrameWalk.{EndsInside}
use Rattle.segment_core.proofs.PlacesInside.{homes_end_inside, live_end_inside, places_tell}
use Rattle.segment_core.proofs.frame_walk.FrameWalk.finish.Goals as goal

pub returns-clause-framed : goal.returns-clause-framed
returns-clause-framed c = λ frames walked. (
    let shape : Shape = c.args.self.shape in
    let homes : List Home = c.in-Ok.homes.homes.items in
    let found = c.in-Ok.ensures shape frames walked.places_are in
    let here = walked.at_end in
    record {
      wide = walked.wide;
      legal = walked.legal;
      gate_is = here;
      frames_are = walked.frames_are;
      tally_is = walked.tally_is;
      homes_are = found.0;
      live_is = found.1;
      homes_inside = subst (λ n. AllByRecursion (EndsInside shape.width n) homes) (sym here) (homes_end_inside shape frames walked.legal homes found.0.homes_are);
      live_inside =
          subst (λ n. AllByRecursion (EndsInside shape.width n) c.in-Ok.live.items) (sym here)
          (subst (λ (hs : List Home). AllByRecursion (EndsInside shape.width (length (text shape frames))) hs) (sym found.1) (live_end_inside shape frames walked.legal));
      places_are = λ i lt.
          ap (λ (hs : List Home). home_among shape.width (homes ++ hs) i) found.1 ∙ places_tell shape frames walked.legal homes found.0.homes_are i lt;
    })
