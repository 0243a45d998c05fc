use Rattle.std.proofs.Common.{◌*◌, ◌++◌, ◌∷◌, [], List, take, sym, ap, ◌∙◌, arith}
use Rattle.std.proofs.lemmas.List.{take_all}
use Rattle.segment_core.specs.declared.found.Home.{Home}
use Rattle.segment_core.specs.Frame.{Run}
use Rattle.segment_core.specs.Reading.{runs_of}
use Rattle.segment_core.specs.Found.{first_record_of}
use Rattle.segment_core.specs.FrameWalk.{homes_of_runs}
use Rattle.segment_core.proofs.PlacesPush.{run_ends, homes_of_runs_push}
use Rattle.segment_core.proofs.places.run_places.Goals as goal

pub overflow_mul-place : goal.overflow_mul-place
overflow_mul-place c =
    let ends = run_ends c.args.change.now.shape c.loop-k.k c.args.change.now.frame _ c.requires c.run-position.ensures.run in
    let placed = c.first_record-place.ensures.placed in
    let next = ends.next in
    let inside = ends.inside in
    let product = ap (λ n. c.run-position.result.1 * n) c.width-width.ensures in
    omega arith

pub overflow_add-place : goal.overflow_add-place
overflow_add-place c =
    let ends = run_ends c.args.change.now.shape c.loop-k.k c.args.change.now.frame _ c.requires c.run-position.ensures.run in
    let placed = c.first_record-place.ensures.placed in
    let first = c.first_record-place.ensures.is in
    let next = ends.next in
    let inside = ends.inside in
    let here = c.loop-k.invariant.here in
    let product = ap (λ n. c.run-position.result.1 * n) c.width-width.ensures in
    omega arith

pub loop-k-preserved : goal.loop-k-preserved
loop-k-preserved c =
    let seen = c.args.change.now in
    let runs : List Run = runs_of seen.frame in
    let k = c.loop-k.k in
    let run : Run = record { start = c.run-position.result.0; count = c.run-position.result.1 } in
    let ends = run_ends seen.shape k seen.frame run c.requires c.run-position.ensures.run in
    let here = c.loop-k.invariant.here in
    let product = ap (λ n. c.run-position.result.1 * n) c.width-width.ensures in
    let next = ends.next in
    record {
      homes_are =
          c.in_ok-push.ensures.items
          ∙ ap (λ (hs : List Home). hs ++ record { position = c.run-position.result.0; place = c.loop-k.place; count = c.run-position.result.1 } ∷ []) c.loop-k.invariant.homes_are
          ∙ ap (λ n. homes_of_runs seen.shape.width (first_record_of seen) (take k runs) ++ record { position = c.run-position.result.0; place = n; count = c.run-position.result.1 } ∷ []) here
          ∙ sym (homes_of_runs_push seen.shape.width (first_record_of seen) (take k runs) run)
          ∙ ap (homes_of_runs seen.shape.width (first_record_of seen)) (sym ends.more);
      here = omega arith;
    }

pub returns : goal.returns
returns c =
    let runs : List Run = runs_of c.args.change.now.frame in
    c.loop-k.invariant.homes_are
    ∙ ap (homes_of_runs c.args.change.now.shape.width (first_record_of c.args.change.now)) (take_all c.loop-k.k runs (omega (arith, c.runs-k-end.ensures, c.loop-k-test.false)))
