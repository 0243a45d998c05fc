use Rattle.std.proofs.Common.{None, false, ◌∙◌}
use Rattle.pen_core.proofs.Whole.{sound_kept}
use Rattle.pen_core.specs.PenLog.{PenLog}
use Rattle.pen_core.proofs.InHand.{no_fold_at, pen_unfolded}
use Rattle.pen_core.proofs.Opening.{seen_known, known_pen, known_lists}
use Rattle.pen_core.proofs.AtRest.{sound}
use Rattle.pen_core.proofs.pen.Pen.over.Goals as goal

pub invariant_of-result : goal.invariant_of-result
invariant_of-result g c =
    let keeps = g.D.Disk.keeps c.args.disk in
    let states = g.D.Disk.states c.args.disk in
    let log : PenLog = record {
      shape = c.args.shape;
      gate = c.args.gate;
      tally = c.args.tally;
      bytes = c.new.result.items;
      step = None;
      broken = false;
    } in
    sound (
      pen_unfolded c.none.result c.none.ensures (known_pen c.requires c.args.tally c.new.result.items),
      known_lists c.requires c.new.result.items c.len.result c.none.result c.none.ensures (c.len.ensures ∙ c.args.homes.live.ok.0),
      no_fold_at keeps states log c.none.result c.none.ensures,
    )

pub returns-clause-seen : goal.returns-clause-seen
returns-clause-seen g c = λ model frames cells has. (
    let told = seen_known c.requires model frames cells has in
    (told.frames_are, told.vector_is))

pub returns-clause-kept : goal.returns-clause-kept
returns-clause-kept g c = sound_kept (invariant_of-result g c)
