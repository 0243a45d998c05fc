use Rattle.std.proofs.Common.{[], sym}
use Rattle.std.proofs.lemmas.List.{append-nil}
use Rattle.lines_core.proofs.Excerpts.{front_shown}
use Rattle.lines_core.proofs.line_blocks.read_front.Goals as goal

pub read_before-requires-after_bounds : goal.read_before-requires-after_bounds
read_before-requires-after_bounds g c κs within =
    front_shown _ g.R.TextRecord.spelling c.args.input.now c.args.input.now [] c.in-Err.refusal c.read_blocks.new.shown (sym (append-nil c.args.input.now))
    c.in-Err.ensures.shown
