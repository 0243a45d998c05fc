use Rattle.std.proofs.Common.{ap, ◌∙◌}
use Rattle.drive_core.specs.Given.{pieces_of}
use Rattle.play_core.proofs.LineRuns.{pieces_push}
use Rattle.play_core.proofs.line_runs.push_run.Goals as goal

pub returns-clause-read : goal.returns-clause-read
returns-clause-read g c = record {
  run = (c.in_ok-start.start, c.in_ok-start.records.items);
  more = ap pieces_of c.in_ok-push.ensures.items ∙ pieces_push c.args.runs.now.items (c.in_ok-start.start, c.in_ok-start.records);
  is_run = c.in_ok-start.ensures.read.0;
  parts = c.in_ok-start.ensures.read.1;
  all = c.in_ok-start.ensures.all;
}
