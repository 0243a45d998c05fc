use Rattle.std.proofs.Common.{◌++◌, refl}
use Rattle.segment_core.specs.declared.scanner.ScanStage.TheVariants as stages
use Rattle.segment_core.proofs.Fed.{fed_at, fed_by, fed_more}
use Rattle.segment_core.proofs.scanner.Scanner.feed_rest.Goals as goal

pub feed_frames-requires-clause-open : goal.feed_frames-requires-clause-open
feed_frames-requires-clause-open g c κs within = (c.requires.fed.0, fed_at g.R.Record.form c.requires.fed.0 c.args.self.now stages.Open c.in-Open.is c.requires.fed.1, c.requires.fed.2)

pub returns-in-Err-clause-fed : goal.returns-in-Err-clause-fed
returns-in-Err-clause-fed g c =
    λ image fed.
    fed_by g.R.Record.form (image ++ c.args.piece.now) _ (stages.Refused c.in-Err.fault) refl
    (c.in-Err.ensures.err image (fed_at g.R.Record.form image c.args.self.now stages.Open c.in-Open.is fed))

pub returns-in_default-feed_frames-clause-fed : goal.returns-in_default-feed_frames-clause-fed
returns-in_default-feed_frames-clause-fed g c = λ image fed. c.in_default-feed_frames.ensures.ok image (fed_at g.R.Record.form image c.args.self.now stages.Open c.in-Open.is fed)

pub returns-in_default : goal.returns-in_default
returns-in_default g c = record {
  fed = λ image fed. fed_more g.R.Record.form image c.args.piece.now c.args.self.now c.args.self.now.stage refl (λ is. c.in_default.not-Open is) c.requires.header fed;
  lost = λ was. was;
}
