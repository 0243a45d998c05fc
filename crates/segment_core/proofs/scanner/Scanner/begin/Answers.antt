use Rattle.std.proofs.Common.{arith}
use Rattle.std.proofs.lemmas.Grind.{common_steps}
use Rattle.segment_core.specs.declared.scanner.ScanStage.TheVariants as stages
use Rattle.segment_core.proofs.Fed.{fed_at}
use Rattle.segment_core.proofs.scanner.Scanner.begin.Goals as goal

pub feed_header-requires-clause-fed : goal.feed_header-requires-clause-fed
feed_header-requires-clause-fed g c κs within = (c.requires.0, fed_at g.R.Record.form c.requires.0 c.args.self.now stages.Header c.in-Header.is c.requires.1)

pub returns-in-Header-clause-fed : goal.returns-in-Header-clause-fed
returns-in-Header-clause-fed g c = λ image fed. c.feed_header.ensures.fed image (fed_at g.R.Record.form image c.args.self.now stages.Header c.in-Header.is fed)

pub returns-in_default : goal.returns-in_default
returns-in_default g c = grind (arith, common_steps)
