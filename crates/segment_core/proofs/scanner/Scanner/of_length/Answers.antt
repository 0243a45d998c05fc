use Rattle.std.proofs.Common.{refl, arith}
use Rattle.segment_core.specs.declared.scanner.ScanStage.TheVariants as stages
use Rattle.segment_core.proofs.Fed.{fed_by}
use Rattle.segment_core.proofs.scanner.Scanner.of_length.Goals as goal

pub returns : goal.returns
returns g c =
    fed_by g.R.Record.form _ _ stages.Header refl
    (record { short = omega arith; filled = refl; kept = refl; behind = c.new-2.ensures.behind; pending = c.new.ensures.items; bare = omega arith })
