use Rattle.witness_core.proofs.Moments.{holds_file}
use Rattle.witness_core.proofs.file.holds.Goals as goal

pub returns : goal.returns
returns g c = record { file = λ begin w. holds_file begin _ _ w }
