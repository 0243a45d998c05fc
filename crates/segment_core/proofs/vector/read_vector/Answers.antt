use Rattle.std.proofs.lemmas.Grind.{common_steps}
use Rattle.std.proofs.Common.{List, [], ℕ, sym, subst, arith}
use Rattle.std.proofs.lemmas.List.{append-nil}
use Rattle.segment_core.specs.declared.fault.ScanFault.TheVariants.{Memory}
use Rattle.segment_core.specs.declared.scanner.ScanStage.TheVariants as stages
use Rattle.segment_core.specs.Fault.{IsRefused}
use Rattle.segment_core.proofs.Fed.{fed_at}
use Rattle.segment_core.proofs.vector.read_vector.Goals as goal

pub returns-in-Err : goal.returns-in-Err
returns-in-Err g c =
    let lost = c.in-Err.ensures.memory in
    let refused = fed_at g.R.Record.form c.args.bytes.now c.feed.new.self (stages.Refused Memory) lost.1 (c.in-Err.ensures.fed [] c.of_length-scanner.ensures) in
    subst (λ fault. IsRefused g.R.Record.form c.args.bytes.now fault) (sym lost.0) (subst (λ (bs : List ℕ). IsRefused g.R.Record.form bs Memory) (append-nil c.args.bytes.now) (refused []))

pub feed-requires-after_bounds : goal.feed-requires-after_bounds
feed-requires-after_bounds g c κs within = grind (arith, common_steps)
