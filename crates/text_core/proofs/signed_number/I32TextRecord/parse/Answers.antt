use Rattle.std.specs.Prelude.{ℤ, FitsSigned}
use Rattle.std.specs.Int.{w32, w64}
use Rattle.std.specs.Result.{OkIff}
use Rattle.std.proofs.Common.{lit≤, subst}
use Rattle.std.proofs.lemmas.Int.{to_z-of_z}
use Rattle.text_core.proofs.SignedLemmas.{no_narrow_signed}
use Rattle.text_core.proofs.signed_number.I32TextRecord.parse.Goals as goal

pub returns-clause-refused : goal.returns-clause-refused
returns-clause-refused c =
    let fits = c.in_ok-parse.ensures.read.0 in
    let tried = subst (λ (z : ℤ). OkIff c.try_from.result (FitsSigned w32 z) z) (to_z-of_z w64 c.in_ok-parse.field-0 fits) c.try_from.ensures in
    rw c.ok.ensures.value
    (no_narrow_signed w32 (lit≤ tt) c.args.text.now c.in_ok-parse.field-0 c.try_from.result fits c.in_ok-parse.ensures.read.1 tried)
