use Rattle.std.proofs.Common.{subst, ◌∙◌}
use Rattle.disk_core.specs.Calls.{bytes_of}
use Rattle.segment_core.specs.Raw.{raw}
use Rattle.pen_core.specs.Opening.{IsOpenRefusal}
use Rattle.files_core.proofs.AnyBytes.{any_refusal}
use Rattle.files_core.proofs.parts.walk_for_parts.Goals as goal

pub returns-in-Err-clause-refused : goal.returns-in-Err-clause-refused
returns-in-Err-clause-refused g c = λ model.
    let old = bytes_of (g.D.Disk.states c.args.disk.now) in
    any_refusal g.R.Record.form old c.in-Err.fault (subst (λ w. IsOpenRefusal (raw w) old c.in-Err.fault) c.width_of.ensures.is (c.in-Err.ensures.refused model))

pub returns-clause-framed : goal.returns-clause-framed
returns-clause-framed g c =
    let found = c.in-Ok.ensures.framed in
    (found.0 ∙ c.width_of.ensures.is, (found.1.0, found.1.2))
