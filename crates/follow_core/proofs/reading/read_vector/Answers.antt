use Rattle.std.proofs.Common.{[], refl, sym, subst}
use Rattle.beside_core.specs.PensFile.{IsPensFile}
use Rattle.follow_core.proofs.Refusals.{refused_earlier}
use Rattle.follow_core.proofs.Whole.{whole_vector}
use Rattle.follow_core.proofs.reading.read_vector.Goals as goal

pub returns-in-Ok-Grown-clause-read : goal.returns-in-Ok-Grown-clause-read
returns-in-Ok-Grown-clause-read g c = λ kept shape frames file.
    let first = c.in_ok-mark.ensures in
    let look = c.in-Ok-Grown.ensures in
    let from = g.S.Shared.now c.first.new.file in
    whole_vector g.R.Record.form shape frames (g.S.Shared.now c.args.file.now) from (g.S.Shared.now c.go_on.new.file) (g.S.Shared.synced c.go_on.new.file) c.in-Ok-Grown.records
    c.in-Ok-Grown.next first.time (rw c.in-Ok-Grown.field-0-is at (look.since kept shape frames [] (subst (λ h. IsPensFile shape h frames) (sym first.same) file)
    (first.behind (look.model kept) shape frames file) (frames from, refl)))

pub returns-in-Err-clause-read : goal.returns-in-Err-clause-read
returns-in-Err-clause-read g c = λ kept shape frames file.
    let first = c.in_ok-mark.ensures in
    let look = c.in-Err.ensures in
    let from = g.S.Shared.now c.first.new.file in
    refused_earlier g.R.Record.form shape frames (g.S.Shared.now c.args.file.now) from (g.S.Shared.now c.go_on.new.file) c.in-Err.fault first.time
    (look.since kept shape frames [] (subst (λ h. IsPensFile shape h frames) (sym first.same) file) (first.behind (look.model kept) shape frames file) (frames from, refl))
