use Rattle.text_core.proofs.Small.{IfNone_from}
use Rattle.follow_core.proofs.PlaceLemmas.{no_place, no_size, no_changes, no_folded, is_place, one_place}
use Rattle.follow_core.proofs.place.read_place.Goals as goal

pub returns-in_err-gate-clause-refused : goal.returns-in_err-gate-clause-refused
returns-in_err-gate-clause-refused c = IfNone_from c.from_residual.result _ (no_place c.args.word.now c.in_err-gate.ensures.refused)

pub returns-in_err-size-clause-refused : goal.returns-in_err-size-clause-refused
returns-in_err-size-clause-refused c = IfNone_from c.from_residual-in_err-size.result _
    (no_size c.args.word.now c.in_ok-gate.gate c.in_ok-gate.rest.now c.in_ok-gate.ensures.found.0 c.in_ok-gate.ensures.found.1 c.in_err-size.ensures.refused)

pub returns-in_err-changes-clause-refused : goal.returns-in_err-changes-clause-refused
returns-in_err-changes-clause-refused c = IfNone_from c.from_residual-in_err-changes.result _
    (no_changes c.args.word.now c.in_ok-gate.gate c.in_ok-gate.rest.now c.in_ok-gate.ensures.found.0 c.in_ok-gate.ensures.found.1
    c.in_ok-size.size c.in_ok-size.rest.now c.in_ok-size.ensures.found.0 c.in_ok-size.ensures.found.1 c.in_err-changes.ensures.refused)

pub returns-in_err-folded-clause-refused : goal.returns-in_err-folded-clause-refused
returns-in_err-folded-clause-refused c = IfNone_from c.from_residual-in_err-folded.result _
    (no_folded c.args.word.now c.in_ok-gate.gate c.in_ok-gate.rest.now c.in_ok-gate.ensures.found.0 c.in_ok-gate.ensures.found.1
    c.in_ok-size.size c.in_ok-size.rest.now c.in_ok-size.ensures.found.0 c.in_ok-size.ensures.found.1
    c.in_ok-changes.changes c.in_ok-changes.rest.now c.in_ok-changes.ensures.found.0 c.in_ok-changes.ensures.found.1 c.in_err-folded.ensures.refused)

pub returns-clause-found : goal.returns-clause-found
returns-clause-found c = (
  record { gate = c.in_ok-gate.ensures.found.0; size = c.in_ok-size.ensures.found.0; changes = c.in_ok-changes.ensures.found.0; folded = c.in_ok-folded.ensures.read.0 },
  is_place c.args.word.now c.in_ok-gate.gate c.in_ok-gate.rest.now c.in_ok-gate.ensures.found.0 c.in_ok-gate.ensures.found.1
      c.in_ok-size.size c.in_ok-size.rest.now c.in_ok-size.ensures.found.0 c.in_ok-size.ensures.found.1
      c.in_ok-changes.changes c.in_ok-changes.rest.now c.in_ok-changes.ensures.found.0 c.in_ok-changes.ensures.found.1
      c.in_ok-folded.folded c.in_ok-folded.ensures.read.0 c.in_ok-folded.ensures.read.1,
)

pub returns-clause-one : goal.returns-clause-one
returns-clause-one c = one_place c.args.word.now c.in_ok-gate.gate c.in_ok-gate.rest.now c.in_ok-gate.ensures.found.0 c.in_ok-gate.ensures.found.1
    c.in_ok-size.size c.in_ok-size.rest.now c.in_ok-size.ensures.found.0 c.in_ok-size.ensures.found.1
    c.in_ok-changes.changes c.in_ok-changes.rest.now c.in_ok-changes.ensures.found.0 c.in_ok-changes.ensures.found.1
    c.in_ok-folded.folded c.in_ok-folded.ensures.read.0 c.in_ok-folded.ensures.read.1
