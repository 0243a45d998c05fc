use Rattle.std.proofs.Common.{subst}
use Rattle.std.proofs.lemmas.Result.{err_from_is_err_and}
use Rattle.book_core.proofs.Steps.{learns-refl, learns-trans, fill-after, fill_from_look}
use Rattle.book_core.specs.Growing.{FillsOrReaches}
use Rattle.book_core.proofs.live.Live.fill_in_turn.Goals as goal

pub returns-in_default-clause-list : goal.returns-in_default-clause-list
returns-in_default-clause-list g c =
    let old = c.args.seat.now in
    let near = c.loop.seat in
    let caught = c.catch_up.new.seat in
    fill-after c.args.self.now old caught c.fill_up-filled.new.seat c.args.least c.args.v c.fill_up-filled.result
    (learns-trans old near caught c.loop.invariant.1 c.catch_up.ensures.learns) c.fill_up-filled.ensures.list

pub loop-init : goal.loop-init
loop-init g c = (c.requires.of, learns-refl c.args.seat.now)

pub returns-in_err-catch_up-clause-list : goal.returns-in_err-catch_up-clause-list
returns-in_err-catch_up-clause-list g c =
    let p = err_from_is_err_and c.from_residual.result c.from_residual.ensures.1 in
    rw p.1 (learns-trans c.args.seat.now c.loop.seat c.catch_up.new.seat c.loop.invariant.1 c.catch_up.ensures.learns)

pub returns-in_err-catch_up-clause-fault : goal.returns-in_err-catch_up-clause-fault
returns-in_err-catch_up-clause-fault g c =
    let p = err_from_is_err_and c.from_residual.result c.from_residual.ensures.1 in
    rw (p.1, p.2)
    (fill_from_look g.R.Record.form.width c.args.self.now c.catch_up.new.seat c.args.least c.in_err-catch_up.field-0.0 c.in_err-catch_up.ensures.fault)

pub loop-preserved : goal.loop-preserved
loop-preserved g c =
    let old = c.args.seat.now in
    let caught = c.catch_up.new.seat in
    let new = c.fill_up-filled.new.seat in
    let refused = subst (FillsOrReaches c.args.self.now caught new c.args.least c.args.v) c.in-Err-Strayed.is c.fill_up-filled.ensures.list in
    (c.fill_up-filled.ensures.of, learns-trans old caught new (learns-trans old c.loop.seat caught c.loop.invariant.1 c.catch_up.ensures.learns) refused)

pub returns-in_err-catch_up-clause-of : goal.returns-in_err-catch_up-clause-of
returns-in_err-catch_up-clause-of g c = c.catch_up.ensures.of

pub returns-in_default-clause-of : goal.returns-in_default-clause-of
returns-in_default-clause-of g c = c.fill_up-filled.ensures.of

pub returns-in_default-clause-fault : goal.returns-in_default-clause-fault
returns-in_default-clause-fault g c = c.fill_up-filled.ensures.fault
