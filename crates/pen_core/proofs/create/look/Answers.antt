use Rattle.std.proofs.lemmas.Grind.{common_steps}
use Rattle.pen_core.proofs.Births.{stays_only, stays_twice}
use Rattle.std.proofs.Common.{◌<◌, ◌≤◌, ◌-◌, length, refl, ap, inl, inr, arith}
use Rattle.std.specs.Prelude.{slice_get}
use Rattle.std.proofs.lemmas.Result.{err_from_is_err_and}
use Rattle.disk_core.specs.declared.fault.DiskFault.TheVariants.{Length, Read}
use Rattle.disk_core.specs.Calls.{bytes_of}
use Rattle.disk_core.specs.Moments.{clock}
use Rattle.pen_core.specs.Births.{first_calls}
use Rattle.pen_core.proofs.CreationCalls.{ends_at, first_long}
use Rattle.pen_core.proofs.create.look.Goals as goal

pub returns-in_err-len-clause-images : goal.returns-in_err-len-clause-images
returns-in_err-len-clause-images g c =
    λ model.
    stays_only (g.D.Disk.states c.args.disk.now) (g.D.Disk.states c.len.new.self)
    (c.len.ensures.same (c.len.ensures.model model))

pub returns-then-len-clause-images : goal.returns-then-len-clause-images
returns-then-len-clause-images g c =
    λ model.
    stays_only (g.D.Disk.states c.args.disk.now) (g.D.Disk.states c.len.new.self)
    (c.len.ensures.same (c.len.ensures.model model))

pub returns-then-len-lt2-clause-images : goal.returns-then-len-lt2-clause-images
returns-then-len-lt2-clause-images g c =
    λ model.
    stays_only (g.D.Disk.states c.args.disk.now) (g.D.Disk.states c.len.new.self)
    (c.len.ensures.same (c.len.ensures.model model))

pub returns-in_err-read_at-clause-images : goal.returns-in_err-read_at-clause-images
returns-in_err-read_at-clause-images g c = λ model.
    let before = c.read_at.ensures.model model in
    stays_twice (g.D.Disk.states c.args.disk.now) (g.D.Disk.states c.len.new.self) (g.D.Disk.states c.read_at.new.self)
    (c.len.ensures.same (c.len.ensures.model before)) (c.read_at.ensures.same before)

pub returns-then-first-eq-OPEN_GATE-clause-images : goal.returns-then-first-eq-OPEN_GATE-clause-images
returns-then-first-eq-OPEN_GATE-clause-images g c = λ model.
    let before = c.read_at.ensures.model model in
    stays_twice (g.D.Disk.states c.args.disk.now) (g.D.Disk.states c.len.new.self) (g.D.Disk.states c.read_at.new.self)
    (c.len.ensures.same (c.len.ensures.model before)) (c.read_at.ensures.same before)

pub returns-clause-images : goal.returns-clause-images
returns-clause-images g c = λ model.
    let before = c.read_at.ensures.model model in
    stays_twice (g.D.Disk.states c.args.disk.now) (g.D.Disk.states c.len.new.self) (g.D.Disk.states c.read_at.new.self)
    (c.len.ensures.same (c.len.ensures.model before)) (c.read_at.ensures.same before)

pub returns-in_err-len-clause-calls : goal.returns-in_err-len-clause-calls
returns-in_err-len-clause-calls g c = λ model.
    let old = g.D.Disk.states c.args.disk.now in
    let n = clock (g.D.Disk.states c.len.new.self) - clock old in
    let p = err_from_is_err_and c.from_residual.result c.from_residual.ensures.1 in
    rw (p.1, p.2) (ends_at (first_calls (bytes_of old)) 0 n Length c.in_err-len.field-0.0 refl c.in_err-len.ensures.cause.0 (omega (arith, c.len.ensures.time)))

pub returns-then-len-clause-calls : goal.returns-then-len-clause-calls
returns-then-len-clause-calls g c = λ model.
    let old = g.D.Disk.states c.args.disk.now in
    let long : 12 < length (bytes_of old) = omega (arith, c.in_ok-len.ensures.value model, c.if-len.true) in
    inl (
      long,
      ends_at (first_calls (bytes_of old)) 0 (clock (g.D.Disk.states c.len.new.self) - clock old) Length Length refl
          refl (omega (arith, c.len.ensures.time)),
    )

pub returns-in_err-read_at-clause-calls : goal.returns-in_err-read_at-clause-calls
returns-in_err-read_at-clause-calls g c = λ model.
    let old = g.D.Disk.states c.args.disk.now in
    let n = clock (g.D.Disk.states c.read_at.new.self) - clock old in
    let long : 1 < length (bytes_of old) = omega (arith, c.in_ok-len.ensures.value (c.read_at.ensures.model model), c.if-len-lt2.false) in
    let short : length (bytes_of old) ≤ 12 = omega (arith, c.in_ok-len.ensures.value (c.read_at.ensures.model model), c.if-len.false) in
    let p = err_from_is_err_and c.from_residual-in_err-read_at.result c.from_residual-in_err-read_at.ensures.1 in
    rw (p.1, p.2)
    (ends_at (first_calls (bytes_of old)) 1 n Read c.in_err-read_at.field-0.0
    (ap (λ cs. slice_get cs 1) (first_long (bytes_of old) long short)) c.in_err-read_at.ensures.cause.0
    (omega (arith, c.len.ensures.time, c.read_at.ensures.time)))

pub returns-then-first-eq-OPEN_GATE-clause-calls : goal.returns-then-first-eq-OPEN_GATE-clause-calls
returns-then-first-eq-OPEN_GATE-clause-calls g c = λ model.
    let old = g.D.Disk.states c.args.disk.now in
    let n = clock (g.D.Disk.states c.read_at.new.self) - clock old in
    let long : 1 < length (bytes_of old) = omega (arith, c.in_ok-len.ensures.value (c.read_at.ensures.model model), c.if-len-lt2.false) in
    let short : length (bytes_of old) ≤ 12 = omega (arith, c.in_ok-len.ensures.value (c.read_at.ensures.model model), c.if-len.false) in
    inr (
      short,
      ends_at (first_calls (bytes_of old)) 1 n Read Read
          (ap (λ cs. slice_get cs 1) (first_long (bytes_of old) long short)) refl
          (omega (arith, c.len.ensures.time, c.read_at.ensures.time)),
    )

pub returns-then-first-eq-OPEN_GATE-clause-blank_time : goal.returns-then-first-eq-OPEN_GATE-clause-blank_time
returns-then-first-eq-OPEN_GATE-clause-blank_time g c = grind (arith, common_steps)

pub returns-clause-blank_time : goal.returns-clause-blank_time
returns-clause-blank_time g c = grind (arith, common_steps)

pub returns-then-first-eq-OPEN_GATE-clause-found : goal.returns-then-first-eq-OPEN_GATE-clause-found
returns-then-first-eq-OPEN_GATE-clause-found g c = grind (arith, common_steps)

pub returns-clause-found : goal.returns-clause-found
returns-clause-found g c = grind (arith, common_steps)
