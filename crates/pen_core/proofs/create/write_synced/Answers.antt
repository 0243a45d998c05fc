use Rattle.pen_core.proofs.Births.{synced_images, torn_only}
use Rattle.std.proofs.Common.{◌-◌, refl, arith}
use Rattle.std.proofs.lemmas.Result.{err_from_is_err_and}
use Rattle.disk_core.specs.declared.fault.DiskFault.TheVariants.{Write}
use Rattle.disk_core.specs.Moments.{clock}
use Rattle.pen_core.specs.Births.{write_calls}
use Rattle.pen_core.proofs.CreationCalls.{ends_at, sync_ends}
use Rattle.pen_core.proofs.create.write_synced.Goals as goal

pub returns-in_err-write_at-clause-images : goal.returns-in_err-write_at-clause-images
returns-in_err-write_at-clause-images g c = λ model.
    torn_only (g.D.Disk.states c.args.disk.now) (g.D.Disk.states c.write_at.new.self) c.args.at c.args.bytes.now
    c.write_at.result (c.write_at.ensures.done (c.write_at.ensures.model model)) (c.write_at.ensures.torn model)

pub returns-clause-images : goal.returns-clause-images
returns-clause-images g c = λ model.
    let mid = c.sync.ensures.model model in
    synced_images (g.D.Disk.states c.args.disk.now) (g.D.Disk.states c.write_at.new.self) (g.D.Disk.states c.sync.new.self)
    c.args.at c.args.bytes.now c.write_at.result c.sync.result
    (c.write_at.ensures.done (c.write_at.ensures.model mid)) (c.write_at.ensures.torn mid) (c.sync.ensures.done mid)
    (c.sync.ensures.same mid) (g.met.D.Disk.reads_an_image c.write_at.new.self mid)

pub returns-in_err-write_at-clause-calls : goal.returns-in_err-write_at-clause-calls
returns-in_err-write_at-clause-calls g c =
    let n = clock (g.D.Disk.states c.write_at.new.self) - clock (g.D.Disk.states c.args.disk.now) in
    let p = err_from_is_err_and c.from_residual.result c.from_residual.ensures.1 in
    rw (p.1, p.2) (ends_at write_calls 0 n Write c.in_err-write_at.field-0.0 refl c.in_err-write_at.ensures.cause.0 (omega (arith, c.write_at.ensures.time)))

pub returns-clause-calls : goal.returns-clause-calls
returns-clause-calls g c =
    sync_ends c.sync.result (g.D.Disk.faults c.write_at.new.self) (g.D.Disk.faults c.sync.new.self)
    (clock (g.D.Disk.states c.args.disk.now)) (clock (g.D.Disk.states c.sync.new.self)) c.sync.ensures.cause
    (omega (arith, c.write_at.ensures.time, c.sync.ensures.time))
