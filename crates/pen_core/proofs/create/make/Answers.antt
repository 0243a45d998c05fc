use Rattle.std.proofs.Common.{sym, ap, subst}
use Rattle.disk_core.specs.State.{now}
use Rattle.pen_core.specs.Births.{IsExisting}
use Rattle.pen_core.proofs.Births.{born_safely, born_onward, nothing_written, nothing_synced}
use Rattle.std.proofs.Common.{◌≡◌, ◌<◌, ◌-◌, ◌+◌, ◌∷◌, ◌++◌, [], ℕ, List, length, length-append, refl, arith}
use Rattle.std.proofs.lemmas.Result.{err_from_is_err_and}
use Rattle.disk_core.specs.declared.fault.DiskFault.TheVariants.{Sync}
use Rattle.disk_core.specs.Calls.{bytes_of}
use Rattle.disk_core.specs.Moments.{clock}
use Rattle.pen_core.specs.Births.{first_calls, write_calls, calls_of_creation, AreCallsUntil}
use Rattle.pen_core.proofs.CreationCalls.{ends_at, ends_behind, until_behind}
use Rattle.pen_core.proofs.create.make.Goals as goal

pub returns-in-Err-clause-existed : goal.returns-in-Err-clause-existed
returns-in-Err-clause-existed g c = λ model there.
    let old = g.D.Disk.states c.args.disk.now in
    let m = c.sync.ensures.model model in
    nothing_synced old (g.D.Disk.states c.sync.new.self) c.sync.result (c.sync.ensures.done m) (c.sync.ensures.same m)
    (g.met.D.Disk.reads_an_image c.args.disk.now m) (ap (λ ss. (now ss).seen) (c.in-Err.ensures.same m))

pub returns-in_err-close_first-clause-born : goal.returns-in_err-close_first-clause-born
returns-in_err-close_first-clause-born g c = λ model.
    let old = g.D.Disk.states c.args.disk.now in
    let m = c.sync.ensures.model (c.close_first.ensures.model model) in
    born_safely c.args.shape old (g.D.Disk.states c.sync.new.self) (g.D.Disk.states c.close_first.new.disk)
    c.sync.ensures.time (ap (λ ss. (now ss).seen) (c.in_default.ensures.done m))
    (λ none. c.close_first.ensures.born model none c.args.shape)

pub returns-in_err-close_first-clause-existed : goal.returns-in_err-close_first-clause-existed
returns-in_err-close_first-clause-existed g c = λ model there.
    let old = g.D.Disk.states c.args.disk.now in
    let m = c.sync.ensures.model (c.close_first.ensures.model model) in
    let settles = c.in_default.ensures.done m in
    let left = c.close_first.ensures.existed model (subst IsExisting (sym (ap (λ ss. (now ss).seen) settles)) there) in
    nothing_written old (g.D.Disk.states c.sync.new.self) (g.D.Disk.states c.close_first.new.disk) c.sync.result
    (c.sync.ensures.done m) (c.sync.ensures.same m) (g.met.D.Disk.reads_an_image c.args.disk.now m) (ap now settles)
    left.0 left.1

pub returns-in-Err-write_header-clause-born : goal.returns-in-Err-write_header-clause-born
returns-in-Err-write_header-clause-born g c = λ model.
    let old = g.D.Disk.states c.args.disk.now in
    let cleared = c.write_header.ensures.model model in
    let m = c.sync.ensures.model (c.close_first.ensures.model cleared) in
    born_onward c.args.shape old (g.D.Disk.states c.sync.new.self) (g.D.Disk.states c.close_first.new.disk)
    (g.D.Disk.states c.write_header.new.disk) c.sync.ensures.time (ap (λ ss. (now ss).seen) (c.in_default.ensures.done m))
    (λ none. c.close_first.ensures.born cleared none c.args.shape) (c.write_header.ensures.born model)

pub returns-clause-born : goal.returns-clause-born
returns-clause-born g c = λ model.
    let old = g.D.Disk.states c.args.disk.now in
    let cleared = c.write_header.ensures.model model in
    let m = c.sync.ensures.model (c.close_first.ensures.model cleared) in
    born_onward c.args.shape old (g.D.Disk.states c.sync.new.self) (g.D.Disk.states c.close_first.new.disk)
    (g.D.Disk.states c.write_header.new.disk) c.sync.ensures.time (ap (λ ss. (now ss).seen) (c.in_default.ensures.done m))
    (λ none. c.close_first.ensures.born cleared none c.args.shape) (c.write_header.ensures.born model)

pub returns-in-Err-clause-calls : goal.returns-in-Err-clause-calls
returns-in-Err-clause-calls g c = λ model.
    let old = g.D.Disk.states c.args.disk.now in
    ends_at (calls_of_creation (bytes_of old)) 0 (clock (g.D.Disk.states c.sync.new.self) - clock old) Sync c.in-Err.fault
    refl c.in-Err.ensures.cause.0 (omega (arith, c.sync.ensures.time))

pub returns-in_err-close_first-clause-calls : goal.returns-in_err-close_first-clause-calls
returns-in_err-close_first-clause-calls g c = λ model.
    let old = g.D.Disk.states c.args.disk.now in
    let mid = g.D.Disk.states c.sync.new.self in
    let new = g.D.Disk.states c.close_first.new.disk in
    let seen : bytes_of mid ≡ bytes_of old =
    ap (λ ss. (now ss).seen) (c.in_default.ensures.done (c.sync.ensures.model (c.close_first.ensures.model model))) in
    let until =
    subst (λ (bs : List ℕ). AreCallsUntil bs (first_calls bs) c.in_err-close_first.field-0.0 (clock new - clock mid))
    seen (c.in_err-close_first.ensures.calls model) in
    let some : 0 < clock new - clock mid = omega (arith, c.close_first.ensures.later) in
    let p = err_from_is_err_and c.from_residual.result c.from_residual.ensures.1 in
    rw (p.1, p.2)
    (until_behind (bytes_of old) (Sync ∷ []) (first_calls (bytes_of old)) (write_calls ++ write_calls)
    (clock new - clock mid) (clock new - clock old) c.in_err-close_first.field-0.0
    (omega (arith, c.sync.ensures.time, c.close_first.ensures.later)) some until)

pub returns-in-Err-write_header-clause-calls : goal.returns-in-Err-write_header-clause-calls
returns-in-Err-write_header-clause-calls g c = λ model.
    let old = g.D.Disk.states c.args.disk.now in
    let mid = g.D.Disk.states c.sync.new.self in
    let last = g.D.Disk.states c.close_first.new.disk in
    let new = g.D.Disk.states c.write_header.new.disk in
    let cleared = c.write_header.ensures.model model in
    let seen : bytes_of mid ≡ bytes_of old =
    ap (λ ss. (now ss).seen) (c.in_default.ensures.done (c.sync.ensures.model (c.close_first.ensures.model cleared))) in
    let first = subst (λ (bs : List ℕ). clock last ≡ clock mid + length (first_calls bs)) seen (c.in_ok-close_first.ensures.calls cleared) in
    let ends = c.in-Err-write_header.ensures.calls in
    let some : 0 < clock new - clock last = ends.0 in
    ends_behind ((Sync ∷ []) ++ first_calls (bytes_of old)) (write_calls ++ write_calls) (clock new - clock last)
    (clock new - clock old) c.in-Err-write_header.fault (omega (arith, first, some, c.sync.ensures.time)) ends

pub returns-clause-calls : goal.returns-clause-calls
returns-clause-calls g c = λ model.
    let old = g.D.Disk.states c.args.disk.now in
    let mid = g.D.Disk.states c.sync.new.self in
    let last = g.D.Disk.states c.close_first.new.disk in
    let cleared = c.write_header.ensures.model model in
    let seen : bytes_of mid ≡ bytes_of old =
    ap (λ ss. (now ss).seen) (c.in_default.ensures.done (c.sync.ensures.model (c.close_first.ensures.model cleared))) in
    let first = subst (λ (bs : List ℕ). clock last ≡ clock mid + length (first_calls bs)) seen (c.in_ok-close_first.ensures.calls cleared) in
    omega (
      arith,
      first,
      c.sync.ensures.time,
      c.in_default-write_header.ensures.calls,
      length-append ((Sync ∷ []) ++ first_calls (bytes_of old)) (write_calls ++ write_calls),
    )

pub returns-in-Err-write_header-clause-existed : goal.returns-in-Err-write_header-clause-existed
returns-in-Err-write_header-clause-existed g c = λ model there.
    let cleared = c.write_header.ensures.model model in
    let settled = c.in_default.ensures.done (c.sync.ensures.model (c.close_first.ensures.model cleared)) in
    absurd (c.in_ok-close_first.ensures.none_existed cleared (subst IsExisting (sym (ap (λ ss. (now ss).seen) settled)) there))

pub returns-clause-existed : goal.returns-clause-existed
returns-clause-existed g c = λ model there.
    let cleared = c.write_header.ensures.model model in
    let settled = c.in_default.ensures.done (c.sync.ensures.model (c.close_first.ensures.model cleared)) in
    absurd (c.in_ok-close_first.ensures.none_existed cleared (subst IsExisting (sym (ap (λ ss. (now ss).seen) settled)) there))
