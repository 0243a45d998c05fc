use Rattle.std.proofs.Common.{◌≡◌, ◌-◌, length, take, drop, subst, ◌∙◌}
use Rattle.disk_core.specs.State.{now, settled, touched, overlay, IsImage}
use Rattle.disk_core.specs.Calls.{bytes_of}
use Rattle.disk_core.specs.Moments.{LeavesOnly}
use Rattle.pen_core.proofs.Births.{born_header, born_opened, opened_file}
use Rattle.std.proofs.Common.{◌<◌, arith}
use Rattle.std.proofs.lemmas.Result.{err_from_is_err_and, on_ok_weaker, MatchResult-weaker}
use Rattle.disk_core.specs.Moments.{clock}
use Rattle.pen_core.specs.Births.{write_calls}
use Rattle.pen_core.proofs.CreationCalls.{ends_front, ends_behind}
use Rattle.pen_core.proofs.create.write_header.Goals as goal

pub returns-in_err-write_synced-clause-born : goal.returns-in_err-write_synced-clause-born
returns-in_err-write_synced-clause-born g c = λ model.
    let old = g.D.Disk.states c.args.disk.now in
    let mid = g.D.Disk.states c.write_synced.new.disk in
    born_header c.args.shape old mid (c.requires.clear (c.write_synced.ensures.model model))
    (subst
    (λ bs. LeavesOnly old mid (IsImage (touched (now old) 1 (length (take (length bs - 1) (drop 1 bs))) (bytes_of old))))
    c.requires.spelled (c.write_synced.ensures.images model))

pub returns-clause-born : goal.returns-clause-born
returns-clause-born g c = λ model.
    let old = g.D.Disk.states c.args.disk.now in
    let mid = g.D.Disk.states c.write_synced.new.disk in
    let m = c.write_synced-2.ensures.model model in
    born_opened c.args.shape old mid (g.D.Disk.states c.write_synced-2.new.disk) (c.requires.clear (c.write_synced.ensures.model m))
    (subst
    (λ bs. LeavesOnly old mid (IsImage (touched (now old) 1 (length (take (length bs - 1) (drop 1 bs))) (bytes_of old))))
    c.requires.spelled (c.write_synced.ensures.images m))
    (subst (λ bs. now mid ≡ settled (overlay (bytes_of old) 1 (take (length bs - 1) (drop 1 bs)))) c.requires.spelled (c.in_ok-write_synced.ensures.done m))
    (c.write_synced-2.ensures.images model)

pub returns-in_err-write_synced-clause-calls : goal.returns-in_err-write_synced-clause-calls
returns-in_err-write_synced-clause-calls g c =
    let n = clock (g.D.Disk.states c.write_synced.new.disk) - clock (g.D.Disk.states c.args.disk.now) in
    let p = err_from_is_err_and c.from_residual.result c.from_residual.ensures.1 in
    rw (p.1, p.2) (ends_front write_calls write_calls n c.in_err-write_synced.field-0.0 c.in_err-write_synced.ensures.calls)

pub returns-clause-calls : goal.returns-clause-calls
returns-clause-calls g c =
    let old = clock (g.D.Disk.states c.args.disk.now) in
    let mid = clock (g.D.Disk.states c.write_synced.new.disk) in
    let new = clock (g.D.Disk.states c.write_synced-2.new.disk) in
    let first = c.in_ok-write_synced.ensures.calls in
    MatchResult-weaker c.write_synced-2.result c.write_synced-2.ensures.calls (λ _ then. omega (arith, first, then))
    (λ cause ends. (let some : 0 < new - mid = ends.0 in ends_behind write_calls write_calls (new - mid) (new - old) cause (omega (arith, first, some)) ends))

pub returns-clause-done : goal.returns-clause-done
returns-clause-done g c = λ model.
    let old = g.D.Disk.states c.args.disk.now in
    let mid = g.D.Disk.states c.write_synced.new.disk in
    let m = c.write_synced-2.ensures.model model in
    let first =
    subst (λ bs. now mid ≡ settled (overlay (bytes_of old) 1 (take (length bs - 1) (drop 1 bs)))) c.requires.spelled
    (c.in_ok-write_synced.ensures.done m) in
    on_ok_weaker c.write_synced-2.result
    (λ done. done ∙ opened_file c.args.shape old mid (c.requires.clear (c.write_synced.ensures.model m)) first)
    (c.write_synced-2.ensures.done model)
