use Rattle.std.proofs.Common.{subst}
use Rattle.disk_core.specs.Calls.{bytes_of}
use Rattle.pen_core.specs.Births.{AreContents, IsExisting}
use Rattle.pen_core.proofs.Births.{born_still, born_first}
use Rattle.std.proofs.Common.{◌<◌, ◌≤◌, ◌-◌, ◌∷◌, [], ℕ, List, length, inl, inr, sym, ap, arith}
use Rattle.disk_core.specs.declared.fault.DiskFault.TheVariants.{Length}
use Rattle.disk_core.specs.Moments.{clock}
use Rattle.pen_core.specs.Births.{first_calls, write_calls, AreLooks, EndsAt}
use Rattle.pen_core.proofs.CreationCalls.{ends_behind, first_blank, first_long}
use Rattle.pen_core.proofs.create.close_first.Goals as goal

-- with one byte at most there is no file
blank_none : (bytes : List ℕ) → length bytes ≤ 1 → IsExisting bytes → ⊥
blank_none bytes short (inl long) = absurd (omega arith)
blank_none bytes short (inr some) = absurd (omega (arith, some.0))

pub returns-in-Err-clause-born : goal.returns-in-Err-clause-born
returns-in-Err-clause-born g c = λ model none shape.
    let old = g.D.Disk.states c.args.disk.now in
    born_still shape old (g.D.Disk.states c.look.new.disk) (bytes_of old) (c.requires.settled (c.look.ensures.model model)) none (c.look.ensures.images model)

pub returns-in-Closed-clause-born : goal.returns-in-Closed-clause-born
returns-in-Closed-clause-born g c = λ model none shape.
    let old = g.D.Disk.states c.args.disk.now in
    born_still shape old (g.D.Disk.states c.look.new.disk) (bytes_of old) (c.requires.settled (c.look.ensures.model model)) none (c.look.ensures.images model)

pub returns-in-Ok-write_synced-clause-born : goal.returns-in-Ok-write_synced-clause-born
returns-in-Ok-write_synced-clause-born g c = λ model none shape.
    let old = g.D.Disk.states c.args.disk.now in
    let m = c.write_synced.ensures.model model in
    born_first shape old (g.D.Disk.states c.look.new.disk) (g.D.Disk.states c.write_synced.new.disk) (bytes_of old)
    (c.requires.settled (c.look.ensures.model m)) (c.look.ensures.same m) none
    (subst (AreContents (bytes_of old)) c.in-Blank.is (c.in-Ok.ensures.found m)) (c.look.ensures.images m) (c.write_synced.ensures.images model)

pub returns-in-Err-write_synced-clause-born : goal.returns-in-Err-write_synced-clause-born
returns-in-Err-write_synced-clause-born g c = λ model none shape.
    let old = g.D.Disk.states c.args.disk.now in
    let m = c.write_synced.ensures.model model in
    born_first shape old (g.D.Disk.states c.look.new.disk) (g.D.Disk.states c.write_synced.new.disk) (bytes_of old)
    (c.requires.settled (c.look.ensures.model m)) (c.look.ensures.same m) none
    (subst (AreContents (bytes_of old)) c.in-Blank.is (c.in-Ok.ensures.found m)) (c.look.ensures.images m) (c.write_synced.ensures.images model)

pub returns-in-File-clause-calls : goal.returns-in-File-clause-calls
returns-in-File-clause-calls g c = λ model.
    let old = g.D.Disk.states c.args.disk.now in
    let n = clock (g.D.Disk.states c.look.new.disk) - clock old in
    subst (λ seen. AreLooks (bytes_of old) (first_calls (bytes_of old)) seen n) c.in-File.is (c.in-Ok.ensures.calls model)

pub returns-in-Closed-clause-calls : goal.returns-in-Closed-clause-calls
returns-in-Closed-clause-calls g c = λ model.
    let old = g.D.Disk.states c.args.disk.now in
    let n = clock (g.D.Disk.states c.look.new.disk) - clock old in
    let two = subst (λ seen. AreLooks (bytes_of old) (first_calls (bytes_of old)) seen n) c.in-Closed.is (c.in-Ok.ensures.calls model) in
    let long = subst (AreContents (bytes_of old)) c.in-Closed.is (c.in-Ok.ensures.found model) in
    omega (arith, two, c.look.ensures.later, ap length (first_long (bytes_of old) long.0 long.1))

pub returns-in-Ok-write_synced-clause-calls : goal.returns-in-Ok-write_synced-clause-calls
returns-in-Ok-write_synced-clause-calls g c = λ model.
    let old = g.D.Disk.states c.args.disk.now in
    let m = c.write_synced.ensures.model model in
    let n = clock (g.D.Disk.states c.look.new.disk) - clock old in
    let one = subst (λ seen. AreLooks (bytes_of old) (first_calls (bytes_of old)) seen n) c.in-Blank.is (c.in-Ok.ensures.calls m) in
    let short = subst (AreContents (bytes_of old)) c.in-Blank.is (c.in-Ok.ensures.found m) in
    omega (arith, one, c.look.ensures.later, c.in-Ok-write_synced.ensures.calls, ap length (first_blank (bytes_of old) short))

pub returns-in-Err-write_synced-clause-calls : goal.returns-in-Err-write_synced-clause-calls
returns-in-Err-write_synced-clause-calls g c = λ model.
    let old = g.D.Disk.states c.args.disk.now in
    let mid = g.D.Disk.states c.look.new.disk in
    let new = g.D.Disk.states c.write_synced.new.disk in
    let m = c.write_synced.ensures.model model in
    let one = subst (λ seen. AreLooks (bytes_of old) (first_calls (bytes_of old)) seen (clock mid - clock old)) c.in-Blank.is (c.in-Ok.ensures.calls m) in
    let short = subst (AreContents (bytes_of old)) c.in-Blank.is (c.in-Ok.ensures.found m) in
    let ends = c.in-Err-write_synced.ensures.calls in
    let some : 0 < clock new - clock mid = ends.0 in
    subst (λ cs. EndsAt cs c.in-Err-write_synced.fault (clock new - clock old)) (sym (first_blank (bytes_of old) short))
    (ends_behind (Length ∷ []) write_calls (clock new - clock mid) (clock new - clock old) c.in-Err-write_synced.fault
    (omega (arith, one, some, c.look.ensures.later)) ends)

pub returns-in-Err-write_synced-clause-existed : goal.returns-in-Err-write_synced-clause-existed
returns-in-Err-write_synced-clause-existed g c = λ model there.
    let old = g.D.Disk.states c.args.disk.now in
    let m = c.write_synced.ensures.model model in
    absurd (blank_none (bytes_of old) (subst (AreContents (bytes_of old)) c.in-Blank.is (c.in-Ok.ensures.found m)) there)

pub returns-in-Ok-write_synced-clause-existed : goal.returns-in-Ok-write_synced-clause-existed
returns-in-Ok-write_synced-clause-existed g c = λ model there.
    let old = g.D.Disk.states c.args.disk.now in
    let m = c.write_synced.ensures.model model in
    absurd (blank_none (bytes_of old) (subst (AreContents (bytes_of old)) c.in-Blank.is (c.in-Ok.ensures.found m)) there)
