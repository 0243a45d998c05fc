use Rattle.std.proofs.Common.{◌≡◌, [], ◌++◌, length-append, ℕ, List, length, drop, ap, subst, arith}
use Rattle.segment_core.specs.declared.format.Shape.{Shape}
use Rattle.segment_core.specs.Frame.{header}
use Rattle.segment_core.specs.Fault.{IsHeaderFault}
use Rattle.segment_core.proofs.Header.{finds_unborn_short}
use Rattle.beside_core.specs.Bookmark.{LiesBehind}
use Rattle.beside_core.proofs.Taken.{were_there, header_taken}
use Rattle.beside_core.proofs.HeaderSeen.{header_read, header_spelled, never_faulty}
use Rattle.beside_core.proofs.bookmark.Bookmark.first.Goals as goal

pub returns-then-index-ne-OPEN_GATE-clause-seen : goal.returns-then-index-ne-OPEN_GATE-clause-seen
returns-then-index-ne-OPEN_GATE-clause-seen g c = λ kept.
    let e = c.in_ok-take.ensures in
    let one : length e.taken.got ≡ 1 = omega (arith, e.long, ap length e.taken.after_is, length-append c.new-header.result.items e.taken.got) in (
      e.taken.got,
      were_there (g.S.Shared.held c.args.file.now) (g.S.Shared.now c.args.file.now) (g.S.Shared.now c.take.new.file) 0 e.taken.got (e.taken.there kept),
      λ width wide. finds_unborn_short width e.taken.got (omega (arith, one)),
    )

pub returns-in-Ok-clause-behind : goal.returns-in-Ok-clause-behind
returns-in-Ok-clause-behind g c = λ kept shape frames file.
    let held = g.S.Shared.held c.args.file.now in
    let s = g.S.Shared.now c.args.file.now in
    let u = g.S.Shared.now c.take-2.new.file in
    let bytes : List ℕ = c.take-2.new.out.items in
    let a = c.in_ok-take.ensures in
    let b = c.in_ok-take-2.ensures in
    let read = header_taken (g.S.Shared.keeps c.take.new.file) (g.S.Shared.keeps c.take-2.new.file) (g.S.Shared.held c.take.new.file) held s (g.S.Shared.now c.take.new.file) u
    c.new-header.result.items c.take.new.out.items bytes c.new-header.ensures.items a.same b.model a.time b.time a.taken a.long b.taken b.long kept in
    subst (λ (s : Shape). LiesBehind s [] c.behind_header.result)
    (header_spelled c.in-Ok.shape shape bytes c.in-Ok.ensures.sound.1 file.narrow read.1 (header_read shape held frames s u bytes file read.1 read.0) (subst (λ
    (bs : List ℕ). bs ≡ header c.in-Ok.shape ++ drop 11 bs) c.deref.ensures.value c.in-Ok.ensures.spelled))
    c.behind_header.ensures

pub returns-clause-behind : goal.returns-clause-behind
returns-clause-behind g c = λ kept shape frames file.
    let held = g.S.Shared.held c.args.file.now in
    let s = g.S.Shared.now c.args.file.now in
    let u = g.S.Shared.now c.take-2.new.file in
    let bytes : List ℕ = c.take-2.new.out.items in
    let a = c.in_ok-take.ensures in
    let b = c.in_ok-take-2.ensures in
    let read = header_taken (g.S.Shared.keeps c.take.new.file) (g.S.Shared.keeps c.take-2.new.file) (g.S.Shared.held c.take.new.file) held s (g.S.Shared.now c.take.new.file) u
    c.new-header.result.items c.take.new.out.items bytes c.new-header.ensures.items a.same b.model a.time b.time a.taken a.long b.taken b.long kept in
    never_faulty shape c.in-Err.fault bytes file.wide file.narrow (header_read shape held frames s u bytes file read.1 read.0) (subst (λ
    (bs : List ℕ). IsHeaderFault bs c.in-Err.fault) c.deref.ensures.value c.in-Err.ensures.sound)

pub returns-clause-seen : goal.returns-clause-seen
returns-clause-seen g c = λ kept.
    let a = c.in_ok-take.ensures in
    let b = c.in_ok-take-2.ensures in
    let bytes : List ℕ = c.take-2.new.out.items in
    let read = header_taken (g.S.Shared.keeps c.take.new.file) (g.S.Shared.keeps c.take-2.new.file) (g.S.Shared.held c.take.new.file) (g.S.Shared.held c.args.file.now)
    (g.S.Shared.now c.args.file.now) (g.S.Shared.now c.take.new.file) (g.S.Shared.now c.take-2.new.file)
    c.new-header.result.items c.take.new.out.items bytes c.new-header.ensures.items a.same b.model a.time b.time a.taken a.long b.taken b.long kept in
    (bytes, read.0, subst (λ (bs : List ℕ). IsHeaderFault bs c.in-Err.fault) c.deref.ensures.value c.in-Err.ensures.sound)
