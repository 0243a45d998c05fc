use Rattle.std.proofs.Common.{◌≡◌, ◌+◌, ◌≤◌, [], ◌∷◌, ◌++◌, length, take, refl, sym, ap, subst, ◌∙◌, arith}
use Rattle.book_core.specs.Lists.{Phase, Seated, HasJustItsOwn, opening_of, own_of}
use Rattle.book_core.proofs.Steps.{learns-refl}
use Rattle.book_core.proofs.Puts.{put_kept, put_grown, put_learns}
use Rattle.directory_core.specs.Chain.{total}
use Rattle.block_core.specs.Growth.{Growth}
use Rattle.book_core.proofs.live.Live.put.Goals as goal

-- ---- refused before the directory is asked

pub returns-then-is_ended-clause-list : goal.returns-then-is_ended-clause-list
returns-then-is_ended-clause-list g c = (refl, learns-refl c.args.seat.now)

pub returns-then-number-self-clause-list : goal.returns-then-number-self-clause-list
returns-then-number-self-clause-list g c = (refl, learns-refl c.args.seat.now)

pub returns-then-len-start-clause-list : goal.returns-then-len-start-clause-list
returns-then-len-start-clause-list g c = (refl, learns-refl c.args.seat.now)

-- ---- published

pub invariant_of-seat : goal.invariant_of-seat
invariant_of-seat g c =
    let s = c.seat.inside in
    let own = subst HasJustItsOwn (sym c.seat.view_is) c.requires.own in
    let entries = c.in-Ok.ensures.list ∙ ap (λ e. s.pass.entries ++ e ∷ []) c.seal.ensures in
    let kept = put_kept s.id s.checked s.pass c.publish.new.pass s.mark s.serial c.known-number.result c.size-before.result c.args.fresh own
    c.known-number.ensures.count c.size-before.ensures.sum c.seat.invariant.0 entries in
    let serial = c.seat.invariant.1 in
    let checked = c.seat.invariant.2 in
    let number = c.known-number.ensures.count in
    (kept.0, omega arith, kept.1)

pub returns-in-Ok-clause-list : goal.returns-in-Ok-clause-list
returns-in-Ok-clause-list g c = rw (← c.seat.view_is) (
    let s = c.seat.inside in
    let own = subst HasJustItsOwn (sym c.seat.view_is) c.requires.own in
    let entries = c.in-Ok.ensures.list ∙ ap (λ e. s.pass.entries ++ e ∷ []) c.seal.ensures in
    let live = c.args.self.now in
    let of = c.in-Ok.ensures.of ∙ sym (ap (λ (v : Seated _). v.pass.of) c.seat.view_is ∙ c.requires.of.directory ∙ sym (ap (λ (l : Phase _). l.directory) c.self.view_is)) in
    let opening = ap (λ (l : Phase _). length (opening_of l)) c.self.view_is in
    let len = c.len.ensures.is in
    let before = c.size-before.ensures.sum in
    put_grown s.id s.checked s.pass c.publish.new.pass s.mark s.serial c.known-number.result c.size-before.result c.args.fresh own
    c.known-number.ensures.count before c.seat.invariant.0 entries live (c.len.result + c.size-before.result) c.len-len.result of (omega arith) c.len-len.ensures.len)

-- ---- refused by the directory

pub invariant_of-seat-in-Err : goal.invariant_of-seat-in-Err
invariant_of-seat-in-Err g c =
    subst (λ es. (c.seat.inside.serial ≡ length (own_of c.seat.inside.id (take c.seat.inside.checked es))) × (c.seat.inside.serial ≤ c.seat.inside.checked) × (c.seat.inside.checked ≤ length es))
    (sym c.in-Err.ensures.list.1) c.seat.invariant

pub returns-then-number-self-clause-fault : goal.returns-then-number-self-clause-fault
returns-then-number-self-clause-fault g c =
    let full = c.if-number-self.true in
    let known = c.known-number.ensures.count in
    let entries = ap (λ (s : Seated _). length s.pass.entries) c.seat.view_is in
    let room = ap (λ (l : Phase _). l.directory.room) c.self.view_is in
    let is = c.self.invariant.0 in
    (c.requires.own, omega arith)

pub returns-then-len-start-clause-fault : goal.returns-then-len-start-clause-fault
returns-then-len-start-clause-fault g c =
    let less = c.if-number-self.false in
    let known = c.known-number.ensures.count in
    let entries = ap (λ (s : Seated _). length s.pass.entries) c.seat.view_is in
    let room = ap (λ (l : Phase _). l.directory.room) c.self.view_is in
    let is = c.self.invariant.0 in
    let long = c.if-len-start.true in
    let len = c.len-len.ensures.len in
    let before = c.size-before.ensures.sum in
    let sum = ap (λ (s : Seated _). total s.pass.entries) c.seat.view_is in
    let opening = ap (λ (l : Phase _). length (opening_of l)) c.self.view_is in
    let first = c.len.ensures.is in
    (c.requires.own, omega arith, omega arith)

pub returns-in-Ok-clause-at_once : goal.returns-in-Ok-clause-at_once
returns-in-Ok-clause-at_once g c = c.known-number.ensures.count ∙ ap (λ (s : Seated _). length s.pass.entries) c.seat.view_is

pub returns-after-fault-clause-list : goal.returns-after-fault-clause-list
returns-after-fault-clause-list g c =
    let s = c.seat.inside in
    let back = c.unseal.ensures ∙ ap (λ (e : Growth _). e.records) (c.in-Err.ensures.list.0 ∙ c.seal.ensures) in
    let of = c.in-Err.ensures.of ∙ sym (ap (λ (v : Seated _). v.pass.of) c.seat.view_is ∙ c.requires.of.directory ∙ sym (ap (λ (l : Phase _). l.directory) c.self.view_is)) in
    (back, rw (← c.seat.view_is) (put_learns s.id s.checked s.pass c.publish.new.pass s.mark of c.in-Err.ensures.list.1))

pub returns-after-fault-clause-known : goal.returns-after-fault-clause-known
returns-after-fault-clause-known g c = c.in-Err.ensures.list.1 ∙ ap (λ (s : Seated _). s.pass.entries) c.seat.view_is
