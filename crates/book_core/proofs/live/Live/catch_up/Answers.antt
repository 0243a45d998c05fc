use Rattle.std.proofs.Common.{◌≡◌, take, refl, sym, ap, subst, ◌∙◌, arith}
use Rattle.directory_core.specs.Chain.{IsPrefix}
use Rattle.directory_core.specs.Known.{Known}
use Rattle.book_core.specs.Lists.{Phase, Seated, own_of}
use Rattle.book_core.proofs.Owns.{own_of-all}
use Rattle.book_core.proofs.Puts.{learnt, learnt_kept, no_shorter}
use Rattle.book_core.proofs.live.Live.catch_up.Goals as goal

pub invariant_of-seat : goal.invariant_of-seat
invariant_of-seat g c =
    let s = c.seat.inside in
    let same = c.first_of.ensures.same in
    let new = c.first_of.new.pass in
    let begins = subst (λ (p : Known _). IsPrefix s.pass.entries p.entries) (sym same) c.look-looked.ensures.longer in
    let longer = no_shorter s.id s.checked s.pass new s.mark begins in
    let inside = c.seat.invariant.2 in
    learnt_kept s.id s.checked s.pass new s.mark s.serial begins c.seat.invariant s.checked refl (omega arith) (omega arith)

pub returns-in-Some-clause-learns : goal.returns-in-Some-clause-learns
returns-in-Some-clause-learns g c = rw (← c.seat.view_is) (
    let s = c.seat.inside in
    let same = c.first_of.ensures.same in
    let new = c.first_of.new.pass in
    let begins = subst (λ (p : Known _). IsPrefix s.pass.entries p.entries) (sym same) c.look-looked.ensures.longer in
    let of = ap (λ (p : Known _). p.of) same ∙ c.look-looked.ensures.of
    ∙ sym (ap (λ (v : Seated _). v.pass.of) c.seat.view_is ∙ c.requires.of.directory ∙ sym (ap (λ (l : Phase _). l.directory) c.self.view_is)) in
    learnt s.id s.checked s.pass new s.mark of begins c.seat.invariant.2 s.checked refl)

pub invariant_of-seat-2 : goal.invariant_of-seat-2
invariant_of-seat-2 g c =
    let s = c.seat.inside in
    let same = c.first_of.ensures.same in
    let new = c.first_of.new.pass in
    let begins = subst (λ (p : Known _). IsPrefix s.pass.entries p.entries) (sym same) c.look-looked.ensures.longer in
    let known = c.known-seat-inside.ensures.count in
    let own : own_of s.id (take c.known-seat-inside.result new.entries) ≡ own_of s.id (take s.checked new.entries) =
    own_of-all s.id c.known-seat-inside.result new.entries (omega arith)
    ∙ subst (λ (p : Known _). own_of s.id p.entries ≡ own_of s.id (take s.checked p.entries)) (sym same) c.in_default.ensures.first in
    let longer = no_shorter s.id s.checked s.pass new s.mark begins in
    let inside = c.seat.invariant.2 in
    learnt_kept s.id s.checked s.pass new s.mark s.serial begins c.seat.invariant c.known-seat-inside.result own (omega arith) (omega arith)

pub returns-clause-learns : goal.returns-clause-learns
returns-clause-learns g c = rw (← c.seat.view_is) (
    let s = c.seat.inside in
    let same = c.first_of.ensures.same in
    let new = c.first_of.new.pass in
    let begins = subst (λ (p : Known _). IsPrefix s.pass.entries p.entries) (sym same) c.look-looked.ensures.longer in
    let of = ap (λ (p : Known _). p.of) same ∙ c.look-looked.ensures.of
    ∙ sym (ap (λ (v : Seated _). v.pass.of) c.seat.view_is ∙ c.requires.of.directory ∙ sym (ap (λ (l : Phase _). l.directory) c.self.view_is)) in
    let known = c.known-seat-inside.ensures.count in
    let own : own_of s.id (take c.known-seat-inside.result new.entries) ≡ own_of s.id (take s.checked new.entries) =
    own_of-all s.id c.known-seat-inside.result new.entries (omega arith)
    ∙ subst (λ (p : Known _). own_of s.id p.entries ≡ own_of s.id (take s.checked p.entries)) (sym same) c.in_default.ensures.first in
    learnt s.id s.checked s.pass new s.mark of begins c.seat.invariant.2 c.known-seat-inside.result own)
