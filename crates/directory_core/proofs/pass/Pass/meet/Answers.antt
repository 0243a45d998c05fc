use Rattle.std.proofs.Common.{◌≡◌, ◌+◌, ◌≤◌, inl, inr, length, take, ◌∙◌, ap, sym, subst, slice_get, arith}
use Rattle.std.proofs.lemmas.List.{take_all, length-take-le}
use Rattle.std.proofs.Math.Seq.{take-length}
use Rattle.directory_core.specs.Identity.{Identity}
use Rattle.directory_core.specs.Known.{Known}
use Rattle.directory_core.proofs.Chains.{same_below, longer_mine, longer_theirs}
use Rattle.directory_core.proofs.NoteRows.{same_take_more}
use Rattle.directory_core.proofs.Passes.{true_or_false}
use Rattle.directory_core.proofs.pass.Pass.meet.Goals as goal

pub loop-number-preserved : goal.loop-number-preserved
loop-number-preserved g c =
    let i = c.loop-number.invariant in
    let same : slice_get c.args.self.now.entries c.loop-number.number ≡ slice_get c.args.other.now.entries c.loop-number.number = rw (← i.0, ← i.1) c.agree_at.ensures.agree in
    (c.agree_at.ensures.same.0 ∙ i.0, c.agree_at.ensures.same.1 ∙ i.1, same_take_more c.args.self.now.entries c.args.other.now.entries c.loop-number.number i.2 same)

pub agree_at-requires-clause-mine : goal.agree_at-requires-clause-mine
agree_at-requires-clause-mine g c κs held = let mine = ap (λ (p : Known _). length p.entries) c.loop-number.invariant.0 in omega arith

pub agree_at-requires-clause-theirs : goal.agree_at-requires-clause-theirs
agree_at-requires-clause-theirs g c κs held = let theirs = ap (λ (p : Known _). length p.entries) c.loop-number.invariant.1 in omega arith

-- the end stands behind those that it knows

pub returns-then-self-clause-agree : goal.returns-then-self-clause-agree
returns-then-self-clause-agree g c = λ k lt lt'. same_below c.args.self.now.entries c.args.other.now.entries c.loop-number.number k c.loop-number.invariant.2 (omega arith)

pub returns-then-self-clause-meets : goal.returns-then-self-clause-meets
returns-then-self-clause-meets g c =
    let i = c.loop-number.invariant in
    let mine = c.args.self.now.entries in
    let theirs = c.args.other.now.entries in
    let few = c.covers.ensures.covers in
    let my_few = ap (λ (p : Known _). length p.entries) i.0 in
    let their_few = ap (λ (p : Known _). length p.entries) i.1 in
    let all : c.loop-number.number ≡ length theirs = omega arith in
    longer_mine mine theirs c.covers.new.self.entries
    (ap (λ (p : Known _). p.entries) (c.covers.ensures.same.0 ∙ i.0)) (rw (← all) i.2)

pub returns-then-self-clause-same : goal.returns-then-self-clause-same
returns-then-self-clause-same g c = c.covers.ensures.same.1 ∙ c.loop-number.invariant.1

pub returns-then-self-clause-all : goal.returns-then-self-clause-all
returns-then-self-clause-all g c = λ _.
    subst (λ (p : Known g.row.R.Denot). length p.entries ≤ length c.args.self.now.entries) c.loop-number.invariant.1
    (subst (λ (p : Known g.row.R.Denot). length c.loop-number.other.entries ≤ length p.entries) c.loop-number.invariant.0 c.covers.ensures.covers)

-- it took all that the other knows

pub loop-number-then-mine-theirs-init : goal.loop-number-then-mine-theirs-init
loop-number-then-mine-theirs-init g c =
    let i = c.loop-number.invariant in
    let mine = c.args.self.now.entries in
    let theirs = c.args.other.now.entries in
    let all : c.loop-number.number ≡ length mine = omega arith in
    let begins : take (length mine) theirs ≡ mine = sym (subst (λ n. take n mine ≡ take n theirs) all i.2) ∙ take-length mine in
    let going = ap (λ (p : Known _). p.ended) (sym c.self-2.view_is) ∙ c.if-self.false in (
      ap (λ (p : Known _). p.of) i.0,
      i.1,
      ap (λ (p : Known _). p.entries) i.0 ∙ (sym begins ∙ ap (λ n. take n theirs) (sym c.known-mine.ensures.count)),
      begins,
      going,
      ap (λ (p : Known _). p.ended) (sym i.0) ∙ going,
    )

pub loop-number-then-mine-theirs-preserved : goal.loop-number-then-mine-theirs-preserved
loop-number-then-mine-theirs-preserved g c =
    let i = c.loop-number-then-mine-theirs.invariant in
    let took = c.take_next.ensures in
    (took.of ∙ i.0, took.same ∙ i.1, took.next ∙ ap (λ (p : Known _). take (c.loop-number-then-mine-theirs.number + 1) p.entries) i.1, i.3, took.open, i.5)

pub take_next-requires-clause-number : goal.take_next-requires-clause-number
take_next-requires-clause-number g c κs held =
    let i = c.loop-number-then-mine-theirs.invariant in
    sym (ap length i.2 ∙ length-take-le c.loop-number-then-mine-theirs.number c.args.other.now.entries (omega arith))

pub take_next-requires-clause-room : goal.take_next-requires-clause-room
take_next-requires-clause-room g c κs held =
    let room = ap (λ (d : Identity). d.room) (c.loop-number-then-mine-theirs.invariant.0 ∙ c.requires.of) in (omega arith, omega arith)

pub take_next-requires-clause-longer : goal.take_next-requires-clause-longer
take_next-requires-clause-longer g c κs held =
    let theirs = ap (λ (p : Known _). length p.entries) c.loop-number-then-mine-theirs.invariant.1 in omega arith

pub take_next-requires-clause-begins : goal.take_next-requires-clause-begins
take_next-requires-clause-begins g c κs held =
    let i = c.loop-number-then-mine-theirs.invariant in
    ap (λ (p : Known _). take c.loop-number-then-mine-theirs.number p.entries) i.1 ∙ sym i.2

pub returns-after-loop-number-then-mine-theirs-clause-all : goal.returns-after-loop-number-then-mine-theirs-clause-all
returns-after-loop-number-then-mine-theirs-clause-all g c = λ all. elim all [
  | inl ended ↦ absurd (true_or_false c.args.self.now.ended ended c.loop-number-then-mine-theirs.invariant.5)
  | inr full ↦ let room = ap (λ (d : Identity). d.room) c.requires.of in omega arith
]

pub returns-after-loop-number-then-mine-theirs-clause-agree : goal.returns-after-loop-number-then-mine-theirs-clause-agree
returns-after-loop-number-then-mine-theirs-clause-agree g c = λ k lt lt'.
    same_below c.args.self.now.entries c.args.other.now.entries c.loop-number.number k c.loop-number.invariant.2 (omega arith)

pub returns-after-loop-number-then-mine-theirs-clause-meets : goal.returns-after-loop-number-then-mine-theirs-clause-meets
returns-after-loop-number-then-mine-theirs-clause-meets g c =
    let i = c.loop-number-then-mine-theirs.invariant in
    let theirs = c.args.other.now.entries in
    longer_theirs c.args.self.now.entries theirs c.loop-number-then-mine-theirs.self.entries
    (i.2 ∙ take_all c.loop-number-then-mine-theirs.number theirs (omega arith)) i.3

-- it knows no less

pub returns-else-mine-theirs-clause-agree : goal.returns-else-mine-theirs-clause-agree
returns-else-mine-theirs-clause-agree g c = λ k lt lt'. same_below c.args.self.now.entries c.args.other.now.entries c.loop-number.number k c.loop-number.invariant.2 (omega arith)

pub returns-else-mine-theirs-clause-meets : goal.returns-else-mine-theirs-clause-meets
returns-else-mine-theirs-clause-meets g c =
    let i = c.loop-number.invariant in
    let mine = c.args.self.now.entries in
    let theirs = c.args.other.now.entries in
    let all : c.loop-number.number ≡ length theirs = omega arith in
    longer_mine mine theirs c.loop-number.self.entries (ap (λ (p : Known _). p.entries) i.0) (rw (← all) i.2)
