use Rattle.std.proofs.Common.{◌≡◌, ℕ, ◌<◌, length, All, None, Some, Option, inl, inr, sym, ap, subst, ◌∙◌, arith}
use Rattle.book_core.specs.Lists.{opening_of}
use Rattle.book_core.specs.declared.fault.GrowFault.{GrowFault}
use Rattle.crew_core.specs.Crewing.{ComesNext, HasCome, HasGrown}
use Rattle.crew_core.proofs.Comes.{as_many_receipts, comes, comes_with}
use Rattle.crew_core.proofs.Gates.{comes_next}
use Rattle.crew_core.proofs.grower.Grower.grow_on.Goals as goal

pub before-requires : goal.before-requires
before-requires g c =
    let i = c.loop-k.invariant in
    let grower = c.loop-k.grower in
    subst (λ (id : ℕ). ComesNext (g.G.Gate.was_told c.args.gate.now id) c.loop-k.k) (sym c.id-id.ensures)
    (comes_next (g.G.Gate.was_told c.args.gate.now c.args.self.seat.id) (length (opening_of c.args.live.now)) grower.seat.made grower.receipts.items
    c.loop-k.k i.grown.receipts_are i.made i.grown.serials_are i.told)

pub grow_next-requires-clause-grower : goal.grow_next-requires-clause-grower
grow_next-requires-clause-grower g c κs within =
    subst (λ (id : ℕ). id < g.S.Source.growers_of c.args.source.now) (sym c.loop-k.invariant.same) c.requires.grower

pub grow_next-requires-clause-k : goal.grow_next-requires-clause-k
grow_next-requires-clause-k g c κs within =
    let i = c.loop-k.invariant in
    let count = c.count-k-end.ensures in
    let same = ap (g.S.Source.count_of c.args.source.now) (c.id-id.ensures ∙ sym i.same) in
    (sym i.made, omega arith)

pub grow_next-requires-clause-grown : goal.grow_next-requires-clause-grown
grow_next-requires-clause-grown g c κs within =
    let grower = c.loop-k.grower in
    let source = c.args.source.now in
    subst
    (λ (id : ℕ). HasGrown g.R.Record.form.width c.args.live.now (g.S.Source.count_of source id) (g.S.Source.block_of source id) id grower.seat grower.receipts.items None)
    (sym c.loop-k.invariant.same) c.loop-k.invariant.grown

pub grow_next-requires-clause-told : goal.grow_next-requires-clause-told
grow_next-requires-clause-told g c κs within =
    subst (λ (id : ℕ). All (g.G.Gate.was_told c.args.gate.now id) c.loop-k.grower.receipts.items) (sym c.loop-k.invariant.same) c.loop-k.invariant.told

-- the gate stopped it
pub returns-then-not-before-clause-come : goal.returns-then-not-before-clause-come
returns-then-not-before-clause-come g c =
    let i = c.loop-k.invariant in
    let id = c.args.self.seat.id in
    let source = c.args.source.now in
    let gate = c.args.gate.now in
    let grower = c.loop-k.grower in
    let stops : g.G.Gate.may_stop gate id c.loop-k.k =
    subst (λ (n : ℕ). g.G.Gate.may_stop gate n c.loop-k.k) c.id-id.ensures (c.before-in-loop-k.ensures.stops c.if-not-before.true) in
    subst
    (λ (fault : Option GrowFault).
    HasCome g.R.Record.form.width c.args.live.now (g.S.Source.count_of source id) (g.S.Source.block_of source id) (g.G.Gate.may_stop gate id)
    (g.G.Gate.has_let gate id) (g.G.Gate.was_told gate id) id grower.seat grower.receipts.items fault)
    (sym i.none)
    (comes (g.G.Gate.may_stop gate id) (g.G.Gate.has_let gate id) i.grown (λ j lt. i.lets j (let made = i.made in omega (arith, lt, made))) i.told
    (inr (subst (λ (k : ℕ). g.G.Gate.may_stop gate id k) (sym i.made) stops)))

-- all of its blocks are made
pub returns-clause-come : goal.returns-clause-come
returns-clause-come g c =
    let i = c.loop-k.invariant in
    let id = c.args.self.seat.id in
    let source = c.args.source.now in
    let gate = c.args.gate.now in
    let grower = c.loop-k.grower in
    let end : c.loop-k.k ≡ c.count-k-end.result = omega (arith, c.loop-k-test.false, c.loop-k.auto.k-end) in
    subst
    (λ (fault : Option GrowFault).
    HasCome g.R.Record.form.width c.args.live.now (g.S.Source.count_of source id) (g.S.Source.block_of source id) (g.G.Gate.may_stop gate id)
    (g.G.Gate.has_let gate id) (g.G.Gate.was_told gate id) id grower.seat grower.receipts.items fault)
    (sym i.none)
    (comes (g.G.Gate.may_stop gate id) (g.G.Gate.has_let gate id) i.grown (λ j lt. i.lets j (let made = i.made in omega (arith, lt, made))) i.told
    (inl (i.made ∙ end ∙ c.count-k-end.ensures ∙ ap (g.S.Source.count_of source) c.id-id.ensures)))

-- a growth wasn't made
pub returns-in-Err-clause-come : goal.returns-in-Err-clause-come
returns-in-Err-clause-come g c =
    let i = c.loop-k.invariant in
    let id = c.args.self.seat.id in
    let source = c.args.source.now in
    let gate = c.args.gate.now in
    let grower = c.grow_next.new.self in
    let e = c.in-Err.ensures in
    let grown : HasGrown g.R.Record.form.width c.args.live.now (g.S.Source.count_of source id) (g.S.Source.block_of source id) id grower.seat grower.receipts.items
    (Some c.in-Err.fault) =
    subst
    (λ (n : ℕ). HasGrown g.R.Record.form.width c.args.live.now (g.S.Source.count_of source n) (g.S.Source.block_of source n) n grower.seat grower.receipts.items (Some c.in-Err.fault))
    i.same e.grown in
    let next : g.G.Gate.has_let gate id c.loop-k.k =
    subst (λ (n : ℕ). g.G.Gate.has_let gate n c.loop-k.k) c.id-id.ensures (c.before-in-loop-k.ensures.lets c.if-not-before.false) in
    comes_with (g.G.Gate.may_stop gate id) (g.G.Gate.has_let gate id) c.in-Err.fault grown (λ j lt. i.lets j (let made = e.more in omega (arith, lt, made)))
    (subst (λ (n : ℕ). All (g.G.Gate.was_told gate n) grower.receipts.items) i.same e.told)
    (subst (λ (k : ℕ). g.G.Gate.has_let gate id k) (sym (as_many_receipts grown ∙ e.more)) next)

pub returns-in-Err-clause-own : goal.returns-in-Err-clause-own
returns-in-Err-clause-own g c =
    let gate = c.args.gate.now in
    let id = c.args.self.seat.id in
    let next : g.G.Gate.has_let gate id c.loop-k.k =
    subst (λ (n : ℕ). g.G.Gate.has_let gate n c.loop-k.k) c.id-id.ensures (c.before-in-loop-k.ensures.lets c.if-not-before.false) in
    subst (λ (k : ℕ). g.G.Gate.has_let gate id k) (sym (as_many_receipts c.in-Err.ensures.grown ∙ c.in-Err.ensures.more)) next
