use Rattle.std.proofs.Common.{ap, ◌≤◌, length, refl, sym, subst, ◌∙◌, arith}
use Rattle.std.specs.Global.{Vec}
use Rattle.book_core.specs.Lists.{IsSeatOf}
use Rattle.book_core.specs.Appending.{Appending}
use Rattle.book_core.specs.Growing.{Grown, IsBookRefusal}
use Rattle.book_core.proofs.Steps.{learns-refl, flush_refused}
use Rattle.book_core.proofs.appender.Appender.exchange.Goals as goal

pub returns-in-Err : goal.returns-in-Err
returns-in-Err g c =
    let of = subst (λ (a : Appending _). IsSeatOf c.args.live.now a.seat) (sym c.self.view_is) c.requires.of in
    let back = c.in-Err.ensures.0 ∙ ap (λ (v : Vec g.row.R.Denot). v.items) c.replace-full.ensures.value in
    rw (← c.self.view_is) (record { of = of; grown = ((refl, back, learns-refl c.self.inside.seat), tt); room = refl })

pub returns-in-Ok-grow : goal.returns-in-Ok-grow
returns-in-Ok-grow g c =
    let e = c.in-Ok-grow.ensures in
    let full = c.in-Ok.ensures.0 ∙ ap (λ (v : Vec g.row.R.Denot). v.items) c.replace-full.ensures.value in
    let grown = subst (λ rs. Grown c.args.live.now c.self.inside.seat c.grow.new.seat rs c.in-Ok-grow.receipt) full e.list in
    rw (← c.self.view_is) (record { of = e.of; grown = (grown, ap (λ (v : Vec g.row.R.Denot). v.items) c.replace-full.ensures.after); room = refl })

pub returns-in-Err-grow : goal.returns-in-Err-grow
returns-in-Err-grow g c =
    let e = c.in-Err-grow.ensures in
    let s = c.self.inside in
    let same = c.into_vec.ensures ∙ e.list.0 in
    let full = same ∙ c.in-Ok.ensures.0 ∙ ap (λ (v : Vec g.row.R.Denot). v.items) c.replace-full.ensures.value in
    let why = subst (λ rs. IsBookRefusal c.args.live.now c.grow.new.seat (length rs) c.in-Err-grow.fault) (sym same) e.fault in
    let refused = flush_refused c.args.live.now (record { seat = c.grow.new.seat; kept = c.into_vec.result.items; room = s.room }) c.in-Err-grow.fault why in
    rw (← c.self.view_is) (record { of = e.of; grown = ((refl, full, e.list.1), refused); room = refl })

pub invariant_of-self-in-Ok-grow : goal.invariant_of-self-in-Ok-grow
invariant_of-self-in-Ok-grow g c =
    let room = ap (λ (a : Appending _). a.room) c.self.view_is in
    let next = ap (λ (v : Vec g.row.R.Denot). length v.items) c.replace-full.ensures.after in
    let within = c.requires.next in
    (omega arith, c.self.invariant.1)

pub invariant_of-self-in-Err-grow : goal.invariant_of-self-in-Err-grow
invariant_of-self-in-Err-grow g c =
    let full = c.into_vec.ensures ∙ c.in-Err-grow.ensures.list.0 ∙ c.in-Ok.ensures.0 ∙ ap (λ (v : Vec g.row.R.Denot). v.items) c.replace-full.ensures.value in
    (subst (λ rs. length rs ≤ c.self.inside.room) (sym full) c.self.invariant.0, c.self.invariant.1)
