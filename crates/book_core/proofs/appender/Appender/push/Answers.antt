use Rattle.std.proofs.Common.{length, ap, arith, refl, ◌∙◌, ◌++◌, ◌∷◌, []}
use Rattle.std.proofs.lemmas.Result.{err_from_is_err_and}
use Rattle.book_core.specs.Appending.{Appending}
use Rattle.book_core.proofs.Steps.{append_refused, learns-refl}
use Rattle.book_core.proofs.appender.Appender.push.Goals as goal

pub returns-in_err-receipt-clause-appended : goal.returns-in_err-receipt-clause-appended
returns-in_err-receipt-clause-appended g c =
    let p = err_from_is_err_and c.from_residual-in_err-receipt.result c.from_residual-in_err-receipt.ensures.1 in
    let told = c.in_err-receipt.ensures.grown in
    let kept = ap length told.0.1 in
    let room = told.0.0 in
    let most = c.self.invariant.0 in
    let full = c.if-len-self.false in
    let len = c.len.ensures in
    let ok = c.self.inside.kept.ok in
    let was = ap (λ (a : Appending _). length a.kept) c.self.view_is in
    let had = ap (λ (a : Appending _). a.room) c.self.view_is in
    rw (p.1, p.2) (told.0, append_refused c.args.live.now c.exchange.new.self c.in_err-receipt.field-0.0 (omega arith) told.1)

pub returns-in_err-reserve_exact-clause-appended : goal.returns-in_err-reserve_exact-clause-appended
returns-in_err-reserve_exact-clause-appended g c =
    let p = err_from_is_err_and c.from_residual.result c.from_residual.ensures.1 in
    rw (p.1, p.2, ← c.self.view_is) ((refl, c.in_err-reserve_exact.ensures.items, learns-refl c.self.inside.seat), tt)

pub returns-in_err-next-clause-appended : goal.returns-in_err-next-clause-appended
returns-in_err-next-clause-appended g c =
    let p = err_from_is_err_and c.from_residual-in_err-next.result c.from_residual-in_err-next.ensures.1 in
    rw (p.1, p.2) ((refl, refl, learns-refl c.args.self.now.seat), tt)

pub returns-then-len-self-clause-appended : goal.returns-then-len-self-clause-appended
returns-then-len-self-clause-appended g c =
    let ok = c.self.inside.kept.ok in
    let len = c.len.ensures in
    let less = c.if-len-self.true in
    rw (← c.self.view_is) (refl, (omega arith, refl, c.push_reserved.ensures.items ∙ ap (λ xs. xs ++ c.args.v ∷ []) c.in_ok-reserve_exact.ensures.items))

pub returns-clause-appended : goal.returns-clause-appended
returns-clause-appended g c =
    let e = c.in_ok-receipt.ensures in
    let most = c.self.invariant.0 in
    let full = c.if-len-self.false in
    let len = c.len.ensures in
    let ok = c.self.inside.kept.ok in
    let was = ap (λ (a : Appending _). length a.kept) c.self.view_is in
    let had = ap (λ (a : Appending _). a.room) c.self.view_is in
    (e.room, (omega arith, e.grown.0, e.grown.1 ∙ c.push_reserved-2.ensures.items ∙ ap (λ xs. xs ++ c.args.v ∷ []) c.in_ok-next.ensures.items))
