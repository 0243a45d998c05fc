use Rattle.std.proofs.Common.{◌≡◌, ℕ, ◌+◌, ◌-◌, ◌≤◌, List, ◌++◌, ◌∙◌, length, take, drop, map, refl, ap, ap₂, sym, subst, arith}
use Rattle.std.proofs.lemmas.List.{length-drop, length-append, take-append-le}
use Rattle.std.proofs.lemmas.Result.{err_from_is_err_and}
use Rattle.record_core.specs.Limits.{record_limit}
use Rattle.block_core.specs.Growth.{Growth}
use Rattle.directory_core.specs.Chain.{Agree, total}
use Rattle.directory_core.specs.Known.{Known}
use Rattle.book_core.specs.Lists.{Phase, Seated, opening_of, joined_pieces, own_of}
use Rattle.book_core.specs.Snapshots.{Shown, growth_records, full_of}
use Rattle.book_core.proofs.Puts.{seated}
use Rattle.book_core.proofs.ShownLists.{shows_all, same_growths, behind, all_added}
use Rattle.book_core.proofs.snapshot.Snapshot.update.Goals as goal

abbrev shown : {R : Type 0} → Phase R → ℕ → List (List R) → Shown R
shown live blocks pieces = record { of = live; growths = drop blocks pieces }

pub returns-then-knows-has-clause-more : goal.returns-then-knows-has-clause-more
returns-then-knows-has-clause-more g c le =
    let count = c.count.ensures in
    let known = c.known-knows.ensures.count in
    let if = c.if-knows-has.true in
    let has = length-drop c.self.inside.blocks c.self.inside.slices.pieces in
    let growths = ap (λ v. length v.growths) c.self.view_is in
    shows_all c.args.self.now c.args.seat.now (same_growths c.args.self.now c.args.seat.now c.requires.agree (omega arith))

pub add_growths-requires-clause-behind : goal.add_growths-requires-clause-behind
add_growths-requires-clause-behind g c _ _ =
    let i = c.self.invariant in
    let pieces = c.self.inside.slices.pieces in
    let blocks = c.self.inside.blocks in
    let count = c.count.ensures in
    let known = c.known-knows.ensures.count in
    let more = c.if-knows-has.false in
    let agree = subst (λ (v : Shown g.row.R.Denot). Agree v.growths (growth_records c.args.seat.now)) (sym c.self.view_is) c.requires.agree in
    let has = length-drop blocks pieces in
    let n = c.count.result - blocks in
    ap (λ ps. length (joined_pieces ps)) c.reserve.ensures.same
    ∙ (behind c.self.inside.live.now c.args.seat.now pieces blocks n i.0 i.1 (omega arith) agree (omega arith)
    ∙ ap (λ s. length (opening_of c.self.inside.live.now) + total (take n s.pass.entries)) (sym c.seat.view_is))

pub returns-clause-more : goal.returns-clause-more
returns-clause-more g c le =
    let i = c.self.invariant in
    let pieces = c.self.inside.slices.pieces in
    let blocks = c.self.inside.blocks in
    let count = c.count.ensures in
    let known = c.known-knows.ensures.count in
    let more = c.if-knows-has.false in
    let agree = subst (λ (v : Shown g.row.R.Denot). Agree v.growths (growth_records c.args.seat.now)) (sym c.self.view_is) c.requires.agree in
    let has = length-drop blocks pieces in
    let n = c.count.result - blocks in
    let added = ap (λ v. v.pieces) c.lay_hints.ensures ∙ (c.add_growths.ensures.pieces ∙ ap₂ (λ ps s. ps ++ drop n (growth_records s)) c.reserve.ensures.same c.seat.view_is) in
    rw (← c.self.view_is) (shows_all _ c.args.seat.now (ap (drop blocks) added ∙ all_added c.self.inside.live.now c.args.seat.now pieces blocks n i.0 i.1 (omega arith) agree (omega arith)))

pub add_growths-requires-clause-of : goal.add_growths-requires-clause-of
add_growths-requires-clause-of g c _ _ =
    ap (λ (s : Seated _). s.pass.of) c.seat.view_is ∙ c.requires.of.directory ∙ sym (ap (λ (v : Shown _). v.of.directory) c.self.view_is)

pub add_growths-requires-clause-from : goal.add_growths-requires-clause-from
add_growths-requires-clause-from g c _ _ =
    let known = c.known-knows.ensures.count in
    let more = c.if-knows-has.false in
    let entries = ap (λ (s : Seated _). length s.pass.entries) c.seat.view_is in
    omega (arith, known, more, entries)

pub add_growths-requires-clause-limit : goal.add_growths-requires-clause-limit
add_growths-requires-clause-limit g c _ _ = c.self.invariant.2

pub invariant_of-self : goal.invariant_of-self
invariant_of-self g c =
    let live = c.self.inside.live.now in
    let blocks : ℕ = c.self.inside.blocks in
    subst (λ (ps : List (List g.row.R.Denot)). (blocks ≤ length ps) × (take blocks ps ≡ full_of live.blocks) × (live.directory.limit + length (opening_of live) ≡ record_limit))
    (sym c.reserve.ensures.same) c.self.invariant

pub invariant_of-self-2 : goal.invariant_of-self-2
invariant_of-self-2 g c =
    let i = c.self.invariant in
    let pieces = c.self.inside.slices.pieces in
    let blocks : ℕ = c.self.inside.blocks in
    let more = drop (c.count.result - blocks) (map (λ (e : Growth _). e.records) c.seat.inside.pass.entries) in
    let added = ap (λ v. v.pieces) c.lay_hints.ensures ∙ (c.add_growths.ensures.pieces ∙ ap (λ ps. ps ++ more) c.reserve.ensures.same) in
    let long = ap length added in
    (omega (arith, i.0, long, length-append pieces more), ap (take blocks) added ∙ (take-append-le blocks pieces more i.0 ∙ i.1), i.2)

pub invariant_of-seat : goal.invariant_of-seat
invariant_of-seat g c =
    let s = c.seat.inside in
    subst (λ (p : Known _). (s.serial ≡ length (own_of s.id (take s.checked p.entries))) × (s.serial ≤ s.checked) × (s.checked ≤ length p.entries))
    (sym c.add_growths.ensures.same) c.seat.invariant

pub returns-clause-same : goal.returns-clause-same
returns-clause-same g c =
    let s = c.seat.inside in
    ap (λ p. seated s.id s.checked p s.mark) c.add_growths.ensures.same ∙ c.seat.view_is

pub returns-clause-no_more : goal.returns-clause-no_more
returns-clause-no_more g c le =
    let count = c.count.ensures in
    let known = c.known-knows.ensures.count in
    let more = c.if-knows-has.false in
    let has = length-drop c.self.inside.blocks c.self.inside.slices.pieces in
    let growths = ap (λ v. length v.growths) c.self.view_is in
    absurd (omega (arith, le, count, known, more, has, growths))

pub returns-clause-of : goal.returns-clause-of
returns-clause-of g c = ap (λ (v : Shown _). v.of) c.self.view_is

pub returns-in_err-reserve-clause-more : goal.returns-in_err-reserve-clause-more
returns-in_err-reserve-clause-more g c = let p = err_from_is_err_and c.from_residual.result c.from_residual.ensures.1 in rw (p.1) tt

pub returns-in_err-reserve-clause-no_more : goal.returns-in_err-reserve-clause-no_more
returns-in_err-reserve-clause-no_more g c le =
    ap (shown c.self.inside.live.now c.self.inside.blocks) c.reserve.ensures.same ∙ c.self.view_is

pub returns-in_err-reserve-clause-of : goal.returns-in_err-reserve-clause-of
returns-in_err-reserve-clause-of g c = ap (λ (v : Shown _). v.of) c.self.view_is

pub returns-in_err-reserve-clause-refused : goal.returns-in_err-reserve-clause-refused
returns-in_err-reserve-clause-refused g c =
    let p = err_from_is_err_and c.from_residual.result c.from_residual.ensures.1 in
    let count = c.count.ensures in
    let known = c.known-knows.ensures.count in
    let more = c.if-knows-has.false in
    let has = length-drop c.self.inside.blocks c.self.inside.slices.pieces in
    let growths = ap (λ v. length v.growths) c.self.view_is in
    rw (p.1, p.2)
    (refl, omega (arith, count, known, more, has, growths), ap (shown c.self.inside.live.now c.self.inside.blocks) c.reserve.ensures.same ∙ c.self.view_is)
