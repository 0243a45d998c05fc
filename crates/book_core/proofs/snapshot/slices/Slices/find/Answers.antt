use Rattle.std.proofs.Common.{arith, ap, subst, map, length, ◌<◌, ◌/◌}
use Rattle.book_core.specs.Lists.{IsPlaceIn, joined_pieces}
use Rattle.book_core.proofs.Slices.{length_is, finds, even_between, even_place}
use Rattle.book_core.proofs.snapshot.slices.Slices.find.Goals as goal

pub returns-then-i-self : goal.returns-then-i-self
returns-then-i-self g c = rw (← c.self.view_is) (let past = c.if-i-self.true in omega (arith, length_is c.self.invariant.0))

pub search-requires-after_bounds : goal.search-requires-after_bounds
search-requires-after_bounds g c κs within =
    let inside = c.if-i-self.false in
    let same = ap (λ v. length (joined_pieces v.pieces)) c.self.view_is in
    omega (arith, length_is c.self.invariant.0)

pub returns-then-self-ne0 : goal.returns-then-self-ne0
returns-then-self-ne0 g c = rw (← c.self.view_is, c.divided-number.ensures.0, c.divided-number.ensures.1) (
    let inside = c.if-i-self.false in
    let ne = c.if-self-ne0.true in
    let i = c.args.i in
    let step = c.self.inside.step in
    let some : 0 < step = omega arith in
    let lt : i < c.self.inside.size = omega arith in
    let even = c.self.invariant.1 in
    subst (λ place. IsPlaceIn (map (λ s. s.now) c.self.inside.slices.items) i (i / step) place) (even_place even some i lt) (finds c.self.invariant.0 (i / step) i (even_between even some i lt) lt))
