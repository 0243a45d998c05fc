use Rattle.std.proofs.Common.{◌≡◌, length, arith}
use Rattle.std.proofs.lemmas.List.{length-map}
use Rattle.book_core.specs.Lists.{records_of}
use Rattle.book_core.proofs.PieceLists.{place-append_left, place_behind, none_behind}
use Rattle.book_core.proofs.live.Live.find.Goals as goal

pub returns-then-i-before : goal.returns-then-i-before
returns-then-i-before g c = rw (← c.self.view_is) (place-append_left _ _ c.args.i c.find-number.result.0 c.find-number.result.1 c.find-number.ensures)

pub returns-in_err-number : goal.returns-in_err-number
returns-in_err-number g c =
    rw (c.from_residual.ensures, ← c.self.view_is, ← c.seat.view_is)
    (none_behind (records_of c.self.inside.opening.blocks.items) c.seat.inside.pass.entries c.args.i c.len-before.result c.len-before.ensures.is
    c.if-i-before.false c.in_err-number.ensures.place)

pub returns : goal.returns
returns g c =
    let blocks = c.self.inside.opening.blocks in
    let ok = blocks.ok in
    let many : length (records_of blocks.items) ≡ c.len.result = omega (arith, length-map blocks.items (λ b. b.items)) in
    rw (← c.self.view_is, ← c.seat.view_is, ← many)
    (place_behind (records_of blocks.items) c.seat.inside.pass.entries c.args.i c.len-before.result c.in_ok-number.number c.in_ok-number.place
    c.len-before.ensures.is c.if-i-before.false c.in_ok-number.ensures.place)
