use Rattle.std.proofs.Common.{◌≡◌, length, vec_len, arith}
use Rattle.book_core.proofs.Owns.{seats-pop, new-is_of, last_or_none}
use Rattle.book_core.proofs.live.Live.take_seat.Goals as goal

pub returns-clause-rest : goal.returns-clause-rest
returns-clause-rest g c = (seats-pop c.args.self.now.directory c.args.self.now.mark c.args.seats.now.items c.pop.new.self.items c.pop.result c.requires c.pop.ensures.items).0

pub returns-clause-of : goal.returns-clause-of
returns-clause-of g c =
    new-is_of c.args.self.now _ c.pop.result
    (seats-pop c.args.self.now.directory c.args.self.now.mark c.args.seats.now.items c.pop.new.self.items c.pop.result c.requires
    c.pop.ensures.items).1

pub returns-clause-seat : goal.returns-clause-seat
returns-clause-seat g c =
    let seats = c.args.seats.now in
    let ok = seats.ok in
    let many : length seats.items ≡ vec_len seats = omega arith in
    let new = seats-pop c.args.self.now.directory c.args.self.now.mark seats.items c.pop.new.self.items c.pop.result c.requires c.pop.ensures.items in
    last_or_none c.pop.result (vec_len seats) (vec_len c.pop.new.self) (length seats.items) _ _ c.pop.ensures.cases new.1 many
