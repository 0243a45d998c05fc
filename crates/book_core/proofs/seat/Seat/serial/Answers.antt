use Rattle.std.proofs.Common.{subst, refl}
use Rattle.book_core.specs.Lists.{StandInList}
use Rattle.book_core.proofs.seat.Seat.serial.Goals as goal

pub returns-clause-stand_in_list : goal.returns-clause-stand_in_list
returns-clause-stand_in_list g c = subst StandInList c.self.view_is (record { first = c.self.inside.checked; inside = c.self.invariant.2; are = refl })
