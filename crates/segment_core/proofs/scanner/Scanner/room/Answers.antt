use Rattle.std.proofs.Common.{◌-◌, ◌/◌, arith}
use Rattle.segment_core.specs.Shape.{shape_of}
use Rattle.segment_core.proofs.Room.{room_held, room_most, room_fits}
use Rattle.segment_core.proofs.scanner.Scanner.room.Goals as goal

pub returns-clause-held : goal.returns-clause-held
returns-clause-held g c = λ some.
    room_held (shape_of c.args.format g.R.Record.form) c.width_of-width.result c.payload_limit.result c.args.self.now.told c.saturating_sub-bytes.result c.saturating_sub.result (omega arith)
    c.width_of-width.ensures.is c.payload_limit.ensures.is c.saturating_sub-bytes.ensures c.saturating_sub.ensures c.min.result (omega arith) some

pub returns-clause-most : goal.returns-clause-most
returns-clause-most g c = λ n can small. (
    let most =
    room_most (shape_of c.args.format g.R.Record.form) c.width_of-width.result c.payload_limit.result c.args.self.now.told c.saturating_sub-bytes.result c.saturating_sub.result (omega arith)
    c.width_of-width.ensures.is c.payload_limit.ensures.is c.saturating_sub-bytes.ensures c.saturating_sub.ensures n can in
    omega arith)

pub overflow_mul-bytes : goal.overflow_mul-bytes
overflow_mul-bytes g c =
    let fits = room_fits c.saturating_sub-bytes.result ((c.payload_limit.result - 8) / c.width_of-width.result) c.width_of-width.result (omega arith) in
    omega arith

pub overflow_add-bytes : goal.overflow_add-bytes
overflow_add-bytes g c =
    let fits = room_fits c.saturating_sub-bytes.result ((c.payload_limit.result - 8) / c.width_of-width.result) c.width_of-width.result (omega arith) in
    rw c.saturating_sub.ensures (omega arith)
