use Rattle.std.proofs.Common.{◌++◌, take}
use Rattle.disk_core.specs.Calls.{bytes_of}
use Rattle.pen_core.proofs.scanning.scan_front.Goals as goal

pub returns-in-Ok-clause-found : goal.returns-in-Ok-clause-found
returns-in-Ok-clause-found g c = λ model.
    let front = take c.args.len (bytes_of (g.D.Disk.states c.args.disk.now)) in
    c.in-Ok.ensures.answer (front ++ c.args.tail.now) (c.in_ok-feed_front.ensures.fed model)

pub returns-in-Err-clause-refused : goal.returns-in-Err-clause-refused
returns-in-Err-clause-refused g c = λ model.
    let front = take c.args.len (bytes_of (g.D.Disk.states c.args.disk.now)) in
    c.in-Err.ensures.answer (front ++ c.args.tail.now) (c.in_ok-feed_front.ensures.fed model)

pub end-requires-after_bounds : goal.end-requires-after_bounds
end-requires-after_bounds g c κs within = c.in_ok-feed_front.ensures.taken
