use Rattle.std.proofs.Common.{inr}
use Rattle.disk_core.specs.Calls.{bytes_of}
use Rattle.pen_core.proofs.Pieces.{found_there, fed_whole}
use Rattle.pen_core.proofs.scanning.scan_disk.Goals as goal

pub returns-in-Ok-clause-found : goal.returns-in-Ok-clause-found
returns-in-Ok-clause-found g c = λ model.
    (c.in-Ok.ensures.answer (bytes_of (g.D.Disk.states c.args.disk.now)) (fed_whole c.in_ok-scanner.ensures.read model)).0

pub returns-in-Ok-clause-found_on : goal.returns-in-Ok-clause-found_on
returns-in-Ok-clause-found_on g c =
    let disk = c.in_ok-scanner.ensures.read in
    let answer = c.in-Ok.ensures.answer disk.read.image disk.read.fed in
    found_there disk c.in-Ok.found.0 c.in-Ok.found.1 answer.0 answer.1

pub returns-in-Err-clause-refused : goal.returns-in-Err-clause-refused
returns-in-Err-clause-refused g c = λ model.
    c.in-Err.ensures.answer (bytes_of (g.D.Disk.states c.args.disk.now)) (fed_whole c.in_ok-scanner.ensures.read model)

pub returns-in-Err-clause-reads : goal.returns-in-Err-clause-reads
returns-in-Err-clause-reads g c = λ model. inr (c.in_ok-scanner.ensures.calls.reads model)
