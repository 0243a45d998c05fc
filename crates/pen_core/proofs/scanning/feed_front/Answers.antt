use Rattle.std.proofs.lemmas.Grind.{common_steps}
use Rattle.std.proofs.Common.{◌++◌, take, sym, subst, arith}
use Rattle.std.proofs.lemmas.Result.{MatchResult-weaker, err_from_is_err_and}
use Rattle.disk_core.specs.Calls.{bytes_of}
use Rattle.pen_core.specs.Opening.{IsOpenRefusal}
use Rattle.pen_core.proofs.Pieces.{fed_front, lost_here}
use Rattle.pen_core.proofs.scanning.feed_front.Goals as goal

pub returns-in_err-feed_all-clause-refused : goal.returns-in_err-feed_all-clause-refused
returns-in_err-feed_all-clause-refused g c = λ model.
    let p = err_from_is_err_and c.from_residual.result c.from_residual.ensures.1 in
    rw (p.1, p.2) (c.in_err-feed_all.ensures.refused model c.args.tail.now)

pub returns-clause-refused : goal.returns-clause-refused
returns-clause-refused g c = λ model.
    let form = g.R.Record.form in
    let bytes = bytes_of (g.D.Disk.states c.args.disk.now) in
    let front = take c.args.len bytes in
    let fed =
    fed_front form (g.D.Disk.keeps c.feed_all.new.disk) bytes c.args.len c.feed_all.new.scanner
    model (c.requires.length (c.feed_all.ensures.model model)) c.in_ok-feed_all.ensures.read in
    MatchResult-weaker c.take_piece.result c.take_piece.ensures.memory
    (λ _ _. tt)
    (λ fault memory.
    subst (IsOpenRefusal form (front ++ c.args.tail.now)) (sym memory.0)
    (lost_here form (front ++ c.args.tail.now) c.take_piece.new.scanner (c.take_piece.ensures.fed front fed) memory.1))

pub returns-clause-fed : goal.returns-clause-fed
returns-clause-fed g c = λ model.
    let bytes = bytes_of (g.D.Disk.states c.args.disk.now) in
    let fed =
    fed_front g.R.Record.form (g.D.Disk.keeps c.feed_all.new.disk) bytes c.args.len c.feed_all.new.scanner
    model (c.requires.length (c.feed_all.ensures.model model)) c.in_ok-feed_all.ensures.read in
    MatchResult-weaker c.take_piece.result c.take_piece.ensures.memory
    (λ _ _. c.take_piece.ensures.fed (take c.args.len bytes) fed)
    (λ fault memory. tt)

pub returns-clause-taken : goal.returns-clause-taken
returns-clause-taken g c =
    let read = c.in_ok-feed_all.ensures.read in
    MatchResult-weaker c.take_piece.result c.take_piece.ensures.memory
    (λ _ _. (read.image ++ c.args.tail.now, c.take_piece.ensures.fed read.image read.fed))
    (λ fault memory. tt)

pub take_piece-requires-after_bounds : goal.take_piece-requires-after_bounds
take_piece-requires-after_bounds g c κs within =
    let read = c.in_ok-feed_all.ensures.read in
    (read.image, read.fed, omega (arith, read.inside, c.requires.fits))

pub returns-clause-faults : goal.returns-clause-faults
returns-clause-faults g c = grind (arith, common_steps)
